-- As long as it stands in the way, it goes on to the right.
use Rattle.std.proofs.Common.{arith}
use Rattle.slice_sweep.specs.Front.{bundles_in}
use Rattle.slice_outlines.proofs.Standing.{names_there, named_size}
use Rattle.slice_outlines.proofs.cursor.Cursor.leave.Goals as goal

pub way_out-requires-clause-there : goal.way_out-requires-clause-there
way_out-requires-clause-there c =
    names_there c.args.edges.now c.args.marks.now (bundles_in c.args.front.now) c.requires.named c.requires.members

pub go_right-requires-clause-stands : goal.go_right-requires-clause-stands
go_right-requires-clause-stands c = record {
  shape = c.requires.stands.shape;
  on = c.strands.invariant c.requires.stands.shape c.requires.stands.on;
}

pub go_right-requires-clause-there : goal.go_right-requires-clause-there
go_right-requires-clause-there c =
    let size = named_size c.args.marks.now (bundles_in c.args.front.now) c.requires.named in
    omega (arith, size, c.in-Some.ensures.right.1)

pub strands-smaller : goal.strands-smaller
strands-smaller c = omega (arith, c.in-Some.ensures.right.0, c.in-Some.ensures.right.1)
