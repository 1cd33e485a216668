-- The front has as many strands as there are marks.
use Rattle.std.proofs.Common.{arith}
use Rattle.slice_sweep.specs.Front.{bundles_in}
use Rattle.slice_outlines.proofs.Standing.{named_size}
use Rattle.slice_outlines.proofs.cursor.is_apart.Goals as goal

pub is_known_apart-requires-clause-there : goal.is_known_apart-requires-clause-there
is_known_apart-requires-clause-there c =
    let size = named_size c.args.marks.now (bundles_in c.args.front.now) c.requires.named in
    omega (arith, size, c.requires.place)
