-- The comparison is that of places.
use Rattle.std.proofs.Common.{ap, ◌∙◌}
use Rattle.std.specs.Ordering.{is_lt}
use Rattle.std.specs.Prelude.{pos, ◌*ℤ◌}
use Rattle.scad_base.proofs.Tests.{is_lt-int_cmp}
use Rattle.slice_pieces.specs.declared.piece.Spot.{Spot}
use Rattle.slice_border.specs.Stops.{is_left}
use Rattle.slice_outlines.proofs.stretch.is_behind.Goals as goal

pub returns : goal.returns
returns c =
    let a : Spot = c.stop_of.result.spot in
    let s : Spot = c.args.s.now.spot in
    c.is_lt.ensures ∙ ap is_lt c.compare.ensures ∙ is_lt-int_cmp (s.x *ℤ pos a.run) (a.x *ℤ pos s.run)
    ∙ ap (λ (t : Spot). is_left s t) c.stop_of.ensures
