-- The comparison is that of places.
use Rattle.std.proofs.Common.{sym, ap, ◌∙◌}
use Rattle.std.specs.Ordering.{is_lt}
use Rattle.std.specs.Prelude.{pos, ◌*ℤ◌}
use Rattle.scad_base.proofs.Tests.{is_lt-int_cmp}
use Rattle.slice_pieces.specs.declared.piece.Spot.{Spot}
use Rattle.slice_outlines.proofs.StrandSearch.{left_true}
use Rattle.slice_outlines.proofs.aside.is_left.Goals as goal

pub returns : goal.returns
returns c = λ t.
    let a : Spot = c.args.s.now.spot in
    let b : Spot = c.args.t.now.spot in
    left_true a b (sym (c.is_lt.ensures ∙ ap is_lt c.compare.ensures ∙ is_lt-int_cmp (a.x *ℤ pos b.run) (b.x *ℤ pos a.run)) ∙ t)
