-- Pairs in the order of their spots.
use Rattle.std.proofs.Common.{map, ap, ◌∙◌, sym, subst}
use Rattle.std.specs.List.Sorted.{IsStrictlySortedBy}
use Rattle.scad_hull.specs.Distinct.{distinct}
use Rattle.scad_hull.specs.Flat.{flat_cmp}
use Rattle.scad_hull.specs.Spot.{pair_of}
use Rattle.scad_hull.proofs.Orders.{spot_cmp, spots_same, spots_sorted}
use Rattle.scad_hull.proofs.spot.in_order.Goals as goal

pub returns-clause-value : goal.returns-clause-value
returns-clause-value c =
    c.in_ok-pairs.ensures
    ∙ ap (map pair_of) (c.as_slice-2.ensures.value ∙ c.in_ok-sorted.ensures.value
    ∙ ap (distinct spot_cmp) (c.as_slice.ensures.value ∙ c.in_ok-spots.ensures))
    ∙ spots_same c.args.points.now

pub returns-clause-ordered : goal.returns-clause-ordered
returns-clause-ordered c =
    subst (IsStrictlySortedBy flat_cmp) (ap (map pair_of) (sym c.as_slice-2.ensures.value)
    ∙ sym c.in_ok-pairs.ensures) (spots_sorted c.in_ok-sorted.sorted.items c.in_ok-sorted.ensures.ordered)
