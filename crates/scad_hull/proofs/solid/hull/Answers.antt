-- The points in order are in range, and the hull is that of the definition.
use Rattle.std.proofs.Common.{◌≤◌, length, arith, sym, ap, ◌∙◌, subst}
use Rattle.std.specs.List.Sorted.{IsStrictlySortedBy}
use Rattle.scad_hull.specs.Flat.{point_count_limit}
use Rattle.scad_hull.specs.Space.{space_cmp}
use Rattle.scad_hull.proofs.Ranges.{range_kept, small_kept, room_kept}
use Rattle.scad_hull.proofs.Solids.{hull_told}
use Rattle.scad_hull.proofs.solid.hull.Goals as goal

pub solid-requires : goal.solid-requires
solid-requires c = record {
  points = small_kept c.args.points.now c.as_slice.result.now c.requires
      (c.as_slice.ensures.value ∙ c.in-Ok.ensures.value);
  room = room_kept c.args.points.now c.as_slice.result.now c.requires
      (c.as_slice.ensures.value ∙ c.in-Ok.ensures.value);
  range = range_kept c.args.points.now c.as_slice.result.now c.requires
      (c.as_slice.ensures.value ∙ c.in-Ok.ensures.value);
  sorted = subst (IsStrictlySortedBy space_cmp) (sym c.as_slice.ensures.value) c.in-Ok.ensures.ordered;
}

pub returns-in-Ok-solid : goal.returns-in-Ok-solid
returns-in-Ok-solid c =
    let same = ap length c.as_slice.ensures.value in
    let few : length c.as_slice.result.now ≤ point_count_limit = omega arith in
    hull_told c.args.points.now c.as_slice.result.now c.in-Ok-solid.solid
    (c.as_slice.ensures.value ∙ c.in-Ok.ensures.value) few
    c.in-Ok-solid.ensures
