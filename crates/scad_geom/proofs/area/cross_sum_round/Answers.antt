-- The sum so far and what is left make the whole, and the sizes of what is handed on.
use Rattle.std.proofs.Common.{◌≡◌, ◌≤◌, ◌<◌, ◌+◌, ℕ, ℤ, ◌+ℤ◌, to_z, List, drop, get_or, length, ap, sym, ◌∙◌, arith}
use Rattle.std.proofs.lemmas.List.{at_drop_more, at_drop_all}
use Rattle.std.proofs.Math.IntN.{+ℤ_assoc, +ℤ_idl, +ℤ_idr}
use Rattle.scad_geom.specs.declared.point.Pt.{Pt}
use Rattle.scad_geom.specs.Area.{cross, cross_sum}
use Rattle.scad_geom.specs.Loop.{path}
use Rattle.scad_geom.proofs.Casts.{sizes, by_cast}
use Rattle.scad_geom.proofs.area.cross_sum_round.Goals as goal
use mir.Syntax.{w128}

module _ (first from : Pt) (rest : List Pt) (i : ℕ) (sum next : ℤ) where
  one_more : (to : Pt) → i < length rest → next ≡ sum +ℤ cross (record { a = from; b = get_or rest i to })
      → sum +ℤ cross_sum (path from (drop i rest) first)
      ≡ next +ℤ cross_sum (path (get_or rest i to) (drop (i + 1) rest) first)
  one_more to here is =
      ap (λ left. sum +ℤ left) (at_drop_more (λ left. cross_sum (path from left first)) rest i to here)
      ∙ sym (+ℤ_assoc sum _ _)
      ∙ ap (λ all. all +ℤ cross_sum (path (get_or rest i to) (drop (i + 1) rest) first)) (sym is)

  last_one : length rest ≤ i → next ≡ sum +ℤ cross (record { a = from; b = first })
      → sum +ℤ cross_sum (path from (drop i rest) first) ≡ next
  last_one none is =
      ap (λ left. sum +ℤ left) (at_drop_all (λ left. cross_sum (path from left first)) rest i none ∙ +ℤ_idr _)
      ∙ sym is

pub points-init : goal.points-init
points-init c = record { small = omega arith; sum = sym (+ℤ_idl _) }

pub offset_bounds-rest-to-index : goal.offset_bounds-rest-to-index
offset_bounds-rest-to-index c = omega arith

pub plus-sum-requires : goal.plus-sum-requires
plus-sum-requires c = record { fits = omega (arith, sizes) }

pub points-preserved : goal.points-preserved
points-preserved c =
    let sum : ℤ = to_z w128 c.points.sum-bits in
    record {
      small = omega (arith, sizes);
      sum = c.points.invariant.sum
          ∙ one_more c.args.first c.points.from c.args.rest.now c.points.to-index sum _ _ c.points-test.true
          (by_cast w128 c.plus-sum.type_inv c.plus-sum.ensures.sum
          ∙ ap (λ z. sum +ℤ z) (by_cast w128 c.cross.type_inv c.cross.ensures.value));
    }

pub plus-requires : goal.plus-requires
plus-requires c = record { fits = omega (arith, sizes) }

pub returns : goal.returns
returns c =
    let sum : ℤ = to_z w128 c.points.sum-bits in
    sym (c.points.invariant.sum
    ∙ last_one c.args.first c.points.from c.args.rest.now c.points.to-index sum _ c.points-test.false
    (by_cast w128 c.plus.type_inv c.plus.ensures.sum
    ∙ ap (λ z. sum +ℤ z) (by_cast w128 c.cross-2.type_inv c.cross-2.ensures.value)))
