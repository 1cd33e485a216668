-- The order of segments matters neither for balance nor for winding.
use Rattle.std.proofs.Common.{◌≡◌, Bool, List, [], ◌∷◌, ◌++◌, refl, sym, ap, ap₂, ◌∙◌}
use lib.IntN.{ℤ, ◌+ℤ◌}
use Rattle.std.specs.Prelude.{IsPermutation}
use Rattle.std.proofs.lemmas.List.Sorted.{sum_by-IsPermutation}
use Rattle.scad_geom.specs.Point.{Point, is_same_point}
use Rattle.scad_geom.specs.Segment.{Segment}
use Rattle.scad_geom.specs.Winding.{turn, wind_by}
use Rattle.scad_geom.proofs.Balance.{once}
use Rattle.scad_geom.proofs.Sums.{sum_z, sum_z-append, sum_z-permutation}
use Rattle.winding_laws.specs.Joining.{OrderKeepsBalance, OrderKeepsWinding}

pub order_keeps_balance : OrderKeepsBalance
order_keeps_balance ss ts m b = record {
  each = λ p d.
      sum_by-IsPermutation (λ (s : Segment). once (is_same_point p s.from)) ss ts m
      ∙ b.each p d
      ∙ sym (sum_by-IsPermutation (λ (s : Segment). once (is_same_point p s.to)) ss ts m);
}

module _ (above right : Bool) (q : Point) where
  -- a winding number is the sum of the turns
  abbrev turns : List Segment → ℤ
  turns ss = sum_z (λ (s : Segment). turn above right q s.from s.to) ss

  wind_turns : (ss : List Segment) → wind_by above right q ss ≡ turns ss
  wind_turns [] = refl
  wind_turns (s ∷ ss) = ap (λ (z : ℤ). turn above right q s.from s.to +ℤ z) (wind_turns ss)

  pub wind-permuted : (ss ts : List Segment) → IsPermutation ss ts
      → wind_by above right q ts ≡ wind_by above right q ss
  wind-permuted ss ts m = wind_turns ts ∙ sum_z-permutation (λ (s : Segment). turn above right q s.from s.to) ss ts m
      ∙
      sym (wind_turns ss)

  pub wind-append : (ss ts : List Segment) → wind_by above right q (ss ++ ts)
      ≡ wind_by above right q ss +ℤ wind_by
      above right q ts
  wind-append ss ts =
      wind_turns (ss ++ ts)
      ∙ sum_z-append (λ (s : Segment). turn above right q s.from s.to) ss ts
      ∙ sym (ap₂ (λ (y z : ℤ). y +ℤ z) (wind_turns ss) (wind_turns ts))

pub order_keeps_winding : OrderKeepsWinding
order_keeps_winding ss ts m above right q = wind-permuted above right q ss ts m
