-- The order of points is total and tells all points apart, and sorted edges ascend.
use Rattle.std.proofs.Common.{◌≡◌, ℕ, zero, suc, ◌<◌, ◌≤◌, Bool, true, false, true≢false, List, [], ◌∷◌, length, get_or, refl, arith}
use Rattle.std.specs.Prelude.{IsSortedBy}
use Rattle.std.specs.Ordering.{int_cmp, ordering_reverse, is_lt}
use Rattle.std.specs.declared.cmp.Ordering.{Ordering}
use Rattle.std.specs.declared.cmp.Ordering.TheVariants.{Less, Equal, Greater}
use Rattle.std.specs.Cmp.{IsTotalOrder, IsStrictWeakOrder}
use Rattle.std.proofs.lemmas.Cmp.{int_cmp_total, then_total, on_total}
use Rattle.std.proofs.lemmas.Map.Lookups.{exact_signed}
use Rattle.std.proofs.lemmas.List.Sorted.{sorted_far}
use Rattle.scad_base.proofs.Tests.{both_equal}
use Rattle.scad_geom.specs.declared.point.Pt.{Pt}
use Rattle.scad_geom.specs.declared.point.Edge.{Edge}
use Rattle.scad_geom.specs.PointOrder.{point_cmp, IsAscendingBy}

pub point_total : IsTotalOrder point_cmp
point_total = then_total (on_total (λ (p : Pt). p.y) int_cmp_total) (on_total (λ (p : Pt). p.x) int_cmp_total)

pub neither : (r : Ordering) → is_lt r ≡ false → is_lt (ordering_reverse r) ≡ false → r ≡ Equal
neither Less a b = absurd (true≢false a)
neither Equal a b = refl
neither Greater a b = absurd (true≢false b)

pub same_point : (p q : Pt) → point_cmp p q ≡ Equal → p ≡ q
same_point p q h =
    let both = both_equal (int_cmp p.y q.y) (int_cmp p.x q.x) h in
    let y : p.y ≡ q.y = exact_signed p.y q.y both.0 in
    let x : p.x ≡ q.x = exact_signed p.x q.x both.1 in
    λ i. record { x = x i; y = y i }

-- ---- by an order of edges
module _ (is_less : Edge → Edge → Bool) (order : IsStrictWeakOrder is_less) where
  ascending_from : (es : List Edge) → ((i j : ℕ) (d : Edge) → i ≤ j → j < length es
      → is_less (get_or es j d) (get_or es i d) ≡ false) → IsAscendingBy is_less es
  ascending_from [] h = tt
  ascending_from (e ∷ es) h = (
    λ k d l. h zero (suc k) d (omega arith) (omega arith),
    ascending_from es (λ i j d a b. h (suc i) (suc j) d (omega arith) (omega arith)),
  )

  pub ascending_sorted : (es : List Edge) → IsSortedBy is_less es → IsAscendingBy is_less es
  ascending_sorted es h = ascending_from es (sorted_far is_less order es h)
