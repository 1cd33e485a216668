-- The heights of rows, sorted and each kept once.
use Rattle.std.proofs.Common.{Less, ◌≡◌, List, [], ◌∷◌, flat_map, refl, sym, subst, ℤ, ◌<ℤ◌}
use Rattle.std.specs.Prelude.{All, Contains, unsigned_abs, ◌≤◌}
use Rattle.std.specs.List.{dedup}
use Rattle.std.specs.List.Sorted.{IsPermutation, IsSorted}
use Rattle.std.specs.Ordering.{int_cmp, int_eq}
use Rattle.std.specs.List.Sorted.{IsStrictlySortedBy}
use Rattle.std.proofs.lemmas.Cmp.{int_cmp_total, int_ranked, eq_by_cmp_equiv}
use Rattle.std.proofs.lemmas.Bool.Decides.{Decides-int_eq}
use Rattle.std.proofs.lemmas.List.Elements.{All-nil, All-head, All-tail, All-append, All-map, All-weaker}
use Rattle.std.proofs.lemmas.List.Filters.{All-dedup}
use Rattle.std.proofs.lemmas.List.Kept.{Contains-dedup, IsStrictlySortedBy-dedup}
use Rattle.std.proofs.lemmas.List.Sorted.{All-permutation, Contains-permutation}
use Rattle.std.proofs.lemmas.Map.Keys.{sorted_tail}
use Rattle.std.proofs.lemmas.Map.Views.{All-after_first}
use Rattle.scad_geom.specs.Limits.{coordinate_limit}
use Rattle.plan_support.specs.Rows.{Row, AreRows}
use Rattle.plan_support.specs.Lines.{Ascend, row_heights, AreHeights}

ascend_of : (ys : List ℤ) → IsStrictlySortedBy int_cmp ys → Ascend ys
ascend_of [] h = tt
ascend_of (y ∷ ys) h = (
  All-weaker (λ z. int_cmp y z ≡ Less) (λ z. y <ℤ z) (λ z e. int_ranked y z Less (sym e)) ys
      (All-after_first int_cmp y ys h),
  ascend_of ys (sorted_tail int_cmp y ys h),
)

abbrev IsSmall : ℤ → Type 0
IsSmall y = unsigned_abs y ≤ coordinate_limit

all_small : (layers : List (List Row)) → All AreRows layers → All IsSmall (flat_map row_heights layers)
all_small [] a = All-nil IsSmall
all_small (rows ∷ layers) a =
    All-append IsSmall (row_heights rows) (flat_map row_heights layers)
    (All-map IsSmall (λ (r : Row). r.y) rows (All-head AreRows rows layers a).within)
    (all_small layers (All-tail AreRows rows layers a))

pub are_heights : (layers : List (List Row)) (first sorted last : List ℤ) → All AreRows layers
    → first ≡ flat_map row_heights layers → IsPermutation first sorted → IsSorted int_cmp sorted → last
    ≡ dedup int_eq sorted
    → AreHeights layers last
are_heights layers first sorted last a e p s d = subst (AreHeights layers) (sym d) (record {
  ascend = ascend_of (dedup int_eq sorted) (IsStrictlySortedBy-dedup int_cmp_total (λ x y. refl) sorted s);
  within = All-dedup int_eq IsSmall sorted
      (All-permutation IsSmall first sorted p (subst (All IsSmall) (sym e) (all_small layers a)));
  all = λ y c. Contains-dedup (eq_by_cmp_equiv int_cmp_total) (λ x z. (Decides-int_eq x z).0) sorted y
      (Contains-permutation first sorted y p (subst (λ (ys : List ℤ). Contains ys y) (sym e) c));
})
