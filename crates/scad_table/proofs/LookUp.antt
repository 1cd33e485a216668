-- What a binary search answers in rows that ascend is what their table has.
use Rattle.std.proofs.Common.{◌≡◌, ◌≢◌, ℕ, zero, suc, ◌+◌, ◌<◌, false, List, [], ◌∷◌, length, get_or, Option, Some, None, IsNone, is_some, ◌↔◌, Result, Ok, Err, MatchResult, inl, inr, arith, sym, ◌∙◌, ap, subst, refl}
use mathlib.Core.Bool.{true≢false}
use Rattle.std.specs.Ordering.{nat_cmp, ordering_index, is_lt, is_eq, ordering_reverse}
use Rattle.std.specs.declared.cmp.Ordering.{Ordering}
use Rattle.std.specs.declared.cmp.Ordering.TheVariants.{Less, Equal, Greater}
use Rattle.std.specs.Cmp.Lexicographic.{slice_cmp, nat_list_cmp_total}
use Rattle.std.specs.FinMap.{slice_cmp-IsAntisymmetric, nat_cmp-IsAntisymmetric}
use Rattle.std.specs.List.{All}
use Rattle.std.specs.List.Sorted.{IsNonDecreasingBy, IsBinarySearchResult, IsSearchInRange}
use Rattle.std.proofs.lemmas.Bool.{cases_lt}
use Rattle.std.proofs.lemmas.Cmp.{tied_itself}
use Rattle.std.proofs.lemmas.Map.Text.{is_eq-slice_cmp}
use Rattle.std.proofs.lemmas.List.Sorted.{searchable_from_sorted}
use Rattle.scad_table.specs.declared.row.Row.{Row}
use Rattle.scad_table.specs.Table.{entries, Ascends, id_of}

abbrev order : List ℕ → List ℕ → Ordering
order = slice_cmp nat_cmp

-- names that compare as equal are equal
same_name : (a b : List ℕ) → order a b ≡ Equal → a ≡ b
same_name = slice_cmp-IsAntisymmetric nat_cmp-IsAntisymmetric

-- names that differ do not
unequal : (a b : List ℕ) → a ≢ b → is_eq (order a b) ≡ false
unequal a b differ =
    elim (order a b) as (λ r. order a b ≡ r → is_eq r ≡ false) [
      | Less ↦ λ same. refl
      | Equal ↦ λ same. absurd (differ (same_name a b same))
      | Greater ↦ λ same. refl
    ] refl

-- the rest of rows that ascend
rest_of : (row : Row) (rest : List Row) → Ascends (row ∷ rest) → Ascends rest
rest_of row rest up i j d lt in_range = up (suc i) (suc j) d (omega arith) (omega arith)

-- the comparisons with a name rise along the rows, as a binary search asks
comparisons_rise : (rows : List Row) (name : List ℕ) → Ascends rows
    → IsNonDecreasingBy (λ row. ordering_index (order row.name.now name)) rows
comparisons_rise rows name up =
    searchable_from_sorted nat_list_cmp_total (λ row. row.name.now) rows name
    (λ k d low high.
    let flipped = nat_list_cmp_total.antisymm (get_or rows (k + 1) d).name.now (get_or rows k d).name.now in
    ap is_lt (flipped ∙ ap ordering_reverse (up k (k + 1) d (omega arith) high)))

-- the table has the id of the row whose name it is
id_of-at : (rows : List Row) (name : List ℕ) → Ascends rows → (i : ℕ) (d : Row) → i < length rows
    → order (get_or rows i d).name.now name ≡ Equal → id_of (entries rows) name ≡ Some (get_or rows i d).id
id_of-at [] name up i d lt same = absurd (omega arith)
id_of-at (row ∷ rest) name up zero d lt same = rw (← is_eq-slice_cmp row.name.now name, same)
id_of-at (row ∷ rest) name up (suc i) d lt same =
    let found : (get_or rest i d).name.now ≡ name = same_name _ _ same in
    let below : order row.name.now name ≡ Less = subst (λ n. order row.name.now n ≡ Less) found
    (up 0 (suc i) d (omega arith) lt) in
    rw (← is_eq-slice_cmp row.name.now name, below) (id_of-at rest name (rest_of row rest up) i d (omega arith) same)

-- the table has nothing for a name that no row has
id_of-none : (rows : List Row) (name : List ℕ) → ((i : ℕ) (d : Row) → i < length rows
    → is_eq (order (get_or rows i d).name.now name) ≡ false) → id_of (entries rows) name ≡ None
id_of-none [] name other = refl
id_of-none (row ∷ rest) name other =
    rw (← is_eq-slice_cmp row.name.now name, other 0 row (omega arith))
    (id_of-none rest name (λ i d lt. other (suc i) d (omega arith)))

-- what the binary search answers
pub searched : (rows : List Row) (name : List ℕ) (d : Row) → Ascends rows → (r : Result ℕ ℕ)
    → IsSearchInRange r (length rows) → IsBinarySearchResult (λ row. order row.name.now name) rows r
    → MatchResult r (λ i. id_of (entries rows) name ≡ Some (get_or rows i d).id) (λ i. id_of (entries rows) name ≡ None)
searched rows name d up (Ok i) in_range same = id_of-at rows name up i d in_range (same d)
searched rows name d up (Err i) in_range parted =
    let around = parted (comparisons_rise rows name up) in
    id_of-none rows name (λ k e lt. elim (cases_lt k i) [
      | inl before ↦ ap is_eq (around.0 k e (omega arith) before)
      | inr after ↦ ap is_eq (around.1 k e after lt)
    ])

-- what the table has for the name of a row
pub listed : (rows : List Row) (name : List ℕ) → Ascends rows → (r : Option ℕ) → r ≡ id_of (entries rows) name
    → All (λ row. row.name.now ≡ name → r ≡ Some row.id) rows
listed rows name up r is i d lt same =
    is ∙ id_of-at rows name up i d lt (subst (λ n. order n name ≡ Equal) (sym same) (tied_itself nat_list_cmp_total
    name))

-- and when it has nothing
pub missing : (rows : List Row) (name : List ℕ) → Ascends rows → (r : Option ℕ) → r ≡ id_of (entries rows) name
    → IsNone r ↔ All (λ row. row.name.now ≢ name) rows
missing rows name up r is = (
  λ none i d lt same. true≢false (sym (ap is_some (listed rows name up r is i d lt same)) ∙ none),
  λ other. ap is_some (is ∙ id_of-none rows name (λ i d lt. unequal _ _ (other i d lt))),
)
