-- Sorted runs are in the order of their starts.
use Rattle.std.proofs.Common.{◌≡◌, ℕ, zero, suc, ◌<◌, ◌≤◌, Bool, false, List, [], ◌∷◌, length, get_or, sym, arith, int_lt}
use lib.Signed.{◌≤ℤ◌}
use Rattle.std.specs.List.Sorted.{IsSortedBy}
use Rattle.std.specs.Cmp.{IsStrictWeakOrder}
use Rattle.std.proofs.lemmas.Int.{ints}
use Rattle.std.proofs.lemmas.List.Sorted.{sorted_far}
use Rattle.plan_infill.specs.declared.run.Run.{Run}
use Rattle.plan_support.specs.Unite.{StartInOrder}

abbrev pub starts_before : Run → Run → Bool
starts_before r s = int_lt r.from s.from

pub start_order : IsStrictWeakOrder starts_before
start_order = record {
  one_way = λ x y h. sym (omega (arith, ints));
  chain = λ x y z h k. sym (omega (arith, ints));
}

by_pairs : (rs : List Run) → ((i j : ℕ) (d : Run) → i ≤ j → j < length rs
    → int_lt (get_or rs j d).from (get_or rs i d).from ≡ false) → StartInOrder rs
by_pairs [] h = tt
by_pairs (r ∷ rs) h = (
  (λ k d l. let a = h 0 (suc k) d (omega arith) (omega arith) in omega (arith, ints, a)),
  by_pairs rs (λ i j d o l. h (suc i) (suc j) d (omega arith) (omega arith)),
)

pub in_order : (rs : List Run) → IsSortedBy starts_before rs → StartInOrder rs
in_order rs h = by_pairs rs (λ i j d o l. sorted_far starts_before start_order rs h i j d o l)

-- a run doesn't start before those before it
pub no_sooner : (rs : List Run) (i k : ℕ) (d e : Run) → StartInOrder rs → i ≤ k → k < length rs
    → (get_or rs i e).from ≤ℤ (get_or rs k d).from
no_sooner [] i k d e h o l = absurd (omega arith)
no_sooner (r ∷ rs) zero zero d e h o l = omega (arith, ints)
no_sooner (r ∷ rs) zero (suc k) d e h o l = h.0 k d (omega (arith, l))
no_sooner (r ∷ rs) (suc i) zero d e h o l = absurd (omega (arith, o))
no_sooner (r ∷ rs) (suc i) (suc k) d e h o l = no_sooner rs i k d e h.1 (omega (arith, o)) (omega (arith, l))
