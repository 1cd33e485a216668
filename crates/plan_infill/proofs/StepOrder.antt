-- Sorted steps are in the order of their places.
use Rattle.std.proofs.Common.{◌≡◌, ℕ, suc, ◌<◌, ◌≤◌, Bool, false, List, [], ◌∷◌, length, get_or, sym, arith, int_lt}
use lib.Signed.{◌≤ℤ◌}
use Rattle.std.specs.List.{AllByRecursion}
use Rattle.std.specs.List.Sorted.{IsSortedBy}
use Rattle.std.specs.Cmp.{IsStrictWeakOrder}
use Rattle.std.proofs.lemmas.Int.{ints}
use Rattle.std.proofs.lemmas.List.Sorted.{sorted_far}
use Rattle.plan_infill.specs.declared.step.Step.{Step}
use Rattle.plan_infill.specs.Steps.{AreInOrder}

abbrev pub comes_before : Step → Step → Bool
comes_before s t = int_lt s.at t.at

pub place_order : IsStrictWeakOrder comes_before
place_order = record {
  one_way = λ x y h. sym (omega (arith, ints));
  chain = λ x y z h k. sym (omega (arith, ints));
}

after : (s : Step) (ss : List Step) → ((j : ℕ) (d : Step) → j < length ss
    → int_lt (get_or ss j d).at s.at ≡ false) → AllByRecursion (λ t. s.at ≤ℤ t.at) ss
after s [] h = tt
after s (t ∷ ss) h = (let a = h 0 t (omega arith) in omega (arith, ints, a), after s ss (λ j d l. h (suc j) d (omega arith)))

by_pairs : (ss : List Step) → ((i j : ℕ) (d : Step) → i ≤ j → j < length ss
    → int_lt (get_or ss j d).at (get_or ss i d).at ≡ false) → AreInOrder ss
by_pairs [] h = tt
by_pairs (s ∷ ss) h = (
  after s ss (λ j d l. h 0 (suc j) d (omega arith) (omega arith)),
  by_pairs ss (λ i j d o l. h (suc i) (suc j) d (omega arith) (omega arith)),
)

pub in_order : (ss : List Step) → IsSortedBy comes_before ss → AreInOrder ss
in_order ss h = by_pairs ss (λ i j d o l. sorted_far comes_before place_order ss h i j d o l)
