-- What tests of whole numbers tell, and choices that don't matter.
use Rattle.std.proofs.Common.{◌≡◌, ℤ, Bool, true, false, cond, refl, sym, arith, ◌<ℤ◌, int_lt, int_le}
use Rattle.std.specs.Prelude.{◌≤ℤ◌}
use Rattle.std.specs.Ordering.{int_cmp, int_eq, is_lt, ordering_then}
use Rattle.std.specs.declared.cmp.Ordering.TheVariants.{Less, Equal, Greater}
use Rattle.std.proofs.lemmas.Int.{ints}
use Rattle.std.specs.Cmp.{signed_Decides}
use Rattle.std.specs.declared.cmp.Ordering.{Ordering}

-- of two equal values it doesn't matter which
pub cond_same : {A : Type 0} (b : Bool) (x : A) → cond b x x ≡ x
cond_same true x = refl
cond_same false x = refl

pub int_lt-true : (a b : ℤ) → int_lt a b ≡ true → a <ℤ b
int_lt-true a b e = grind (arith, ints)

pub int_lt-false : (a b : ℤ) → int_lt a b ≡ false → b ≤ℤ a
int_lt-false a b e = grind (arith, ints)

pub int_lt-less : (a b : ℤ) → a <ℤ b → int_lt a b ≡ true
int_lt-less a b h = sym (omega (arith, ints))

pub int_le-true : (a b : ℤ) → int_le a b ≡ true → a ≤ℤ b
int_le-true a b h = omega (arith, ints)

pub int_le-at_most : (a b : ℤ) → a ≤ℤ b → int_le a b ≡ true
int_le-at_most a b h = sym (omega (arith, ints))

pub int_eq-true : (a b : ℤ) → int_eq a b ≡ true → a ≡ b
int_eq-true a b h = (signed_Decides a b).0 h

pub is_lt-int_cmp : (a b : ℤ) → is_lt (int_cmp a b) ≡ int_lt a b
is_lt-int_cmp a b = by_tests (int_lt a b) (int_lt b a)
  where
    by_tests : (less more : Bool) → is_lt (cond less Less (cond more Greater Equal)) ≡ less
    by_tests true more = refl
    by_tests false true = refl
    by_tests false false = refl

-- where one order after another tells nothing apart, neither does
pub both_equal : (r s : Ordering) → ordering_then r s ≡ Equal → (r ≡ Equal) × (s ≡ Equal)
both_equal Less s e = absurd (cc)
both_equal Equal s e = (refl, e)
both_equal Greater s e = absurd (cc)
