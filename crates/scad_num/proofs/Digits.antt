-- The number that decimal digits write, read up to a cap, and its first digits as a quotient.
use Rattle.std.proofs.Common.{◌≡◌, ℕ, zero, suc, ◌+◌, ◌-◌, ◌*◌, ◌<◌, ◌≤◌, min, Bool, true, false, cond, List, [], ◌∷◌, length, get_or, take, drop, take_while, refl, ap, arith, ◌⊎◌, inl, inr}
use Rattle.std.specs.Str.Parse.{AllDigits, digits_value_after}
use Rattle.std.specs.Char.{digit_value, is_ascii_digit}
use Rattle.std.proofs.lemmas.Bool.{cases_lt}
use Rattle.std.proofs.lemmas.List.{drop_more}
use Rattle.std.proofs.lemmas.List.Sums.{take_while-cons}
use Rattle.std.proofs.lemmas.Bool.Decides.{nat_tests}

pub digit_value-lt : (c : ℕ) → is_ascii_digit c ≡ true → digit_value c < 10
digit_value-lt c e = grind (arith, nat_tests)

AllDigits-front : (b : Bool) (c : ℕ) (cs : List ℕ) → is_ascii_digit c ≡ b → AllDigits 10 cs
    → AllDigits 10 (cond b (c ∷ cs) [])
AllDigits-front true c cs e h = (digit_value-lt c e, h)
AllDigits-front false c cs e h = tt

-- what bytes begin with, as long as they are digits, is digits
pub AllDigits-take_while : (bytes : List ℕ) → AllDigits 10 (take_while is_ascii_digit bytes)
AllDigits-take_while [] = tt
AllDigits-take_while (c ∷ cs) = rw (take_while-cons is_ascii_digit c cs) (AllDigits-front (is_ascii_digit c) c
    (take_while is_ascii_digit cs) refl (AllDigits-take_while cs))

-- the value of a decimal digit
pub digit_value-decimal : (c : ℕ) → 48 ≤ c → c ≤ 57 → digit_value c ≡ c - 48
digit_value-decimal c low high = grind (arith, nat_tests)

-- further digits make the number no smaller
pub le-digits_value_after : (n : ℕ) (ds : List ℕ) → n ≤ digits_value_after 10 n ds
le-digits_value_after n [] = omega arith
le-digits_value_after n (c ∷ cs) = omega (arith, le-digits_value_after (n * 10 + digit_value c) cs)

-- a number past the cap may be cut to it before further digits are read
pub min-digits_value_after : (cap n : ℕ) (ds : List ℕ) → min (digits_value_after 10 (min n cap) ds) cap
    ≡ min (digits_value_after 10 n ds) cap
min-digits_value_after cap n ds = capped cap n ds (cases_lt cap n)
  where
    capped : (cap n : ℕ) (ds : List ℕ) → (cap < n) ⊎ (n ≤ cap) → min (digits_value_after 10 (min n cap) ds) cap
        ≡ min (digits_value_after 10 n ds) cap
    capped cap n ds (inl h) = let low = le-digits_value_after n ds in let cut = le-digits_value_after (min n cap) ds in omega arith
    capped cap n ds (inr h) = let e : min n cap ≡ n = omega arith in ap (λ m. min (digits_value_after 10 m ds) cap) e

-- one digit more is read
pub digits_value_after-drop : (n : ℕ) (ds : List ℕ) (i : ℕ) → i < length ds → digits_value_after 10 n (drop i ds)
    ≡ digits_value_after 10 (n * 10 + digit_value (get_or ds i 0)) (drop (i + 1) ds)
digits_value_after-drop n ds i h = ap (digits_value_after 10 n) (drop_more ds i 0 h)

-- the first digits are digits
pub AllDigits-take : (n : ℕ) (ds : List ℕ) → AllDigits 10 ds → AllDigits 10 (take n ds)
AllDigits-take zero ds h = tt
AllDigits-take (suc n) [] h = tt
AllDigits-take (suc n) (c ∷ cs) h = (h.0, AllDigits-take n cs h.1)

-- what `digits_at_front` and `first` cite
pub ruleset front_digits = (AllDigits-take_while, AllDigits-take)
