-- Facts on the table of cosines.
use Rattle.std.proofs.Common.{◌≡◌, ℕ, zero, suc, ◌-◌, ◌*◌, ◌<◌, ◌≤◌, Bool, true, ◌&&◌, nat_le, List, [], ◌∷◌, get_or, refl, arith}
use Rattle.std.proofs.lemmas.Bool.Decides.{nat_tests}
use Rattle.std.proofs.lemmas.Nat.{mul-le}
use Rattle.scad_cos.specs.Cosine.{cosines}

abbrev all_within : ℕ → List ℕ → Bool
all_within most [] = true
all_within most (x ∷ xs) = nat_le x most && all_within most xs

-- each entry is at most 1
entries_within : all_within 1000000 cosines ≡ true
unfolding cosines
entries_within = refl

within-front : (most x : ℕ) (b : Bool) → (nat_le x most && b) ≡ true → (x ≤ most) × (b ≡ true)
within-front most x b e = grind (arith, nat_tests)

within-get_or : (most : ℕ) (xs : List ℕ) (i : ℕ) → all_within most xs ≡ true → get_or xs i 0 ≤ most
within-get_or most [] zero e = omega arith
within-get_or most [] (suc i) e = omega arith
within-get_or most (x ∷ xs) zero e = (within-front most x (all_within most xs) e).0
within-get_or most (x ∷ xs) (suc i) e = within-get_or most xs i (within-front most x (all_within most xs) e).1

pub cosines-le : (i : ℕ) → get_or cosines i 0 ≤ 1000000
cosines-le i = within-get_or 1000000 cosines i entries_within

-- for `entry` and `first_quarter`
pub ruleset entries = (cosines-le)

-- a point between two such entries is one, times 1000
pub between-le : (a b part : ℕ) → a ≤ 1000000 → b ≤ 1000000 → part < 1000
    → (a * (1000 - part) ≤ 1000000 * (1000 - part)) × (b * part ≤ 1000000 * part)
between-le a b part h g s = (
  mul-le a (1000 - part) 1000000 (1000 - part) h (omega arith),
  mul-le b part 1000000 part g
      (omega arith),
)
