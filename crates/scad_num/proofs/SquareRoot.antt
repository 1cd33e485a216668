-- What a whole square root is, and that there is one such number.
use Rattle.std.proofs.Common.{◌≡◌, ℕ, zero, suc, ◌+◌, ◌*◌, ◌/◌, ◌^◌, ◌<◌, ◌≤◌, Bool, true, false, cond, nat_le, refl, arith, ◌⊎◌, inl, inr}
use Rattle.std.proofs.lemmas.Bool.{cases_lt}
use Rattle.std.proofs.lemmas.Bool.Decides.{nat_tests}
use Rattle.std.proofs.lemmas.Nat.{mul-le}
use Rattle.std.proofs.Math.Nat.{pow-suc}
use Rattle.scad_num.specs.Laws.{IsRoot, RootsAreWhole}
use Rattle.scad_num.specs.Root.{root, root_in_steps, root_after}

-- a square root is no greater than another
IsRoot-le : (n a b : ℕ) → IsRoot n a → IsRoot n b → a ≤ b
IsRoot-le n a b p q = by_order (cases_lt b a)
  where
    by_order : (b < a) ⊎ (a ≤ b) → a ≤ b
    by_order (inl h) = let above = mul-le (b + 1) (b + 1) a a (omega arith) (omega arith) in absurd (omega (arith, p.square_le, q.next_square_gt))
    by_order (inr h) = h

-- there is one square root
pub IsRoot-unique : (n a b : ℕ) → IsRoot n a → IsRoot n b → a ≡ b
IsRoot-unique n a b p q = let up = IsRoot-le n a b p q in let down = IsRoot-le n b a q p in omega arith

-- one bit more
IsRoot-root_after : (n r : ℕ) → IsRoot (n / 4) r → IsRoot n (root_after n r)
unfolding root_after
IsRoot-root_after n r p = by_test (nat_le ((2 * r + 1) * (2 * r + 1)) n) refl
  where
    by_test : (b : Bool) → nat_le ((2 * r + 1) * (2 * r + 1)) n ≡ b → IsRoot n (cond b (2 * r + 1) (2 * r))
    by_test true e = let odd : (2 * r + 1) * (2 * r + 1) ≤ n = grind (arith, nat_tests) in record { square_le = odd; next_square_gt = omega (arith, p.next_square_gt) }
    by_test false e = let even : n < (2 * r + 1) * (2 * r + 1) = grind (arith, nat_tests) in record { square_le = omega (arith, p.square_le); next_square_gt = even }

IsRoot-in_steps : (steps n : ℕ) → n < 4 ^ steps → IsRoot n (root_in_steps steps n)
unfolding root_in_steps
IsRoot-in_steps zero n h = record { square_le = omega arith; next_square_gt = omega arith }
IsRoot-in_steps (suc steps) n h = IsRoot-root_after n (root_in_steps steps (n / 4))
    (IsRoot-in_steps steps (n / 4) (omega (arith, pow-suc 4 steps)))

-- `root` is the square root
pub IsRoot-root : (n : ℕ) → n < 2 ^ 128 → IsRoot n (root n)
unfolding root
IsRoot-root n h = IsRoot-in_steps 64 n h

pub roots_are_whole : RootsAreWhole
roots_are_whole n h = (IsRoot-root n h, λ r is. IsRoot-unique n r (root n) is (IsRoot-root n h))

-- a root of at most 10^21 is at most 10^15
pub root_small : (n r : ℕ) → r * r ≤ n → n ≤ 1000000000000000000000 → r ≤ 1000000000000000
root_small n r p h = by_size (cases_lt 1000000000000000 r)
  where
    by_size : (1000000000000000 < r) ⊎ (r ≤ 1000000000000000) → r ≤ 1000000000000000
    by_size (inl g) = let above = mul-le 1000000000000001 1000000000000001 r r (omega arith) (omega arith) in absurd (omega arith)
    by_size (inr g) = g
