-- The size of a weighted mean.
use Rattle.std.proofs.Common.{◌≡◌, ℕ, ◌+◌, ◌*◌, ◌≤◌, ℤ, pos, ◌+ℤ◌, ◌*ℤ◌, ◌<ℤ◌, unsigned_abs, arith, ap}
use Rattle.std.proofs.lemmas.Int.{ints, unsigned_abs-mul}
use Rattle.std.proofs.lemmas.Nat.{mul-le}

-- a sum of products of numbers of at most k in size with positive ones is of at most k times their sum
pub weighted_range : (k : ℕ) (a b u v : ℤ) → unsigned_abs a ≤ k → unsigned_abs b ≤ k → pos 0 <ℤ u → pos 0 <ℤ v
    → unsigned_abs (a *ℤ u +ℤ b *ℤ v) ≤ k * unsigned_abs (u +ℤ v)
weighted_range k a b u v small_a small_b above_u above_v =
    let x : unsigned_abs a * unsigned_abs u ≤ k * unsigned_abs u = mul-le (unsigned_abs a) (unsigned_abs u) k
    (unsigned_abs u) small_a (omega arith) in
    let y : unsigned_abs b * unsigned_abs v ≤ k * unsigned_abs v = mul-le (unsigned_abs b) (unsigned_abs v) k
    (unsigned_abs v) small_b (omega arith) in
    let both : unsigned_abs (u +ℤ v) ≡ unsigned_abs u + unsigned_abs v = omega (arith, ints) in
    let shared : k * unsigned_abs (u +ℤ v) ≡ k * unsigned_abs u + k * unsigned_abs v =
    omega (arith, ap (λ n. k * n) both) in
    omega (arith, ints, unsigned_abs-mul a u, unsigned_abs-mul b v)
