-- Signs of products of whole numbers.
use Rattle.std.proofs.Common.{◌≡◌, zero, suc, ◌*◌, ◌≤◌, arith, refl}
use Rattle.std.proofs.Common.{ℤ, pos, negsuc, ◌*ℤ◌, ◌<ℤ◌}
use Rattle.std.proofs.lemmas.Int.{ints}
use Rattle.std.proofs.Math.Nat.{one-le-mul}

pub positive_product : (a b : ℤ) → pos 0 <ℤ a → pos 0 <ℤ b → pos 0 <ℤ (a *ℤ b)
positive_product (pos m) (pos n) p q =
    let r : 1 ≤ m = omega (arith, ints) in
    let s : 1 ≤ n = omega (arith, ints) in
    let t : 1 ≤ m * n = one-le-mul r s in omega (arith, ints)
positive_product (pos m) (negsuc n) p q = absurd (omega (arith, ints))
positive_product (negsuc m) b p q = absurd (omega (arith, ints))

-- a product with a positive factor has the sign of the other factor
pub negative_product : (a r : ℤ) → pos 0 <ℤ r → a <ℤ pos 0 → (a *ℤ r) <ℤ pos 0
negative_product (negsuc m) (pos n) p q =
    let s : 1 ≤ n = omega (arith, ints) in
    let r : 1 ≤ suc m = omega arith in
    let t : 1 ≤ suc m * n = one-le-mul r s in omega (arith, ints)
negative_product (negsuc m) (negsuc n) p q = absurd (omega (arith, ints))
negative_product (pos m) r p q = absurd (omega (arith, ints))

-- and so back
pub negative_factor : (a r : ℤ) → pos 0 <ℤ r → (a *ℤ r) <ℤ pos 0 → a <ℤ pos 0
negative_factor (negsuc m) r p q = omega (arith, ints)
negative_factor (pos zero) r p q = absurd (omega (arith, ints))
negative_factor (pos (suc m)) r p q =
    let up : pos 0 <ℤ pos (suc m) = omega (arith, ints) in absurd
    (omega (arith, ints, positive_product (pos (suc m)) r up p))

pub zero_factor : (a r : ℤ) → pos 0 <ℤ r → a *ℤ r ≡ pos 0 → a ≡ pos 0
zero_factor (pos zero) r p e = refl
zero_factor (pos (suc m)) r p e =
    let up : pos 0 <ℤ pos (suc m) = omega (arith, ints) in absurd
    (omega (arith, ints, positive_product (pos (suc m)) r up p, e))
zero_factor (negsuc m) r p e =
    let down : negsuc m <ℤ pos 0 = omega (arith, ints) in absurd
    (omega (arith, ints, negative_product (negsuc m) r p down, e))
