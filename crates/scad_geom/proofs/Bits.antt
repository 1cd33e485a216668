-- Products of numbers whose bits are counted.
use Rattle.std.proofs.Common.{◌+◌, ◌*◌, ◌^◌, ◌<◌, ◌≤◌, ℕ, arith}
use Rattle.std.proofs.lemmas.Nat.{pow-add, mul-le}
use Rattle.std.proofs.Math.Pow.{pow-lt}

-- a product of numbers of at most m and n bits has at most m + n
pub product_bits : (x y m n : ℕ) → x ≤ 2 ^ m → y ≤ 2 ^ n → x * y ≤ 2 ^ (m + n)
product_bits x y m n below_m below_n = rw pow-add (mul-le x y (2 ^ m) (2 ^ n) below_m below_n)

-- it is below each greater power
pub product_below : (x y m n k : ℕ) → x ≤ 2 ^ m → y ≤ 2 ^ n → m + n < k → x * y < 2 ^ k
product_below x y m n k below_m below_n fits =
    let smaller : 2 ^ (m + n) < 2 ^ k = pow-lt fits in
    omega (arith, product_bits x y m n below_m below_n)
