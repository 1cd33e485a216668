-- The sign of a whole number.
use Rattle.std.specs.Prelude.{Bool, true, false, zero, suc, ℤ, pos, negsuc}

-- 1 above 0, -1 below it, 0 at it
abbrev pub sign_of : ℤ → ℤ
sign_of (pos zero) = pos 0
sign_of (pos (suc n)) = pos 1
sign_of (negsuc n) = negsuc 0

abbrev pub is_zero : ℤ → Bool
is_zero (pos zero) = true
is_zero (pos (suc n)) = false
is_zero (negsuc n) = false
