-- Numbers that the code cuts to a size which no accepted one reaches.
use Rattle.std.specs.Prelude.{ℕ, suc, min, Bool, true, nat_le, Option, Some, None, ℤ, pos, negsuc, neg_ℤ}

abbrev pub cap : ℕ
cap = 4000000000000000000

abbrev pub capped : ℕ → ℕ
capped n = min n cap

abbrev pub capped_number : ℤ → ℤ
capped_number (pos n) = pos (min n cap)
capped_number (negsuc n) = neg_ℤ (pos (min (suc n) cap))

-- a size that is cut
abbrev pub fits_cap : Option ℕ → Bool
fits_cap None = true
fits_cap (Some n) = nat_le n cap
