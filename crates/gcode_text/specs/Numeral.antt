-- Numbers as they are written: in decimal, with all of their places behind the point.
use Rattle.std.specs.Prelude.{ℕ, zero, suc, ◌+◌, ◌/◌, ◌%◌, ◌^◌, List, [], ◌∷◌, ◌++◌, ℤ, pos, negsuc}
use Rattle.std.specs.Fmt.{decimal}
use Rattle.scad_base.specs.Characters.{point, minus, digit_zero}

-- the last so many digits of a number
unfoldable pub last_digits : ℕ → ℕ → List ℕ
last_digits zero n = []
last_digits (suc places) n = last_digits places (n / 10) ++ (digit_zero + n % 10) ∷ []

-- n units, of which 10 ^ places make one, with all their places
unfoldable pub fixed : ℕ → ℕ → List ℕ
fixed places n = decimal (n / 10 ^ places) ++ point ∷ last_digits places (n % 10 ^ places)

-- so many micrometres in millimetres
unfoldable pub millimetres : ℤ → List ℕ
millimetres (pos n) = fixed 3 n
millimetres (negsuc n) = minus ∷ fixed 3 (suc n)
