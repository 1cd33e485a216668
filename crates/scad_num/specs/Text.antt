-- The text of a number: its whole part in decimal, and where it isn't whole a point and its decimals, the last of which
-- isn't 0.
use Rattle.std.specs.Prelude.{ℕ, zero, suc, ◌+◌, ◌*◌, ◌/◌, ◌%◌, List, [], ◌∷◌, ◌++◌, ◌==◌, if◌then◌else◌, ℤ, pos, negsuc}
use Rattle.std.specs.Fmt.{decimal}
use Rattle.scad_num.specs.Number.{one}
use Rattle.scad_num.specs.Literal.{point, minus}

-- the decimals of so many millionths less than 1, at most so many of them; none stands behind the last that isn't 0
abbrev pub decimals_of : ℕ → ℕ → List ℕ
decimals_of zero parts = []
decimals_of (suc places) parts =
    if parts == 0 then [] else (48 + parts * 10 / one) ∷ decimals_of places (parts * 10 % one)

-- what stands behind the whole part
abbrev pub fraction_text : ℕ → List ℕ
fraction_text parts = if parts == 0 then [] else point ∷ decimals_of 6 parts

-- the text of so many millionths
abbrev pub size_text : ℕ → List ℕ
size_text millionths = decimal (millionths / one) ++ fraction_text (millionths % one)

abbrev pub number_text : ℤ → List ℕ
number_text (pos millionths) = size_text millionths
number_text (negsuc n) = minus ∷ size_text (suc n)
