-- Functions of strings (OpenSCAD User Manual, "String Functions").
use Rattle.std.specs.Prelude.{ℕ, ◌*◌, ◌++◌, ◌&&◌, List, [], ◌∷◌, ℤ, pos, unsigned_abs, int_lt, if◌then◌else◌}
use Rattle.scad_base.specs.Characters.{is_scalar}
use Rattle.scad_num.specs.Number.{one}
use Rattle.scad_value.specs.Datum.{Datum, undef, number, string, Elements, no_elements, element}
use Rattle.scad_value.specs.Texts.{text}

-- a value as text, a string without quotes
abbrev pub bare_text : Datum → List ℕ
bare_text (string chars) = chars
bare_text d = text d

abbrev pub joined_texts : Elements → List ℕ
joined_texts no_elements = []
joined_texts (element d more) = bare_text d ++ joined_texts more

-- the character of this number, or no character where it is none above 0
abbrev pub character_of : ℤ → List ℕ
character_of z = if int_lt (pos 0) z && is_scalar (unsigned_abs z) then unsigned_abs z ∷ [] else []

-- the number of the first character
abbrev pub first_code : List ℕ → Datum
first_code [] = undef
first_code (c ∷ more) = number (pos (c * one))
