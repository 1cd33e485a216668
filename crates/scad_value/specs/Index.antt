-- Indices (OpenSCAD User Manual, "Vectors", "Strings").
use Rattle.std.specs.Prelude.{ℕ, zero, suc, ℤ, pos, negsuc, int_div, List, [], ◌∷◌}
use Rattle.scad_num.specs.Number.{one}
use Rattle.scad_value.specs.Datum.{Datum, undef, number, string, vector, range}
use Rattle.scad_value.specs.Products.{nth}

-- the character at a place, as a string, or `undef` where there is none
abbrev pub character : List ℕ → ℕ → Datum
character [] n = undef
character (c ∷ chars) zero = string (c ∷ [])
character (c ∷ chars) (suc n) = character chars n

-- start, step or end
abbrev pub part : ℤ → ℤ → ℤ → ℕ → Datum
part start step end zero = number start
part start step end (suc zero) = number step
part start step end (suc (suc zero)) = number end
part start step end (suc (suc (suc n))) = undef

-- what stands at a place of a value
abbrev pub at_place : Datum → ℕ → Datum
at_place (vector all) n = nth all n
at_place (string chars) n = character chars n
at_place (range start step end) n = part start step end n
at_place _ n = undef

-- what stands at a whole number
abbrev pub at_whole : Datum → ℤ → Datum
at_whole a (pos n) = at_place a n
at_whole a (negsuc n) = undef

-- `a[i]`: the index is cut to a whole number, towards zero
abbrev pub indexed : Datum → Datum → Datum
indexed a (number z) = at_whole a (int_div z (pos one))
indexed a _ = undef
