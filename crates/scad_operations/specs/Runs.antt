-- Ranges, and what `for` and `each` run over (OpenSCAD User Manual, "Ranges", "For Loop", "List Comprehensions").
use Rattle.std.specs.Prelude.{ℕ, zero, suc, ◌+◌, ℤ, pos, ◌+ℤ◌, ◌-ℤ◌, int_lt, int_div, unsigned_abs, Bool, List, [], ◌∷◌, map, drop, Option, Some, None, if◌then◌else◌}
use Rattle.scad_value.specs.Datum.{Datum, undef, boolean, number, string, vector, range, Elements, no_elements, element}
use Rattle.scad_value.specs.View.{data_of}
use Rattle.scad_operations.specs.declared.remainder.Remainder.{Remainder}
use Rattle.scad_operations.specs.declared.remainder.Remainder.TheVariants.{Values, Numbers}

-- so many numbers from the first one on, each a step after the one before
abbrev pub numbers_from : ℤ → ℤ → ℕ → List Datum
numbers_from first step zero = []
numbers_from first step (suc n) = number first ∷ numbers_from (first +ℤ step) step n

-- how many steps lie between two numbers, and one more
abbrev pub count_up : ℤ → ℤ → ℤ → ℕ
count_up start step end = if int_lt end start then 0 else (1 + unsigned_abs (int_div (end -ℤ start) step))

abbrev pub count_down : ℤ → ℤ → ℤ → ℕ
count_down start step end = if int_lt start end then 0 else (1 + unsigned_abs (int_div (end -ℤ start) step))

-- how many of start, start + step and so on aren't past the end, which counts where it is reached
abbrev pub count_of_range : ℤ → ℤ → ℤ → ℕ
count_of_range start step end =
    if int_lt step (pos 0) then count_down start step end else count_up start step end

-- whether a number is past the end of a range
abbrev pub is_past : ℤ → ℤ → ℤ → Bool
is_past n step end = if int_lt step (pos 0) then int_lt n end else int_lt end n

-- the numbers of a range from one of them on, where there is one
abbrev pub numbers_left : Option ℤ → ℤ → ℤ → List Datum
numbers_left None step end = []
numbers_left (Some n) step end = numbers_from n step (count_of_range n step end)

abbrev pub as_list : Elements → List Datum
as_list no_elements = []
as_list (element d more) = d ∷ as_list more

abbrev pub as_elements : List Datum → Elements
as_elements [] = no_elements
as_elements (d ∷ more) = element d (as_elements more)

-- a vector's elements, a range's numbers, a string's characters, nothing for `undef`, a number or a boolean itself
unfoldable pub items : Datum → List Datum
items undef = []
items (boolean b) = boolean b ∷ []
items (number z) = number z ∷ []
items (string chars) = map (λ c. string (c ∷ [])) chars
items (vector all) = as_list all
items (range start step end) = numbers_from start step (count_of_range start step end)

-- the values that are left
unfoldable pub left_in : Remainder → List Datum
left_in (Values all next) = data_of (drop next all.items)
left_in (Numbers next step end) = numbers_left next step end

-- the ends of a range without a step, exchanged where the first is the greater
abbrev pub range_of_ends : ℤ → ℤ → Datum
range_of_ends a b = if int_lt b a then range b (pos 1000000) a else range a (pos 1000000) b
