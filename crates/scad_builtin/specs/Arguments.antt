-- What the arguments of a function are, and the numbers and elements in them.
use Rattle.std.specs.Prelude.{ℕ, List, [], ◌∷◌, ℤ, Result, Ok, Err, if◌then◌else◌}
use Rattle.scad_value.specs.Datum.{Datum, number, string, vector, Elements, no_elements, element}
use Rattle.scad_value.specs.Products.{all_numbers, amount}
use Rattle.scad_builtin.specs.declared.fault.BuiltinFault.{BuiltinFault}
use Rattle.scad_builtin.specs.declared.fault.BuiltinFault.TheVariants.{BadArgument}
use Rattle.scad_builtin.specs.Fault.{and_then}

-- the first argument
abbrev pub first_of : Elements → Result Datum BuiltinFault
first_of no_elements = Err BadArgument
first_of (element d more) = Ok d

-- the second argument
abbrev pub second_of : Elements → Result Datum BuiltinFault
second_of no_elements = Err BadArgument
second_of (element d more) = first_of more

-- a number
abbrev pub as_number : Datum → Result ℤ BuiltinFault
as_number (number z) = Ok z
as_number _ = Err BadArgument

-- the characters of a string
abbrev pub as_string : Datum → Result (List ℕ) BuiltinFault
as_string (string chars) = Ok chars
as_string _ = Err BadArgument

-- the numbers of elements that all are numbers (`amount` takes 0 for a value of another kind)
abbrev pub numbers : Elements → List ℤ
numbers no_elements = []
numbers (element d more) = amount d ∷ numbers more

-- the elements, where all are numbers
abbrev pub as_numbers : Elements → Result (List ℤ) BuiltinFault
as_numbers all = if all_numbers all then Ok (numbers all) else Err BadArgument

-- the elements of a vector of numbers
abbrev pub as_number_vector : Datum → Result (List ℤ) BuiltinFault
as_number_vector (vector all) = as_numbers all
as_number_vector _ = Err BadArgument

-- the first argument, a number
abbrev pub first_number : Elements → Result ℤ BuiltinFault
first_number args = and_then (first_of args) as_number

-- the characters of the first argument, a string
abbrev pub first_string : Elements → Result (List ℕ) BuiltinFault
first_string args = and_then (first_of args) as_string

-- the elements of the first argument, a vector of numbers
abbrev pub first_numbers : Elements → Result (List ℤ) BuiltinFault
first_numbers args = and_then (first_of args) as_number_vector

-- the same of the second one
abbrev pub second_numbers : Elements → Result (List ℤ) BuiltinFault
second_numbers args = and_then (second_of args) as_number_vector
