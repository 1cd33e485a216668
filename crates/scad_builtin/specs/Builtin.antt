-- The functions of the language, one line each (OpenSCAD User Manual, "Mathematical Functions", "Trigonometric Functions",
-- "String Functions", "List Concatenation", "Type Test Functions").
use Rattle.std.specs.Prelude.{ℕ, ℤ, Bool, List, Result, Ok, Err}
use Rattle.std.specs.Int.{int_min, int_max}
use Rattle.scad_num.specs.Number.{floor_of, ceil_of, round_of}
use Rattle.scad_value.specs.Datum.{Datum, boolean, number, string, vector, Elements}
use Rattle.scad_value.specs.Kinds.{is_number, is_vector}
use Rattle.scad_builtin.specs.declared.fault.BuiltinFault.{BuiltinFault}
use Rattle.scad_builtin.specs.declared.fault.BuiltinFault.TheVariants.{UnknownFunction}
use Rattle.scad_builtin.specs.declared.fault.BuiltinFault.TheVariants.{LeftOut as IsLeftOut}
use Rattle.scad_builtin.specs.declared.function.Function.{Function}
use Rattle.scad_builtin.specs.declared.function.Function.TheVariants.{Abs, Sign, Floor, Ceil, Round, Sqrt, Sin, Cos, Tan, Min, Max, Len, Concat, Str, Chr, Ord, Norm, Cross, IsUndef, IsBool, IsNum, IsString, IsList}
use Rattle.scad_builtin.specs.declared.function.Name.{Name}
use Rattle.scad_builtin.specs.declared.function.Name.TheVariants.{Known, LeftOut, Unknown}
use Rattle.scad_builtin.specs.Fault.{and_then}
use Rattle.scad_builtin.specs.Names.{meaning_of}
use Rattle.scad_builtin.specs.Numbers.{size_of, sign_of, root_of, sine_of, cosine_of, tangent_of, cut_of, chosen, norm_of}
use Rattle.scad_builtin.specs.Arguments.{first_of, first_number, first_string, first_numbers, second_numbers, as_numbers}
use Rattle.scad_builtin.specs.Kinds.{is_undef, is_boolean, is_string}
use Rattle.scad_builtin.specs.Vectors.{choices, length_of, joined, cross_of}
use Rattle.scad_builtin.specs.Strings.{joined_texts, character_of, first_code}

-- a number, or a fault
abbrev pub number_result : Result ℤ BuiltinFault → Result Datum BuiltinFault
number_result r = and_then r (λ z. Ok (number z))

-- what a function of one number gives
abbrev pub of_number : (ℤ → ℤ) → Elements → Result Datum BuiltinFault
of_number f args = and_then (first_number args) (λ z. Ok (number (f z)))

-- what a test of the first argument gives
abbrev pub of_test : (Datum → Bool) → Elements → Result Datum BuiltinFault
of_test f args = and_then (first_of args) (λ d. Ok (boolean (f d)))

-- what a function gives of these arguments; more of them than it has aren't read
abbrev pub value_of : Function → Elements → Result Datum BuiltinFault
value_of Abs args = of_number size_of args
value_of Sign args = of_number sign_of args
value_of Floor args = of_number floor_of args
value_of Ceil args = of_number ceil_of args
value_of Round args = of_number round_of args
value_of Sqrt args = number_result (and_then (first_number args) root_of)
value_of Sin args = of_number sine_of args
value_of Cos args = of_number cosine_of args
value_of Tan args = number_result (and_then (first_number args) tangent_of)
value_of Min args = number_result (and_then (as_numbers (choices args)) (chosen int_min))
value_of Max args = number_result (and_then (as_numbers (choices args)) (chosen int_max))
value_of Len args = and_then (first_of args) length_of
value_of Concat args = Ok (vector (joined args))
value_of Str args = Ok (string (joined_texts args))
value_of Chr args = and_then (first_number args) (λ z. Ok (string (character_of (cut_of z))))
value_of Ord args = and_then (first_string args) (λ chars. Ok (first_code chars))
value_of Norm args = number_result (and_then (first_numbers args) norm_of)
value_of Cross args = and_then (first_numbers args) (λ a. and_then (second_numbers args) (λ b. cross_of a b))
value_of IsUndef args = of_test is_undef args
value_of IsBool args = of_test is_boolean args
value_of IsNum args = of_test is_number args
value_of IsString args = of_test is_string args
value_of IsList args = of_test is_vector args

-- what a call gives by the meaning of its name
abbrev pub value_by : Name → Elements → Result Datum BuiltinFault
value_by (Known function) args = value_of function args
value_by LeftOut args = Err IsLeftOut
value_by Unknown args = Err UnknownFunction

-- what a call of a name gives
abbrev pub builtin : List ℕ → Elements → Result Datum BuiltinFault
builtin name args = value_by (meaning_of name) args
