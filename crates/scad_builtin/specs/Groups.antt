-- The functions by what they take and give, as the steps of the code divide them.
use Rattle.std.specs.Prelude.{Bool, true, false}
use Rattle.scad_builtin.specs.declared.function.Function.{Function}
use Rattle.scad_builtin.specs.declared.function.Function.TheVariants.{Abs, Sign, Floor, Ceil, Round, Sqrt, Sin, Cos, Tan, Min, Max, Norm, IsUndef, IsBool, IsNum, IsString, IsList}

-- it takes one number and gives a number
abbrev pub takes_number : Function → Bool
takes_number Abs = true
takes_number Sign = true
takes_number Floor = true
takes_number Ceil = true
takes_number Round = true
takes_number Sqrt = true
takes_number Sin = true
takes_number Cos = true
takes_number Tan = true
takes_number _ = false

-- it gives a number
abbrev pub gives_number : Function → Bool
gives_number Min = true
gives_number Max = true
gives_number Norm = true
gives_number function = takes_number function

-- it tests the kind of a value
abbrev pub tests_kind : Function → Bool
tests_kind IsUndef = true
tests_kind IsBool = true
tests_kind IsNum = true
tests_kind IsString = true
tests_kind IsList = true
tests_kind _ = false
