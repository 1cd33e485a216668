-- No function of the language is refused for want of memory.
use Rattle.std.proofs.Common.{ℕ, ℤ, pos, Bool, List, [], ◌∷◌, Result, Ok, Err}
use Rattle.std.specs.Prelude.{int_lt}
use Rattle.std.specs.Int.{int_min, int_max}
use Rattle.scad_num.specs.declared.fault.NumFault.{NumFault}
use Rattle.scad_num.specs.declared.fault.NumFault.TheVariants.{Range}
use Rattle.scad_num.specs.declared.fault.NumFault.TheVariants.{ZeroDivisor as ByZero}
use Rattle.scad_num.specs.Number.{floor_of, ceil_of, round_of}
use Rattle.scad_value.specs.Datum.{Datum, undef, boolean, number, string, vector, range, Elements, no_elements, element}
use Rattle.scad_value.specs.Kinds.{is_number, is_vector}
use Rattle.scad_value.specs.Products.{all_numbers}
use Rattle.scad_builtin.specs.declared.fault.BuiltinFault.{BuiltinFault}
use Rattle.scad_builtin.specs.declared.fault.BuiltinFault.TheVariants.{UnknownFunction, LeftOut, BadArgument}
use Rattle.scad_builtin.specs.declared.fault.BuiltinFault.TheVariants.{ZeroDivisor, NumberRange, Memory}
use Rattle.scad_builtin.specs.declared.function.Function.{Function}
use Rattle.scad_builtin.specs.declared.function.Function.TheVariants.{Abs, Sign, Floor, Ceil, Round, Sqrt, Sin, Cos}
use Rattle.scad_builtin.specs.declared.function.Function.TheVariants.{Tan}
use Rattle.scad_builtin.specs.declared.function.Function.TheVariants.{Min, Max, Len, Concat, Str, Chr, Ord, Norm, Cross}
use Rattle.scad_builtin.specs.declared.function.Function.TheVariants.{IsUndef, IsBool, IsNum, IsString, IsList}
use Rattle.scad_builtin.specs.declared.function.Name.{Name}
use Rattle.scad_builtin.specs.declared.function.Name.TheVariants as name
use Rattle.scad_builtin.specs.Fault.{judged}
use Rattle.scad_builtin.specs.Names.{meaning_of}
use Rattle.scad_builtin.specs.Numbers.{size_of, sign_of, root_of, sine_of, cosine_of, chosen}
use Rattle.scad_builtin.specs.Arguments.{first_of, second_of, as_number, as_string, as_numbers, as_number_vector}
use Rattle.scad_builtin.specs.Arguments.{first_number, first_numbers, second_numbers}
use Rattle.scad_builtin.specs.Kinds.{is_undef, is_boolean, is_string}
use Rattle.scad_builtin.specs.Vectors.{choices, length_of, have_length, cross_entry, cross_of}
use Rattle.scad_builtin.specs.Builtin.{of_number, of_test, value_of, value_by, builtin}
use Rattle.meaning_laws.proofs.Faults.{Faults, ok, err, bind, either}

-- a fault of the source
abbrev pub OfBuiltins : BuiltinFault → Type 0
OfBuiltins UnknownFunction = Unit {0}
OfBuiltins LeftOut = Unit {0}
OfBuiltins BadArgument = Unit {0}
OfBuiltins ZeroDivisor = Unit {0}
OfBuiltins NumberRange = Unit {0}
OfBuiltins Memory = ⊥

-- a value, or a fault of the source
abbrev pub Computes : {A : Type 0} → Result A BuiltinFault → Type 0
Computes r = Faults OfBuiltins r

computes-judged : {A : Type 0} (r : Result A NumFault) → Computes (judged r)
computes-judged (Ok a) = ok
computes-judged (Err Range) = err tt
computes-judged (Err ByZero) = err tt

-- ---- arguments
computes-first : (args : Elements) → Computes (first_of args)
computes-first no_elements = err tt
computes-first (element d more) = ok

computes-second : (args : Elements) → Computes (second_of args)
computes-second no_elements = err tt
computes-second (element d more) = computes-first more

computes-number : (d : Datum) → Computes (as_number d)
computes-number (number z) = ok
computes-number undef = err tt
computes-number (boolean b) = err tt
computes-number (string chars) = err tt
computes-number (vector all) = err tt
computes-number (range a s b) = err tt

computes-string : (d : Datum) → Computes (as_string d)
computes-string (string chars) = ok
computes-string undef = err tt
computes-string (boolean b) = err tt
computes-string (number z) = err tt
computes-string (vector all) = err tt
computes-string (range a s b) = err tt

computes-numbers : (all : Elements) → Computes (as_numbers all)
computes-numbers all = either (all_numbers all) ok (err tt)

computes-number_vector : (d : Datum) → Computes (as_number_vector d)
computes-number_vector (vector all) = computes-numbers all
computes-number_vector undef = err tt
computes-number_vector (boolean b) = err tt
computes-number_vector (number z) = err tt
computes-number_vector (string chars) = err tt
computes-number_vector (range a s b) = err tt

computes-first_number : (args : Elements) → Computes (first_number args)
computes-first_number args = bind (computes-first args) computes-number

computes-first_numbers : (args : Elements) → Computes (first_numbers args)
computes-first_numbers args = bind (computes-first args) computes-number_vector

computes-second_numbers : (args : Elements) → Computes (second_numbers args)
computes-second_numbers args = bind (computes-second args) computes-number_vector

-- ---- functions
computes-of_number : (f : ℤ → ℤ) (args : Elements) → Computes (of_number f args)
computes-of_number f args = bind (computes-first_number args) (λ z. ok)

computes-of_test : (f : Datum → Bool) (args : Elements) → Computes (of_test f args)
computes-of_test f args = bind (computes-first args) (λ d. ok)

computes-root : (z : ℤ) → Computes (root_of z)
computes-root z = either (int_lt z (pos 0)) (err tt) ok

computes-chosen : (choose : ℤ → ℤ → ℤ) (zs : List ℤ) → Computes (chosen choose zs)
computes-chosen choose [] = err tt
computes-chosen choose (z ∷ more) = ok

computes-length : (d : Datum) → Computes (length_of d)
computes-length (vector all) = bind (computes-judged _) (λ z. ok)
computes-length (string chars) = bind (computes-judged _) (λ z. ok)
computes-length undef = ok
computes-length (boolean b) = ok
computes-length (number z) = ok
computes-length (range a s b) = ok

computes-entry : (a b : List ℤ) (i j : ℕ) → Computes (cross_entry a b i j)
computes-entry a b i j = computes-judged _

computes-cross : (a b : List ℤ) → Computes (cross_of a b)
computes-cross a b =
    either (have_length 2 a b) (bind (computes-entry a b 0 1) (λ z. ok))
    (either (have_length 3 a b)
    (bind (computes-entry a b 1 2) (λ x. bind (computes-entry a b 2 0) (λ y. bind (computes-entry a b 0 1) (λ z. ok))))
    (err tt))

computes-value : (f : Function) (args : Elements) → Computes (value_of f args)
computes-value Abs args = computes-of_number size_of args
computes-value Sign args = computes-of_number sign_of args
computes-value Floor args = computes-of_number floor_of args
computes-value Ceil args = computes-of_number ceil_of args
computes-value Round args = computes-of_number round_of args
computes-value Sqrt args = bind (bind (computes-first_number args) computes-root) (λ z. ok)
computes-value Sin args = computes-of_number sine_of args
computes-value Cos args = computes-of_number cosine_of args
computes-value Tan args = bind (bind (computes-first_number args) (λ z. computes-judged _)) (λ z. ok)
computes-value Min args = bind (bind (computes-numbers (choices args)) (computes-chosen int_min)) (λ z. ok)
computes-value Max args = bind (bind (computes-numbers (choices args)) (computes-chosen int_max)) (λ z. ok)
computes-value Len args = bind (computes-first args) computes-length
computes-value Concat args = ok
computes-value Str args = ok
computes-value Chr args = bind (computes-first_number args) (λ z. ok)
computes-value Ord args = bind (bind (computes-first args) computes-string) (λ chars. ok)
computes-value Norm args = bind (bind (computes-first_numbers args) (λ zs. computes-judged _)) (λ z. ok)
computes-value Cross args =
    bind (computes-first_numbers args) (λ a. bind (computes-second_numbers args) (λ b. computes-cross a b))
computes-value IsUndef args = computes-of_test is_undef args
computes-value IsBool args = computes-of_test is_boolean args
computes-value IsNum args = computes-of_test is_number args
computes-value IsString args = computes-of_test is_string args
computes-value IsList args = computes-of_test is_vector args

computes-by : (n : Name) (args : Elements) → Computes (value_by n args)
computes-by (name.Known function) args = computes-value function args
computes-by name.LeftOut args = err tt
computes-by name.Unknown args = err tt

pub computes-builtin : (word : List ℕ) (args : Elements) → Computes (builtin word args)
computes-builtin word args = computes-by (meaning_of word) args
