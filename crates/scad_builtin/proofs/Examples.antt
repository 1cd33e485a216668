-- Worked examples of the definitions.
use Rattle.std.proofs.Common.{◌≡◌, ℤ, pos, negsuc, Bool, true, [], ◌∷◌, codes, Ok, Err, refl}
use Rattle.scad_num.specs.Number.{number_of, quotient_of}
use Rattle.scad_num.specs.Rounding.{half_up, half_away}
use Rattle.scad_num.specs.Root.{root, root_in_steps, root_after, sqrt_of}
use Rattle.scad_cos.specs.Cosine.{cosines, first_quarter, half_turn, full_turn, cosine, sine}
use Rattle.scad_value.specs.Datum.{Datum, undef, boolean, number, string, vector, Elements, no_elements, element}
use Rattle.scad_builtin.specs.declared.fault.BuiltinFault.TheVariants.{BadArgument, ZeroDivisor, NumberRange, UnknownFunction, LeftOut}
use Rattle.scad_builtin.specs.declared.function.Function.TheVariants.{Cos, Tan, Min, Chr, Ord, Norm, Cross, Concat, Floor}
use Rattle.scad_builtin.specs.Names.{meaning_of}
use Rattle.scad_builtin.specs.Builtin.{of_number, of_test, value_of, builtin}

abbrev one : Datum → Elements
one d = element d no_elements

abbrev two : Datum → Datum → Elements
two d e = element d (one e)

abbrev three : Datum → Datum → Datum → Elements
three d e f = element d (two e f)

-- a whole number
abbrev n1 : Datum
n1 = number (pos 1000000)

abbrev n2 : Datum
n2 = number (pos 2000000)

abbrev n3 : Datum
n3 = number (pos 3000000)

abbrev n4 : Datum
n4 = number (pos 4000000)

-- log(1)
a_logarithm : builtin (codes "log") (one n1) ≡ Err LeftOut
unfolding meaning_of
a_logarithm = refl

-- mod(1)
no_function : builtin (codes "mod") (one n1) ≡ Err UnknownFunction
unfolding meaning_of
no_function = refl

-- is_list([])
the_empty_list : builtin (codes "is_list") (one (vector no_elements)) ≡ Ok (boolean true)
unfolding meaning_of
the_empty_list = refl

cosine_of_60_degrees : value_of Cos (one (number (pos 60000000))) ≡ Ok (number (pos 500000))
unfolding half_away half_up cosine full_turn half_turn first_quarter cosines
cosine_of_60_degrees = refl

-- tan(90)
no_tangent : value_of Tan (one (number (pos 90000000))) ≡ Err ZeroDivisor
unfolding half_away half_up sine cosine full_turn half_turn first_quarter cosines quotient_of
no_tangent = refl

-- floor("a")
floor_of_a_string : value_of Floor (one (string (codes "a"))) ≡ Err BadArgument
floor_of_a_string = refl

-- min([2, 1], "a") and min([])
least_of_a_vector : value_of Min (two (vector (two n2 n1)) (string (codes "a"))) ≡ Ok n1
least_of_a_vector = refl

least_of_nothing : value_of Min (one (vector no_elements)) ≡ Err BadArgument
least_of_nothing = refl

-- a vector behind a number
least_of_mixed : value_of Min (two n1 (vector (one n2))) ≡ Err BadArgument
least_of_mixed = refl

-- chr(128512), chr(55296), chr(0)
a_character : value_of Chr (one (number (pos 128512000000))) ≡ Ok (string (128512 ∷ []))
a_character = refl

no_character : value_of Chr (one (number (pos 55296000000))) ≡ Ok (string [])
no_character = refl

no_zero_character : value_of Chr (one (number (pos 0))) ≡ Ok (string [])
no_zero_character = refl

-- ord("")
no_first_character : value_of Ord (one (string [])) ≡ Ok undef
no_first_character = refl

-- norm([3, 4]) and norm([])
length_of_3_4 : value_of Norm (one (vector (two n3 n4))) ≡ Ok (number (pos 5000000))
unfolding half_away half_up number_of sqrt_of root root_in_steps root_after
length_of_3_4 = refl

length_of_nothing : value_of Norm (one (vector no_elements)) ≡ Ok (number (pos 0))
unfolding sqrt_of root root_in_steps root_after
length_of_nothing = refl

-- the square of a millionth is rounded to 0
length_of_millionths : value_of Norm (one (vector (two (number (pos 1)) (number (pos 1))))) ≡ Ok (number (pos 0))
unfolding half_away half_up number_of sqrt_of root root_in_steps root_after
length_of_millionths = refl

-- norm([40000]) is in range, its square isn't
square_past_the_range : value_of Norm (one (vector (one (number (pos 40000000000))))) ≡ Err NumberRange
unfolding half_away half_up number_of
square_past_the_range = refl

-- cross([1, 2], [3, 4])
cross_of_two : value_of Cross (two (vector (two n1 n2)) (vector (two n3 n4))) ≡ Ok (number (negsuc 1999999))
unfolding half_away half_up number_of
cross_of_two = refl

-- cross([1, 2, 3], [4, 1, 2])
cross_of_three : value_of Cross (two (vector (three n1 n2 n3)) (vector (three n4 n1 n2)))
    ≡ Ok (vector (three n1 (number (pos 10000000)) (number (negsuc 6999999))))
unfolding half_away half_up number_of
cross_of_three = refl

-- concat([1], 2, [[3]])
one_list : value_of Concat (three (vector (one n1)) n2 (vector (one (vector (one n3)))))
    ≡ Ok (vector (three n1 n2 (vector (one n3))))
one_list = refl

-- what stands behind the arguments of a function isn't read
number_functions_read_one : (f : ℤ → ℤ) (d : Datum) (more : Elements) → of_number f (element d more) ≡ of_number f
    (one d)
number_functions_read_one f d more = refl

tests_read_one : (f : Datum → Bool) (d : Datum) (more : Elements) → of_test f (element d more) ≡ of_test f (one d)
tests_read_one f d more = refl

cross_reads_two : (d e : Datum) (more : Elements) → value_of Cross (element d (element e more)) ≡ value_of Cross
    (two d e)
cross_reads_two d e more = refl
