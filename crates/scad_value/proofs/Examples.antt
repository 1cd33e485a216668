-- Worked values, by computation.
use Rattle.std.proofs.Common.{◌≡◌, pos, negsuc, Ok, Err, [], ◌∷◌, false, refl}
use Rattle.std.specs.Prelude.{codes}
use Rattle.std.specs.Fmt.{digits}
use Rattle.scad_num.specs.Number.{number_of, quotient_of}
use Rattle.scad_num.specs.Rounding.{half_up, half_away}
use Rattle.scad_ast.specs.declared.operator.BinOp.TheVariants.{Lt, Add, Mul, Div}
use Rattle.scad_value.specs.declared.fault.ValueFault.TheVariants.{ZeroDivisor}
use Rattle.scad_value.specs.Datum.{Datum, undef, boolean, number, string, vector, no_elements, element}
use Rattle.scad_value.specs.Index.{indexed}
use Rattle.scad_value.specs.Measures.{made, nesting}
use Rattle.scad_value.specs.Operators.{op}
use Rattle.scad_value.specs.Texts.{text}

abbrev two : Datum → Datum → Datum
two a b = vector (element a (element b no_elements))

abbrev n : Datum
n = number (pos 3000000)

-- [1, 2]
abbrev pair : Datum
pair = two (number (pos 1000000)) (number (pos 2000000))

-- [[1, 2], [3, 4]]
abbrev square : Datum
square = two pair (two (number (pos 3000000)) (number (pos 4000000)))

-- [1, 2] + [3] = [4]
shorter : op Add pair (vector (element n no_elements)) ≡ Ok (vector (element (number (pos 4000000)) no_elements))
unfolding number_of
shorter = refl

-- [1, 2] * [1, 2] = 5
scalar : op Mul pair pair ≡ Ok (number (pos 5000000))
unfolding number_of half_away half_up
scalar = refl

-- [[1, 2], [3, 4]] * [1, 2] = [5, 11]
matrix_vector : op Mul square pair ≡ Ok (two (number (pos 5000000)) (number (pos 11000000)))
unfolding number_of half_away half_up
matrix_vector = refl

-- [1, 2] * [[1, 2], [3, 4]] = [7, 10]
vector_matrix : op Mul pair square ≡ Ok (two (number (pos 7000000)) (number (pos 10000000)))
unfolding number_of half_away half_up
vector_matrix = refl

-- [[1, 2], [3, 4]] * [[1, 2], [3, 4]] = [[7, 10], [15, 22]]
matrix_matrix : op Mul square square ≡ Ok (two (two (number (pos 7000000)) (number (pos 10000000)))
    (two (number (pos 15000000)) (number (pos 22000000))))
unfolding number_of half_away half_up
matrix_matrix = refl

-- [1, 2] / 0
by_zero : op Div pair (number (pos 0)) ≡ Err ZeroDivisor
unfolding quotient_of
by_zero = refl

-- "b" < "ab" isn't so, though it is shorter
by_code_points : op Lt (string (98 ∷ [])) (string (97 ∷ 98 ∷ [])) ≡ Ok (boolean false)
by_code_points = refl

-- [1, 2] has no order, and isn't 3
no_order : op Lt pair n ≡ Ok undef
no_order = refl

-- [1, 2][1.9] = 2
cut_index : indexed pair (number (pos 1900000)) ≡ number (pos 2000000)
cut_index = refl

-- the steps and the depth of [[1, 2], "ab"]
made_at_every_depth : made (two pair (string (97 ∷ 98 ∷ []))) ≡ 6
made_at_every_depth = refl

nested : nesting (two pair (string (97 ∷ 98 ∷ []))) ≡ 2
nested = refl

-- a vector, as it is printed
printed : text (two (number (negsuc 499999)) (string (97 ∷ []))) ≡ codes "[-0.5, \"a\"]"
unfolding digits
printed = refl
