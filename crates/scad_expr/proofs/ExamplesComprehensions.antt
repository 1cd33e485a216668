-- Worked examples of elements of vectors, each under its source. Expected values come from an independent program.
use Rattle.std.proofs.Common.{◌≡◌, pos, negsuc, true, false, [], ◌∷◌, Some, None, refl}
use Rattle.std.specs.Prelude.{codes}
use Rattle.scad_fault.specs.declared.fault.FaultKind.TheVariants.{BadArgument, ZeroStep}
use Rattle.scad_ast.specs.declared.operator.UnOp.TheVariants.{Minus}
use Rattle.scad_ast.specs.declared.operator.BinOp.TheVariants.{Div}
use Rattle.scad_ast.specs.Tree.{no_arguments, argument, no_elements, element, item, each, for_each, let_element, if_element, if_else, no_items}
use Rattle.scad_ast.specs.Tree.{undef as undef_at, boolean as boolean_at, number as number_at, string as string_at, name as name_at, vector as vector_at, range as range_at, stepped as stepped_at, unary as unary_at, binary as binary_at}
use Rattle.scad_value.specs.Datum.{boolean, number, string, vector}
use Rattle.scad_machine.specs.State.{start, gives, refuses}
use Rattle.scad_operations.specs.Runs.{as_elements}
use Rattle.scad_expr.proofs.OnLiterals.{expressions_on_literals}
use Rattle.scad_expr.proofs.ExampleWords.{at, after, faulted, evaluated}

-- x=[each [1,2], if(false) 3 else 4];
each_and_if : evaluated 2000 no_items (vector_at (at 3) (element (each (at 4) (item (vector_at (at 9)
    (element (item (number_at (at 10) (pos 1000000))) (element (item (number_at (at 12) (pos 2000000)))
    no_elements))))) (element (if_else (at 16) (boolean_at (at 19) false) (item (number_at (at 26) (pos
    3000000))) (item (number_at (at 33) (pos 4000000)))) no_elements))) start ≡ gives (vector
    (as_elements ((number (pos 1000000)) ∷ (number (pos 2000000)) ∷ (number (pos 4000000)) ∷ [])))
    (after 13 ([]))
unfolding expressions_on_literals
each_and_if = refl

-- x=[for(i=[2:0]) i];
range_exchanged : evaluated 2000 no_items (vector_at (at 3) (element (for_each (at 4) (argument (Some
    (codes "i")) (range_at (at 10) (number_at (at 11) (pos 2000000)) (number_at (at 13) (pos 0)))
    no_arguments) (item (name_at (at 17) (codes "i")))) no_elements)) start ≡ gives (vector (as_elements
    ((number (pos 0)) ∷ (number (pos 1000000)) ∷ (number (pos 2000000)) ∷ []))) (after 14 ([]))
unfolding expressions_on_literals
range_exchanged = refl

-- x=[for(i=[2:1:0]) i];
range_written_step_is_empty : evaluated 2000 no_items (vector_at (at 3) (element (for_each (at 4)
    (argument (Some (codes "i")) (stepped_at (at 10) (number_at (at 11) (pos 2000000)) (number_at (at
    13) (pos 1000000)) (number_at (at 15) (pos 0))) no_arguments) (item (name_at (at 19) (codes "i"))))
    no_elements)) start ≡ gives (vector (as_elements ([]))) (after 6 ([]))
unfolding expressions_on_literals
range_written_step_is_empty = refl

-- x=[for(i=[2:-1:0]) i];
range_down : evaluated 2000 no_items (vector_at (at 3) (element (for_each (at 4) (argument (Some (codes
    "i")) (stepped_at (at 10) (number_at (at 11) (pos 2000000)) (unary_at (at 13) Minus (number_at (at
    14) (pos 1000000))) (number_at (at 16) (pos 0))) no_arguments) (item (name_at (at 20) (codes "i"))))
    no_elements)) start ≡ gives (vector (as_elements ((number (pos 2000000)) ∷ (number (pos 1000000)) ∷
    (number (pos 0)) ∷ []))) (after 16 ([]))
unfolding expressions_on_literals
range_down = refl

-- x=[for(i=[0:0.4:1]) i];
range_fraction : evaluated 2000 no_items (vector_at (at 3) (element (for_each (at 4) (argument (Some
    (codes "i")) (stepped_at (at 10) (number_at (at 11) (pos 0)) (number_at (at 13) (pos 400000))
    (number_at (at 17) (pos 1000000))) no_arguments) (item (name_at (at 21) (codes "i")))) no_elements))
    start ≡ gives (vector (as_elements ((number (pos 0)) ∷ (number (pos 400000)) ∷ (number (pos 800000))
    ∷ []))) (after 15 ([]))
unfolding expressions_on_literals
range_fraction = refl

-- x=[for(i=[0:1], j=[0:i]) j];
inner_sees_outer : evaluated 2000 no_items (vector_at (at 3) (element (for_each (at 4) (argument (Some
    (codes "i")) (range_at (at 10) (number_at (at 11) (pos 0)) (number_at (at 13) (pos 1000000)))
    (argument (Some (codes "j")) (range_at (at 19) (number_at (at 20) (pos 0)) (name_at (at 22) (codes
    "i"))) no_arguments)) (item (name_at (at 26) (codes "j")))) no_elements)) start ≡ gives (vector
    (as_elements ((number (pos 0)) ∷ (number (pos 0)) ∷ (number (pos 1000000)) ∷ []))) (after 22 ([]))
unfolding expressions_on_literals
inner_sees_outer = refl

-- x=[for(3) 1];
for_unnamed : evaluated 2000 no_items (vector_at (at 3) (element (for_each (at 4) (argument None
    (number_at (at 8) (pos 3000000)) no_arguments) (item (number_at (at 11) (pos 1000000))))
    no_elements)) start ≡ refuses (faulted BadArgument (at 4) (codes "for")) (after 2 ([]))
unfolding expressions_on_literals
for_unnamed = refl

-- x=[for() 1];
for_nothing : evaluated 2000 no_items (vector_at (at 3) (element (for_each (at 4) no_arguments (item
    (number_at (at 10) (pos 1000000)))) no_elements)) start ≡ refuses (faulted BadArgument (at 4) (codes
    "for")) (after 2 ([]))
unfolding expressions_on_literals
for_nothing = refl

-- x=[for(c="ab") c];
for_over_string : evaluated 2000 no_items (vector_at (at 3) (element (for_each (at 4) (argument (Some
    (codes "c")) (string_at (at 10) (codes "ab")) no_arguments) (item (name_at (at 16) (codes "c"))))
    no_elements)) start ≡ gives (vector (as_elements ((string (codes "a")) ∷ (string (codes "b")) ∷
    []))) (after 11 ([]))
unfolding expressions_on_literals
for_over_string = refl

-- x=[for(c=4) c];
for_over_number : evaluated 2000 no_items (vector_at (at 3) (element (for_each (at 4) (argument (Some
    (codes "c")) (number_at (at 10) (pos 4000000)) no_arguments) (item (name_at (at 13) (codes "c"))))
    no_elements)) start ≡ gives (vector (as_elements ((number (pos 4000000)) ∷ []))) (after 6 ([]))
unfolding expressions_on_literals
for_over_number = refl

-- x=[let(a=2) for(i=[1,a]) i];
let_before_for : evaluated 2000 no_items (vector_at (at 3) (element (let_element (at 4) (argument (Some
    (codes "a")) (number_at (at 10) (pos 2000000)) no_arguments) (for_each (at 13) (argument (Some
    (codes "i")) (vector_at (at 19) (element (item (number_at (at 20) (pos 1000000))) (element (item
    (name_at (at 22) (codes "a"))) no_elements))) no_arguments) (item (name_at (at 26) (codes "i")))))
    no_elements)) start ≡ gives (vector (as_elements ((number (pos 1000000)) ∷ (number (pos 2000000)) ∷
    []))) (after 15 ([]))
unfolding expressions_on_literals
let_before_for = refl

-- x=[each each [[1],2]];
each_each : evaluated 2000 no_items (vector_at (at 3) (element (each (at 4) (each (at 9) (item
    (vector_at (at 14) (element (item (vector_at (at 15) (element (item (number_at (at 16) (pos
    1000000))) no_elements))) (element (item (number_at (at 19) (pos 2000000))) no_elements))))))
    no_elements)) start ≡ gives (vector (as_elements ((number (pos 1000000)) ∷ (number (pos 2000000)) ∷
    []))) (after 13 ([]))
unfolding expressions_on_literals
each_each = refl

-- x=[each [0:2]];
each_range : evaluated 2000 no_items (vector_at (at 3) (element (each (at 4) (item (range_at (at 9)
    (number_at (at 10) (pos 0)) (number_at (at 12) (pos 2000000))))) no_elements)) start ≡ gives (vector
    (as_elements ((number (pos 0)) ∷ (number (pos 1000000)) ∷ (number (pos 2000000)) ∷ []))) (after 8
    ([]))
unfolding expressions_on_literals
each_range = refl

-- x=[for(i=[0:0:0]) i];
zero_step_in_for : evaluated 2000 no_items (vector_at (at 3) (element (for_each (at 4) (argument (Some
    (codes "i")) (stepped_at (at 10) (number_at (at 11) (pos 0)) (number_at (at 13) (pos 0)) (number_at
    (at 15) (pos 0))) no_arguments) (item (name_at (at 19) (codes "i")))) no_elements)) start ≡ refuses
    (faulted ZeroStep (at 10) []) (after 6 ([]))
unfolding expressions_on_literals
zero_step_in_for = refl

-- x=[for(i=[1:-1:-1]) i];
for_down_to_zero : evaluated 2000 no_items (vector_at (at 3) (element (for_each (at 4) (argument (Some
    (codes "i")) (stepped_at (at 10) (number_at (at 11) (pos 1000000)) (unary_at (at 13) Minus
    (number_at (at 14) (pos 1000000))) (unary_at (at 16) Minus (number_at (at 17) (pos 1000000))))
    no_arguments) (item (name_at (at 21) (codes "i")))) no_elements)) start ≡ gives (vector (as_elements
    ((number (pos 1000000)) ∷ (number (pos 0)) ∷ (number (negsuc 999999)) ∷ []))) (after 17 ([]))
unfolding expressions_on_literals
for_down_to_zero = refl

-- x=[for(i=[0:-1:5]) i];
for_up_is_empty : evaluated 2000 no_items (vector_at (at 3) (element (for_each (at 4) (argument (Some
    (codes "i")) (stepped_at (at 10) (number_at (at 11) (pos 0)) (unary_at (at 13) Minus (number_at (at
    14) (pos 1000000))) (number_at (at 16) (pos 5000000))) no_arguments) (item (name_at (at 20) (codes
    "i")))) no_elements)) start ≡ gives (vector (as_elements ([]))) (after 7 ([]))
unfolding expressions_on_literals
for_up_is_empty = refl

-- x=[for(i=undef) i];
for_over_undef : evaluated 2000 no_items (vector_at (at 3) (element (for_each (at 4) (argument (Some
    (codes "i")) (undef_at (at 10)) no_arguments) (item (name_at (at 17) (codes "i")))) no_elements))
    start ≡ gives (vector (as_elements ([]))) (after 3 ([]))
unfolding expressions_on_literals
for_over_undef = refl

-- x=[for(i=true) i];
for_over_boolean : evaluated 2000 no_items (vector_at (at 3) (element (for_each (at 4) (argument (Some
    (codes "i")) (boolean_at (at 10) true) no_arguments) (item (name_at (at 16) (codes "i"))))
    no_elements)) start ≡ gives (vector (as_elements ((boolean true) ∷ []))) (after 6 ([]))
unfolding expressions_on_literals
for_over_boolean = refl

-- x=[for(v=[[1,2],[3]]) v];
for_over_vector_of_vectors : evaluated 2000 no_items (vector_at (at 3) (element (for_each (at 4)
    (argument (Some (codes "v")) (vector_at (at 10) (element (item (vector_at (at 11) (element (item
    (number_at (at 12) (pos 1000000))) (element (item (number_at (at 14) (pos 2000000))) no_elements))))
    (element (item (vector_at (at 17) (element (item (number_at (at 18) (pos 3000000))) no_elements)))
    no_elements))) no_arguments) (item (name_at (at 23) (codes "v")))) no_elements)) start ≡ gives
    (vector (as_elements ((vector (as_elements ((number (pos 1000000)) ∷ (number (pos 2000000)) ∷ [])))
    ∷ (vector (as_elements ((number (pos 3000000)) ∷ []))) ∷ []))) (after 25 ([]))
unfolding expressions_on_literals
for_over_vector_of_vectors = refl

-- x=[for(i=[1,2], i=[i,5]) i];
for_same_name_twice : evaluated 2000 no_items (vector_at (at 3) (element (for_each (at 4) (argument
    (Some (codes "i")) (vector_at (at 10) (element (item (number_at (at 11) (pos 1000000))) (element
    (item (number_at (at 13) (pos 2000000))) no_elements))) (argument (Some (codes "i")) (vector_at (at
    19) (element (item (name_at (at 20) (codes "i"))) (element (item (number_at (at 22) (pos 5000000)))
    no_elements))) no_arguments)) (item (name_at (at 26) (codes "i")))) no_elements)) start ≡ gives
    (vector (as_elements ((number (pos 1000000)) ∷ (number (pos 5000000)) ∷ (number (pos 2000000)) ∷
    (number (pos 5000000)) ∷ []))) (after 31 ([]))
unfolding expressions_on_literals
for_same_name_twice = refl

-- x=[for(i=[1/0], 3) i];
for_second_unnamed : evaluated 2000 no_items (vector_at (at 3) (element (for_each (at 4) (argument (Some
    (codes "i")) (vector_at (at 10) (element (item (binary_at (at 12) Div (number_at (at 11) (pos
    1000000)) (number_at (at 13) (pos 0)))) no_elements)) (argument None (number_at (at 17) (pos
    3000000)) no_arguments)) (item (name_at (at 20) (codes "i")))) no_elements)) start ≡ refuses
    (faulted BadArgument (at 4) (codes "for")) (after 2 ([]))
unfolding expressions_on_literals
for_second_unnamed = refl

-- x=[each "ab"];
each_of_string : evaluated 2000 no_items (vector_at (at 3) (element (each (at 4) (item (string_at (at 9)
    (codes "ab")))) no_elements)) start ≡ gives (vector (as_elements ((string (codes "a")) ∷ (string
    (codes "b")) ∷ []))) (after 7 ([]))
unfolding expressions_on_literals
each_of_string = refl

-- x=[each undef];
each_of_undef : evaluated 2000 no_items (vector_at (at 3) (element (each (at 4) (item (undef_at (at
    9)))) no_elements)) start ≡ gives (vector (as_elements ([]))) (after 3 ([]))
unfolding expressions_on_literals
each_of_undef = refl

-- x=[each 3];
each_of_number : evaluated 2000 no_items (vector_at (at 3) (element (each (at 4) (item (number_at (at 9)
    (pos 3000000)))) no_elements)) start ≡ gives (vector (as_elements ((number (pos 3000000)) ∷ [])))
    (after 4 ([]))
unfolding expressions_on_literals
each_of_number = refl

-- x=[each for(i=[1,2]) [i,i]];
each_of_for : evaluated 2000 no_items (vector_at (at 3) (element (each (at 4) (for_each (at 9) (argument
    (Some (codes "i")) (vector_at (at 15) (element (item (number_at (at 16) (pos 1000000))) (element
    (item (number_at (at 18) (pos 2000000))) no_elements))) no_arguments) (item (vector_at (at 22)
    (element (item (name_at (at 23) (codes "i"))) (element (item (name_at (at 25) (codes "i")))
    no_elements)))))) no_elements)) start ≡ gives (vector (as_elements ((number (pos 1000000)) ∷ (number
    (pos 1000000)) ∷ (number (pos 2000000)) ∷ (number (pos 2000000)) ∷ []))) (after 24 ([]))
unfolding expressions_on_literals
each_of_for = refl

-- x=[each if(false) 1];
each_of_if : evaluated 2000 no_items (vector_at (at 3) (element (each (at 4) (if_element (at 9)
    (boolean_at (at 12) false) (item (number_at (at 19) (pos 1000000))))) no_elements)) start ≡ gives
    (vector (as_elements ([]))) (after 4 ([]))
unfolding expressions_on_literals
each_of_if = refl

-- x=[if(0) 1, 2];
if_without_else : evaluated 2000 no_items (vector_at (at 3) (element (if_element (at 4) (number_at (at
    7) (pos 0)) (item (number_at (at 10) (pos 1000000)))) (element (item (number_at (at 13) (pos
    2000000))) no_elements))) start ≡ gives (vector (as_elements ((number (pos 2000000)) ∷ []))) (after
    5 ([]))
unfolding expressions_on_literals
if_without_else = refl

-- x=[if(0) 1 else if(1) 2 else 3];
if_else_nested : evaluated 2000 no_items (vector_at (at 3) (element (if_else (at 4) (number_at (at 7)
    (pos 0)) (item (number_at (at 10) (pos 1000000))) (if_else (at 17) (number_at (at 20) (pos 1000000))
    (item (number_at (at 23) (pos 2000000))) (item (number_at (at 30) (pos 3000000))))) no_elements))
    start ≡ gives (vector (as_elements ((number (pos 2000000)) ∷ []))) (after 7 ([]))
unfolding expressions_on_literals
if_else_nested = refl

-- x=[let(1) for(i=[1]) i];
let_element_unnamed : evaluated 2000 no_items (vector_at (at 3) (element (let_element (at 4) (argument
    None (number_at (at 8) (pos 1000000)) no_arguments) (for_each (at 11) (argument (Some (codes "i"))
    (vector_at (at 17) (element (item (number_at (at 18) (pos 1000000))) no_elements)) no_arguments)
    (item (name_at (at 22) (codes "i"))))) no_elements)) start ≡ refuses (faulted BadArgument (at 4)
    (codes "let")) (after 2 ([]))
unfolding expressions_on_literals
let_element_unnamed = refl
