-- Worked examples of rules at their edges, each under its source. Expected values come from an independent program.
use Rattle.std.proofs.Common.{◌≡◌, pos, negsuc, true, [], ◌∷◌, ◌++◌, Some, None, refl}
use Rattle.std.specs.Prelude.{codes}
use Rattle.scad_fault.specs.declared.fault.FaultKind.TheVariants.{BadArgument}
use Rattle.scad_fault.specs.declared.budget.BudgetKind.TheVariants.{Depth}
use Rattle.scad_ast.specs.declared.operator.UnOp.TheVariants.{Minus}
use Rattle.scad_ast.specs.declared.operator.BinOp.TheVariants.{Eq, Div}
use Rattle.scad_ast.specs.Tree.{no_arguments, argument, no_elements, element, item, each, for_each, if_element, no_items, entry, function_of}
use Rattle.scad_ast.specs.Tree.{undef as undef_at, boolean as boolean_at, number as number_at, string as string_at, name as name_at, vector as vector_at, range as range_at, stepped as stepped_at, unary as unary_at, binary as binary_at, index as index_at, call as call_at, let_in, assert_in, echo_in}
use Rattle.scad_value.specs.Datum.{undef, boolean, number, string, vector}
use Rattle.scad_machine.specs.State.{start, gives, refuses}
use Rattle.scad_operations.specs.Runs.{as_elements}
use Rattle.scad_expr.proofs.OnLiterals.{expressions_on_literals}
use Rattle.scad_expr.proofs.ExampleWords.{at, parameter, quote, after, faulted, passed, evaluated}

-- x=[0:0:"a"];
range_step_zero_without_numbers : evaluated 2000 no_items (stepped_at (at 3) (number_at (at 4) (pos 0))
    (number_at (at 6) (pos 0)) (string_at (at 8) (codes "a"))) start ≡ gives undef (after 4 ([]))
unfolding expressions_on_literals
range_step_zero_without_numbers = refl

-- x=[2:0][0];
exchanged_start : evaluated 2000 no_items (index_at (at 8) (range_at (at 3) (number_at (at 4) (pos
    2000000)) (number_at (at 6) (pos 0))) (number_at (at 9) (pos 0))) start ≡ gives (number (pos 0))
    (after 5 ([]))
unfolding expressions_on_literals
exchanged_start = refl

-- x=[2:0]==[0:2];
exchanged_is_the_same : evaluated 2000 no_items (binary_at (at 8) Eq (range_at (at 3) (number_at (at 4)
    (pos 2000000)) (number_at (at 6) (pos 0))) (range_at (at 10) (number_at (at 11) (pos 0)) (number_at
    (at 13) (pos 2000000)))) start ≡ gives (boolean true) (after 7 ([]))
unfolding expressions_on_literals
exchanged_is_the_same = refl

-- x=[for(i=[1:-0.3:0]) i];
range_of_parts : evaluated 2000 no_items (vector_at (at 3) (element (for_each (at 4) (argument (Some
    (codes "i")) (stepped_at (at 10) (number_at (at 11) (pos 1000000)) (unary_at (at 13) Minus
    (number_at (at 14) (pos 300000))) (number_at (at 18) (pos 0))) no_arguments) (item (name_at (at 22)
    (codes "i")))) no_elements)) start ≡ gives (vector (as_elements ((number (pos 1000000)) ∷ (number
    (pos 700000)) ∷ (number (pos 400000)) ∷ (number (pos 100000)) ∷ []))) (after 19 ([]))
unfolding expressions_on_literals
range_of_parts = refl

-- x=[for(i=[-1:0.7:1.1]) i];
range_of_parts_up : evaluated 2000 no_items (vector_at (at 3) (element (for_each (at 4) (argument (Some
    (codes "i")) (stepped_at (at 10) (unary_at (at 11) Minus (number_at (at 12) (pos 1000000)))
    (number_at (at 14) (pos 700000)) (number_at (at 18) (pos 1100000))) no_arguments) (item (name_at (at
    24) (codes "i")))) no_elements)) start ≡ gives (vector (as_elements ((number (negsuc 999999)) ∷
    (number (negsuc 299999)) ∷ (number (pos 400000)) ∷ (number (pos 1100000)) ∷ []))) (after 19 ([]))
unfolding expressions_on_literals
range_of_parts_up = refl

-- x=[for(i=undef,j=1/0) 1];
no_turn_no_second_variable : evaluated 2000 no_items (vector_at (at 3) (element (for_each (at 4)
    (argument (Some (codes "i")) (undef_at (at 10)) (argument (Some (codes "j")) (binary_at (at 19) Div
    (number_at (at 18) (pos 1000000)) (number_at (at 20) (pos 0))) no_arguments)) (item (number_at (at
    23) (pos 1000000)))) no_elements)) start ≡ gives (vector (as_elements ([]))) (after 3 ([]))
unfolding expressions_on_literals
no_turn_no_second_variable = refl

-- x=assert(true, test=undef) 1;
later_test_is_undef : evaluated 2000 no_items (assert_in (at 3) (argument None (boolean_at (at 10) true)
    (argument (Some (codes "test")) (undef_at (at 21)) no_arguments)) (number_at (at 28) (pos 1000000)))
    start ≡ refuses (faulted BadArgument (at 3) (codes "assert")) (after 3 ([]))
unfolding expressions_on_literals
later_test_is_undef = refl

-- x=assert(condition=true) 1;
assert_has_no_condition : evaluated 2000 no_items (assert_in (at 3) (argument (Some (codes "condition"))
    (boolean_at (at 20) true) no_arguments) (number_at (at 26) (pos 1000000))) start ≡ refuses (faulted
    BadArgument (at 3) (codes "assert")) (after 2 ([]))
unfolding expressions_on_literals
assert_has_no_condition = refl

-- x=[each each [[1:3],"ab",undef,[4,[5]]]];
each_of_each : evaluated 2000 no_items (vector_at (at 3) (element (each (at 4) (each (at 9) (item
    (vector_at (at 14) (element (item (range_at (at 15) (number_at (at 16) (pos 1000000)) (number_at (at
    18) (pos 3000000)))) (element (item (string_at (at 21) (codes "ab"))) (element (item (undef_at (at
    26))) (element (item (vector_at (at 32) (element (item (number_at (at 33) (pos 4000000))) (element
    (item (vector_at (at 35) (element (item (number_at (at 36) (pos 5000000))) no_elements)))
    no_elements)))) no_elements)))))))) no_elements)) start ≡ gives (vector (as_elements ((number (pos
    1000000)) ∷ (number (pos 2000000)) ∷ (number (pos 3000000)) ∷ (string (codes "a")) ∷ (string (codes
    "b")) ∷ (number (pos 4000000)) ∷ (vector (as_elements ((number (pos 5000000)) ∷ []))) ∷ []))) (after
    36 ([]))
unfolding expressions_on_literals
each_of_each = refl

-- x=let($a=1,b=$a) b;
let_of_dollar : evaluated 2000 no_items (let_in (at 3) (argument (Some (codes "$a")) (number_at (at 10)
    (pos 1000000)) (argument (Some (codes "b")) (name_at (at 14) (codes "$a")) no_arguments)) (name_at
    (at 18) (codes "b"))) start ≡ gives (number (pos 1000000)) (after 4 ([]))
unfolding expressions_on_literals
let_of_dollar = refl

-- x=[for($i=[1,2],j=[$i]) j];
for_of_dollar : evaluated 2000 no_items (vector_at (at 3) (element (for_each (at 4) (argument (Some
    (codes "$i")) (vector_at (at 11) (element (item (number_at (at 12) (pos 1000000))) (element (item
    (number_at (at 14) (pos 2000000))) no_elements))) (argument (Some (codes "j")) (vector_at (at 19)
    (element (item (name_at (at 20) (codes "$i"))) no_elements)) no_arguments)) (item (name_at (at 25)
    (codes "j")))) no_elements)) start ≡ gives (vector (as_elements ((number (pos 1000000)) ∷ (number
    (pos 2000000)) ∷ []))) (after 21 ([]))
unfolding expressions_on_literals
for_of_dollar = refl

-- function PI()=PI; x=PI();
function_beside_constant : evaluated 2000 (entry (function_of (at 2) (codes "PI") ([]) (name_at (at 16)
    (codes "PI"))) no_items) (call_at (at 22) (codes "PI") no_arguments) start ≡ gives (number (pos
    3141593)) (after 2 ([]))
unfolding expressions_on_literals
function_beside_constant = refl

-- function $g(a)=a; x=$g(2);
function_of_dollar_name : evaluated 2000 (entry (function_of (at 2) (codes "$g") (parameter (codes "a")
    None ∷ []) (name_at (at 17) (codes "a"))) no_items) (call_at (at 22) (codes "$g") (argument None
    (number_at (at 25) (pos 2000000)) no_arguments)) start ≡ gives (number (pos 2000000)) (after 3 ([]))
unfolding expressions_on_literals
function_of_dollar_name = refl

-- x=echo("é") 1;
characters_not_bytes : evaluated 2000 no_items (echo_in (at 3) (argument None (string_at (at 8) (233 ∷
    [])) no_arguments) (number_at (at 14) (pos 1000000))) start ≡ gives (number (pos 1000000)) (after
    12 ((codes "ECHO: " ++ quote ∷ 233 ∷ quote ∷ []) ∷ []))
unfolding expressions_on_literals
characters_not_bytes = refl

-- x=[if(true) 1];, with 2 levels of depth left
depth_of_an_element : evaluated 2 no_items (vector_at (at 3) (element (if_element (at 4) (boolean_at (at
    7) true) (item (number_at (at 13) (pos 1000000)))) no_elements)) start ≡ refuses (passed Depth (at
    7)) (after 2 ([]))
unfolding expressions_on_literals
depth_of_an_element = refl
