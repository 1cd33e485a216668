-- Worked examples of `for` with start, test and step, each under its source. Expected values come from an independent
-- program.
use Rattle.std.proofs.Common.{◌≡◌, pos, false, [], ◌∷◌, Some, None, refl}
use Rattle.std.specs.Prelude.{codes}
use Rattle.scad_fault.specs.declared.fault.FaultKind.TheVariants.{BadArgument, ZeroDivisor}
use Rattle.scad_ast.specs.declared.operator.BinOp.TheVariants.{Lt, Add, Mul, Div}
use Rattle.scad_ast.specs.Tree.{no_arguments, argument, no_elements, element, item, for_loop, no_items}
use Rattle.scad_ast.specs.Tree.{boolean as boolean_at, number as number_at, name as name_at, vector as vector_at, binary as binary_at}
use Rattle.scad_value.specs.Datum.{number, vector}
use Rattle.scad_machine.specs.State.{start, gives, refuses}
use Rattle.scad_operations.specs.Runs.{as_elements}
use Rattle.scad_expr.proofs.OnLiterals.{expressions_on_literals}
use Rattle.scad_expr.proofs.ExampleWords.{at, after, faulted, evaluated}

-- x=[for(i=0;i<3;i=i+1) i*i];
three_part_loop : evaluated 2000 no_items (vector_at (at 3) (element (for_loop (at 4) (argument (Some
    (codes "i")) (number_at (at 10) (pos 0)) no_arguments) (binary_at (at 13) Lt (name_at (at 12) (codes
    "i")) (number_at (at 14) (pos 3000000))) (argument (Some (codes "i")) (binary_at (at 19) Add
    (name_at (at 18) (codes "i")) (number_at (at 20) (pos 1000000))) no_arguments) (item (binary_at (at
    24) Mul (name_at (at 23) (codes "i")) (name_at (at 25) (codes "i"))))) no_elements)) start ≡ gives
    (vector (as_elements ((number (pos 0)) ∷ (number (pos 1000000)) ∷ (number (pos 4000000)) ∷ [])))
    (after 39 ([]))
unfolding expressions_on_literals
three_part_loop = refl

-- x=[for(;false;) 1];
loop_without_start : evaluated 2000 no_items (vector_at (at 3) (element (for_loop (at 4) no_arguments
    (boolean_at (at 9) false) no_arguments (item (number_at (at 17) (pos 1000000)))) no_elements)) start
    ≡ gives (vector (as_elements ([]))) (after 3 ([]))
unfolding expressions_on_literals
loop_without_start = refl

-- x=[for(a=0,b=1;a<3;a=a+1,b=a*2) b];
loop_step_in_order : evaluated 2000 no_items (vector_at (at 3) (element (for_loop (at 4) (argument (Some
    (codes "a")) (number_at (at 10) (pos 0)) (argument (Some (codes "b")) (number_at (at 14) (pos
    1000000)) no_arguments)) (binary_at (at 17) Lt (name_at (at 16) (codes "a")) (number_at (at 18) (pos
    3000000))) (argument (Some (codes "a")) (binary_at (at 23) Add (name_at (at 22) (codes "a"))
    (number_at (at 24) (pos 1000000))) (argument (Some (codes "b")) (binary_at (at 29) Mul (name_at (at
    28) (codes "a")) (number_at (at 30) (pos 2000000))) no_arguments)) (item (name_at (at 33) (codes
    "b")))) no_elements)) start ≡ gives (vector (as_elements ((number (pos 1000000)) ∷ (number (pos
    2000000)) ∷ (number (pos 4000000)) ∷ []))) (after 43 ([]))
unfolding expressions_on_literals
loop_step_in_order = refl

-- x=[for(1;false;) 1];
loop_unnamed_start : evaluated 2000 no_items (vector_at (at 3) (element (for_loop (at 4) (argument None
    (number_at (at 8) (pos 1000000)) no_arguments) (boolean_at (at 10) false) no_arguments (item
    (number_at (at 18) (pos 1000000)))) no_elements)) start ≡ refuses (faulted BadArgument (at 4) (codes
    "for")) (after 2 ([]))
unfolding expressions_on_literals
loop_unnamed_start = refl

-- x=[for(a=0;1/0;2) 1];
loop_unnamed_step : evaluated 2000 no_items (vector_at (at 3) (element (for_loop (at 4) (argument (Some
    (codes "a")) (number_at (at 10) (pos 0)) no_arguments) (binary_at (at 13) Div (number_at (at 12)
    (pos 1000000)) (number_at (at 14) (pos 0))) (argument None (number_at (at 16) (pos 2000000))
    no_arguments) (item (number_at (at 19) (pos 1000000)))) no_elements)) start ≡ refuses (faulted
    BadArgument (at 4) (codes "for")) (after 2 ([]))
unfolding expressions_on_literals
loop_unnamed_step = refl

-- x=[for(a=0;1/0;a=1) a];
loop_test_faults : evaluated 2000 no_items (vector_at (at 3) (element (for_loop (at 4) (argument (Some
    (codes "a")) (number_at (at 10) (pos 0)) no_arguments) (binary_at (at 13) Div (number_at (at 12)
    (pos 1000000)) (number_at (at 14) (pos 0))) (argument (Some (codes "a")) (number_at (at 18) (pos
    1000000)) no_arguments) (item (name_at (at 21) (codes "a")))) no_elements)) start ≡ refuses (faulted
    ZeroDivisor (at 13) []) (after 6 ([]))
unfolding expressions_on_literals
loop_test_faults = refl
