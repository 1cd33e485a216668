-- Worked examples of steps and depth, each under its source. Expected values come from an independent program.
use Rattle.std.proofs.Common.{◌≡◌, pos, true, [], ◌∷◌, ◌++◌, Some, None, refl}
use Rattle.std.specs.Prelude.{codes}
use Rattle.scad_fault.specs.declared.budget.BudgetKind.TheVariants.{Steps, Depth}
use Rattle.scad_ast.specs.declared.operator.BinOp.TheVariants.{Eq, Add, Sub, Div}
use Rattle.scad_ast.specs.Tree.{no_arguments, argument, no_elements, element, item, for_loop, no_items, entry, function_of}
use Rattle.scad_ast.specs.Tree.{boolean as boolean_at, number as number_at, string as string_at, name as name_at, vector as vector_at, binary as binary_at, choose as choose_at, call as call_at, echo_in}
use Rattle.scad_value.specs.Datum.{number}
use Rattle.scad_machine.specs.State.{start, gives, refuses}
use Rattle.scad_expr.proofs.OnLiterals.{expressions_on_literals}
use Rattle.scad_expr.proofs.ExampleWords.{at, parameter, quote, after, passed, evaluated}

-- function r(n)=n==0?0:1+r(n-1); x=r(3);, with 6 levels of depth left
too_deep : evaluated 6 (entry (function_of (at 2) (codes "r") (parameter (codes "n") None ∷ [])
    (choose_at (at 20) (binary_at (at 17) Eq (name_at (at 16) (codes "n")) (number_at (at 19) (pos 0)))
    (number_at (at 21) (pos 0)) (binary_at (at 24) Add (number_at (at 23) (pos 1000000)) (call_at (at
    25) (codes "r") (argument None (binary_at (at 28) Sub (name_at (at 27) (codes "n")) (number_at (at
    29) (pos 1000000))) no_arguments))))) no_items) (call_at (at 35) (codes "r") (argument None
    (number_at (at 37) (pos 3000000)) no_arguments)) start ≡ refuses (passed Depth (at 16)) (after 14
    ([]))
unfolding expressions_on_literals
too_deep = refl

-- x=1+2;, with 1 levels of depth left
depth_before_step : evaluated 1 no_items (binary_at (at 4) Add (number_at (at 3) (pos 1000000))
    (number_at (at 5) (pos 2000000))) start ≡ refuses (passed Depth (at 3)) (after 1 ([]))
unfolding expressions_on_literals
depth_before_step = refl

-- x=1;, after 4999999 steps
last_step : evaluated 2000 no_items (number_at (at 3) (pos 1000000)) (after 4999999 []) ≡ gives (number
    (pos 1000000)) (after 5000000 ([]))
unfolding expressions_on_literals
last_step = refl

-- x=1;, after 5000000 steps
one_step_too_many : evaluated 2000 no_items (number_at (at 3) (pos 1000000)) (after 5000000 []) ≡
    refuses (passed Steps (at 3)) (after 5000000 ([]))
unfolding expressions_on_literals
one_step_too_many = refl

-- x=[1,2,1/0];, after 4999996 steps
fault_before_vector_steps : evaluated 2000 no_items (vector_at (at 3) (element (item (number_at (at 4)
    (pos 1000000))) (element (item (number_at (at 6) (pos 2000000))) (element (item (binary_at (at 9)
    Div (number_at (at 8) (pos 1000000)) (number_at (at 10) (pos 0)))) no_elements)))) (after 4999996
    []) ≡ refuses (passed Steps (at 8)) (after 5000000 ([]))
unfolding expressions_on_literals
fault_before_vector_steps = refl

-- x=[1,2,3];, after 4999996 steps
vector_steps : evaluated 2000 no_items (vector_at (at 3) (element (item (number_at (at 4) (pos
    1000000))) (element (item (number_at (at 6) (pos 2000000))) (element (item (number_at (at 8) (pos
    3000000))) no_elements)))) (after 4999996 []) ≡ refuses (passed Steps (at 3)) (after 5000000 ([]))
unfolding expressions_on_literals
vector_steps = refl

-- x=[for(;true;) 1];, after 4999990 steps
loop_steps_past_limit : evaluated 2000 no_items (vector_at (at 3) (element (for_loop (at 4) no_arguments
    (boolean_at (at 9) true) no_arguments (item (number_at (at 16) (pos 1000000)))) no_elements)) (after
    4999990 []) ≡ refuses (passed Steps (at 16)) (after 5000000 ([]))
unfolding expressions_on_literals
loop_steps_past_limit = refl

-- x=echo("abc") 1;, after 4999995 steps
echo_line_past_the_limit : evaluated 2000 no_items (echo_in (at 3) (argument None (string_at (at 8)
    (codes "abc")) no_arguments) (number_at (at 15) (pos 1000000))) (after 4999995 []) ≡ refuses (passed
    Steps (at 3)) (after 4999997 ((codes "ECHO: " ++ quote ∷ codes "abc" ++ quote ∷ []) ∷ []))
unfolding expressions_on_literals
echo_line_past_the_limit = refl

-- function f(a)=a; x=f(f(1));, with 3 levels of depth left
call_too_deep : evaluated 3 (entry (function_of (at 2) (codes "f") (parameter (codes "a") None ∷ [])
    (name_at (at 16) (codes "a"))) no_items) (call_at (at 21) (codes "f") (argument None (call_at (at
    23) (codes "f") (argument None (number_at (at 25) (pos 1000000)) no_arguments)) no_arguments)) start
    ≡ gives (number (pos 1000000)) (after 5 ([]))
unfolding expressions_on_literals
call_too_deep = refl

-- function f(a=1+1)=a; x=f();, with 2 levels of depth left
call_default_depth : evaluated 2 (entry (function_of (at 2) (codes "f") (parameter (codes "a") (Some
    (binary_at (at 16) Add (number_at (at 15) (pos 1000000)) (number_at (at 17) (pos 1000000)))) ∷ [])
    (name_at (at 20) (codes "a"))) no_items) (call_at (at 25) (codes "f") no_arguments) start ≡ refuses
    (passed Depth (at 15)) (after 2 ([]))
unfolding expressions_on_literals
call_default_depth = refl
