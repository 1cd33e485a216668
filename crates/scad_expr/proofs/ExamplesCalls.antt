-- Worked examples of calls and names along them, each under its source. Expected values come from an independent
-- program.
use Rattle.std.proofs.Common.{◌≡◌, pos, true, false, [], ◌∷◌, Some, None, refl}
use Rattle.std.specs.Prelude.{codes}
use Rattle.scad_fault.specs.declared.fault.FaultKind.TheVariants.{LeftOut, UnknownFunction, BadArgument, ZeroDivisor, NumberRange}
use Rattle.scad_ast.specs.declared.operator.UnOp.TheVariants.{Minus}
use Rattle.scad_ast.specs.declared.operator.BinOp.TheVariants.{Eq, Add, Sub, Mul, Div}
use Rattle.scad_ast.specs.Tree.{no_arguments, argument, no_elements, element, item, for_each, no_items, entry, function_of}
use Rattle.scad_ast.specs.Tree.{boolean as boolean_at, number as number_at, string as string_at, name as name_at, vector as vector_at, unary as unary_at, binary as binary_at, choose as choose_at, call as call_at, let_in}
use Rattle.scad_value.specs.Datum.{undef, boolean, number, string, vector}
use Rattle.scad_machine.specs.State.{start, gives, refuses}
use Rattle.scad_operations.specs.Runs.{as_elements}
use Rattle.scad_expr.proofs.OnLiterals.{expressions_on_literals}
use Rattle.scad_expr.proofs.ExampleWords.{at, parameter, after, faulted, evaluated}

-- x=g(1, 1/0);
unknown_function : evaluated 2000 no_items (call_at (at 3) (codes "g") (argument None (number_at (at 5)
    (pos 1000000)) (argument None (binary_at (at 9) Div (number_at (at 8) (pos 1000000)) (number_at (at
    10) (pos 0))) no_arguments))) start ≡ refuses (faulted ZeroDivisor (at 9) []) (after 5 ([]))
unfolding expressions_on_literals
unknown_function = refl

-- x=g(1);
unknown_function_after_arguments : evaluated 2000 no_items (call_at (at 3) (codes "g") (argument None
    (number_at (at 5) (pos 1000000)) no_arguments)) start ≡ refuses (faulted UnknownFunction (at 3)
    (codes "g")) (after 2 ([]))
unfolding expressions_on_literals
unknown_function_after_arguments = refl

-- x=pow(1);
left_out_function : evaluated 2000 no_items (call_at (at 3) (codes "pow") (argument None (number_at (at
    7) (pos 1000000)) no_arguments)) start ≡ refuses (faulted LeftOut (at 3) (codes "pow")) (after 2
    ([]))
unfolding expressions_on_literals
left_out_function = refl

-- x=sqrt(-1);
bad_argument : evaluated 2000 no_items (call_at (at 3) (codes "sqrt") (argument None (unary_at (at 8)
    Minus (number_at (at 9) (pos 1000000))) no_arguments)) start ≡ refuses (faulted BadArgument (at 3)
    (codes "sqrt")) (after 3 ([]))
unfolding expressions_on_literals
bad_argument = refl

-- function f()=1; function f()=2; x=f();
last_definition : evaluated 2000 (entry (function_of (at 2) (codes "f") ([]) (number_at (at 15) (pos
    1000000))) (entry (function_of (at 18) (codes "f") ([]) (number_at (at 31) (pos 2000000)))
    no_items)) (call_at (at 36) (codes "f") no_arguments) start ≡ gives (number (pos 2000000)) (after 2
    ([]))
unfolding expressions_on_literals
last_definition = refl

-- function f(a,b)=[a,b]; x=f(1, a=2);
named_wins_later : evaluated 2000 (entry (function_of (at 2) (codes "f") (parameter (codes "a") None ∷
    parameter (codes "b") None ∷ []) (vector_at (at 18) (element (item (name_at (at 19) (codes "a")))
    (element (item (name_at (at 21) (codes "b"))) no_elements)))) no_items) (call_at (at 27) (codes "f")
    (argument None (number_at (at 29) (pos 1000000)) (argument (Some (codes "a")) (number_at (at 34)
    (pos 2000000)) no_arguments))) start ≡ gives (vector (as_elements ((number (pos 2000000)) ∷ undef ∷
    []))) (after 8 ([]))
unfolding expressions_on_literals
named_wins_later = refl

-- function f(a,b)=[a,b]; x=f(a=2, 1);
unnamed_wins_later : evaluated 2000 (entry (function_of (at 2) (codes "f") (parameter (codes "a") None ∷
    parameter (codes "b") None ∷ []) (vector_at (at 18) (element (item (name_at (at 19) (codes "a")))
    (element (item (name_at (at 21) (codes "b"))) no_elements)))) no_items) (call_at (at 27) (codes "f")
    (argument (Some (codes "a")) (number_at (at 31) (pos 2000000)) (argument None (number_at (at 34)
    (pos 1000000)) no_arguments))) start ≡ gives (vector (as_elements ((number (pos 1000000)) ∷ undef ∷
    []))) (after 8 ([]))
unfolding expressions_on_literals
unnamed_wins_later = refl

-- function f(a)=a; x=f(1, 2, c=3);
surplus : evaluated 2000 (entry (function_of (at 2) (codes "f") (parameter (codes "a") None ∷ [])
    (name_at (at 16) (codes "a"))) no_items) (call_at (at 21) (codes "f") (argument None (number_at (at
    23) (pos 1000000)) (argument None (number_at (at 26) (pos 2000000)) (argument (Some (codes "c"))
    (number_at (at 31) (pos 3000000)) no_arguments)))) start ≡ gives (number (pos 1000000)) (after 5
    ([]))
unfolding expressions_on_literals
surplus = refl

-- function f(a)=a; x=f();
missing_is_undef : evaluated 2000 (entry (function_of (at 2) (codes "f") (parameter (codes "a") None ∷
    []) (name_at (at 16) (codes "a"))) no_items) (call_at (at 21) (codes "f") no_arguments) start ≡
    gives undef (after 2 ([]))
unfolding expressions_on_literals
missing_is_undef = refl

-- function abs(a)=9; x=abs(1);
program_before_language : evaluated 2000 (entry (function_of (at 2) (codes "abs") (parameter (codes "a")
    None ∷ []) (number_at (at 18) (pos 9000000))) no_items) (call_at (at 23) (codes "abs") (argument
    None (number_at (at 27) (pos 1000000)) no_arguments)) start ≡ gives (number (pos 9000000)) (after 3
    ([]))
unfolding expressions_on_literals
program_before_language = refl

-- x=max(1,3,2);
builtin : evaluated 2000 no_items (call_at (at 3) (codes "max") (argument None (number_at (at 7) (pos
    1000000)) (argument None (number_at (at 9) (pos 3000000)) (argument None (number_at (at 11) (pos
    2000000)) no_arguments)))) start ≡ gives (number (pos 3000000)) (after 4 ([]))
unfolding expressions_on_literals
builtin = refl

-- function r(n)=n==0?0:1+r(n-1); x=r(3);
recursion : evaluated 2000 (entry (function_of (at 2) (codes "r") (parameter (codes "n") None ∷ [])
    (choose_at (at 20) (binary_at (at 17) Eq (name_at (at 16) (codes "n")) (number_at (at 19) (pos 0)))
    (number_at (at 21) (pos 0)) (binary_at (at 24) Add (number_at (at 23) (pos 1000000)) (call_at (at
    25) (codes "r") (argument None (binary_at (at 28) Sub (name_at (at 27) (codes "n")) (number_at (at
    29) (pos 1000000))) no_arguments))))) no_items) (call_at (at 35) (codes "r") (argument None
    (number_at (at 37) (pos 3000000)) no_arguments)) start ≡ gives (number (pos 3000000)) (after 37
    ([]))
unfolding expressions_on_literals
recursion = refl

-- function f()=i; x=[for(i=[1]) f()];
for_then_outer_name : evaluated 2000 (entry (function_of (at 2) (codes "f") ([]) (name_at (at 15) (codes
    "i"))) no_items) (vector_at (at 20) (element (for_each (at 21) (argument (Some (codes "i"))
    (vector_at (at 27) (element (item (number_at (at 28) (pos 1000000))) no_elements)) no_arguments)
    (item (call_at (at 32) (codes "f") no_arguments))) no_elements)) start ≡ gives (vector (as_elements
    (undef ∷ []))) (after 9 ([]))
unfolding expressions_on_literals
for_then_outer_name = refl

-- function f()=a; x=let(a=1) f();
let_is_not_seen_in_a_function : evaluated 2000 (entry (function_of (at 2) (codes "f") ([]) (name_at (at
    15) (codes "a"))) no_items) (let_in (at 20) (argument (Some (codes "a")) (number_at (at 26) (pos
    1000000)) no_arguments) (call_at (at 29) (codes "f") no_arguments)) start ≡ gives undef (after 4
    ([]))
unfolding expressions_on_literals
let_is_not_seen_in_a_function = refl

-- x=max(1/0, 1000000000*2);
arguments_left_to_right : evaluated 2000 no_items (call_at (at 3) (codes "max") (argument None
    (binary_at (at 8) Div (number_at (at 7) (pos 1000000)) (number_at (at 9) (pos 0))) (argument None
    (binary_at (at 22) Mul (number_at (at 12) (pos 1000000000000000)) (number_at (at 23) (pos 2000000)))
    no_arguments))) start ≡ refuses (faulted ZeroDivisor (at 8) []) (after 4 ([]))
unfolding expressions_on_literals
arguments_left_to_right = refl

-- x=max(b=1, a=5);
named_arguments_of_the_language : evaluated 2000 no_items (call_at (at 3) (codes "max") (argument (Some
    (codes "b")) (number_at (at 9) (pos 1000000)) (argument (Some (codes "a")) (number_at (at 14) (pos
    5000000)) no_arguments))) start ≡ gives (number (pos 5000000)) (after 3 ([]))
unfolding expressions_on_literals
named_arguments_of_the_language = refl

-- function f(a)=a; x=f(1, 1/0);
surplus_is_evaluated : evaluated 2000 (entry (function_of (at 2) (codes "f") (parameter (codes "a") None
    ∷ []) (name_at (at 16) (codes "a"))) no_items) (call_at (at 21) (codes "f") (argument None
    (number_at (at 23) (pos 1000000)) (argument None (binary_at (at 27) Div (number_at (at 26) (pos
    1000000)) (number_at (at 28) (pos 0))) no_arguments))) start ≡ refuses (faulted ZeroDivisor (at 27)
    []) (after 5 ([]))
unfolding expressions_on_literals
surplus_is_evaluated = refl

-- function f(a)=a; x=f(1, b=2);
unknown_named_is_ignored : evaluated 2000 (entry (function_of (at 2) (codes "f") (parameter (codes "a")
    None ∷ []) (name_at (at 16) (codes "a"))) no_items) (call_at (at 21) (codes "f") (argument None
    (number_at (at 23) (pos 1000000)) (argument (Some (codes "b")) (number_at (at 28) (pos 2000000))
    no_arguments))) start ≡ gives (number (pos 1000000)) (after 4 ([]))
unfolding expressions_on_literals
unknown_named_is_ignored = refl

-- function f(a=b)=a; x=let(b=2) f();
default_sees_definition : evaluated 2000 (entry (function_of (at 2) (codes "f") (parameter (codes "a")
    (Some (name_at (at 15) (codes "b"))) ∷ []) (name_at (at 18) (codes "a"))) no_items) (let_in (at 23)
    (argument (Some (codes "b")) (number_at (at 29) (pos 2000000)) no_arguments) (call_at (at 32) (codes
    "f") no_arguments)) start ≡ gives undef (after 5 ([]))
unfolding expressions_on_literals
default_sees_definition = refl

-- function f(a, b=a)=[a,b]; x=f(1);
default_doesnt_see_parameters : evaluated 2000 (entry (function_of (at 2) (codes "f") (parameter (codes
    "a") None ∷ parameter (codes "b") (Some (name_at (at 18) (codes "a"))) ∷ []) (vector_at (at 21)
    (element (item (name_at (at 22) (codes "a"))) (element (item (name_at (at 24) (codes "b")))
    no_elements)))) no_items) (call_at (at 30) (codes "f") (argument None (number_at (at 32) (pos
    1000000)) no_arguments)) start ≡ gives (vector (as_elements ((number (pos 1000000)) ∷ undef ∷ [])))
    (after 8 ([]))
unfolding expressions_on_literals
default_doesnt_see_parameters = refl

-- function f(f)=f+1; function g(f)=f(f); x=g(3);
parameter_hides_a_function : evaluated 2000 (entry (function_of (at 2) (codes "f") (parameter (codes
    "f") None ∷ []) (binary_at (at 17) Add (name_at (at 16) (codes "f")) (number_at (at 18) (pos
    1000000)))) (entry (function_of (at 21) (codes "g") (parameter (codes "f") None ∷ []) (call_at (at
    35) (codes "f") (argument None (name_at (at 37) (codes "f")) no_arguments))) no_items)) (call_at (at
    43) (codes "g") (argument None (number_at (at 45) (pos 3000000)) no_arguments)) start ≡ gives
    (number (pos 4000000)) (after 7 ([]))
unfolding expressions_on_literals
parameter_hides_a_function = refl

-- function e(n)=n==0?true:o(n-1); function o(n)=n==0?false:e(n-1); x=e(3);
mutual_calls : evaluated 2000 (entry (function_of (at 2) (codes "e") (parameter (codes "n") None ∷ [])
    (choose_at (at 20) (binary_at (at 17) Eq (name_at (at 16) (codes "n")) (number_at (at 19) (pos 0)))
    (boolean_at (at 21) true) (call_at (at 26) (codes "o") (argument None (binary_at (at 29) Sub
    (name_at (at 28) (codes "n")) (number_at (at 30) (pos 1000000))) no_arguments)))) (entry
    (function_of (at 34) (codes "o") (parameter (codes "n") None ∷ []) (choose_at (at 52) (binary_at (at
    49) Eq (name_at (at 48) (codes "n")) (number_at (at 51) (pos 0))) (boolean_at (at 53) false)
    (call_at (at 59) (codes "e") (argument None (binary_at (at 62) Sub (name_at (at 61) (codes "n"))
    (number_at (at 63) (pos 1000000))) no_arguments)))) no_items)) (call_at (at 69) (codes "e")
    (argument None (number_at (at 71) (pos 3000000)) no_arguments)) start ≡ gives (boolean false) (after
    31 ([]))
unfolding expressions_on_literals
mutual_calls = refl

-- x=lookup();
left_out_of_the_language : evaluated 2000 no_items (call_at (at 3) (codes "lookup") no_arguments) start
    ≡ refuses (faulted LeftOut (at 3) (codes "lookup")) (after 1 ([]))
unfolding expressions_on_literals
left_out_of_the_language = refl

-- x=norm([1000000000]);
builtin_past_the_range : evaluated 2000 no_items (call_at (at 3) (codes "norm") (argument None
    (vector_at (at 8) (element (item (number_at (at 9) (pos 1000000000000000))) no_elements))
    no_arguments)) start ≡ refuses (faulted NumberRange (at 3) []) (after 4 ([]))
unfolding expressions_on_literals
builtin_past_the_range = refl

-- x=concat([1,2],3);
made_by_concat : evaluated 2000 no_items (call_at (at 3) (codes "concat") (argument None (vector_at (at
    10) (element (item (number_at (at 11) (pos 1000000))) (element (item (number_at (at 13) (pos
    2000000))) no_elements))) (argument None (number_at (at 16) (pos 3000000)) no_arguments))) start ≡
    gives (vector (as_elements ((number (pos 1000000)) ∷ (number (pos 2000000)) ∷ (number (pos 3000000))
    ∷ []))) (after 10 ([]))
unfolding expressions_on_literals
made_by_concat = refl

-- x=str("a",1);
made_by_str : evaluated 2000 no_items (call_at (at 3) (codes "str") (argument None (string_at (at 7)
    (codes "a")) (argument None (number_at (at 11) (pos 1000000)) no_arguments))) start ≡ gives (string
    (codes "a1")) (after 5 ([]))
unfolding expressions_on_literals
made_by_str = refl
