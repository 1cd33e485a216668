-- Worked examples of `let`, `assert` and `echo`, each under its source. Expected values come from an independent
-- program.
use Rattle.std.proofs.Common.{◌≡◌, pos, true, false, [], ◌∷◌, ◌++◌, Some, None, refl}
use Rattle.std.specs.Prelude.{codes}
use Rattle.scad_fault.specs.declared.fault.FaultKind.TheVariants.{BadArgument, ZeroDivisor, AssertFailed}
use Rattle.scad_ast.specs.declared.operator.UnOp.TheVariants.{Minus}
use Rattle.scad_ast.specs.declared.operator.BinOp.TheVariants.{Eq, Add, Div}
use Rattle.scad_ast.specs.Tree.{no_arguments, argument, no_elements, element, item, no_items}
use Rattle.scad_ast.specs.Tree.{undef as undef_at, boolean as boolean_at, number as number_at, string as string_at, name as name_at, vector as vector_at, range as range_at, unary as unary_at, binary as binary_at, let_in, assert_in, echo_in}
use Rattle.scad_value.specs.Datum.{number, vector}
use Rattle.scad_machine.specs.State.{start, gives, refuses}
use Rattle.scad_operations.specs.Runs.{as_elements}
use Rattle.scad_expr.proofs.OnLiterals.{expressions_on_literals}
use Rattle.scad_expr.proofs.ExampleWords.{at, quote, after, faulted, evaluated}

-- x=assert(1==2) 3;
failed_assert : evaluated 2000 no_items (assert_in (at 3) (argument None (binary_at (at 11) Eq
    (number_at (at 10) (pos 1000000)) (number_at (at 13) (pos 2000000))) no_arguments) (number_at (at
    16) (pos 3000000))) start ≡ refuses (faulted AssertFailed (at 3) []) (after 4 ([]))
unfolding expressions_on_literals
failed_assert = refl

-- x=assert() 3;
assert_without_test : evaluated 2000 no_items (assert_in (at 3) no_arguments (number_at (at 12) (pos
    3000000))) start ≡ refuses (faulted BadArgument (at 3) (codes "assert")) (after 1 ([]))
unfolding expressions_on_literals
assert_without_test = refl

-- x=assert(undef) 3;
assert_undef : evaluated 2000 no_items (assert_in (at 3) (argument None (undef_at (at 10)) no_arguments)
    (number_at (at 17) (pos 3000000))) start ≡ refuses (faulted BadArgument (at 3) (codes "assert"))
    (after 2 ([]))
unfolding expressions_on_literals
assert_undef = refl

-- x=assert(0, test=true) 3;
assert_named_test : evaluated 2000 no_items (assert_in (at 3) (argument None (number_at (at 10) (pos 0))
    (argument (Some (codes "test")) (boolean_at (at 18) true) no_arguments)) (number_at (at 24) (pos
    3000000))) start ≡ gives (number (pos 3000000)) (after 4 ([]))
unfolding expressions_on_literals
assert_named_test = refl

-- x=assert(text=1) 3;
assert_text_alone : evaluated 2000 no_items (assert_in (at 3) (argument (Some (codes "text")) (number_at
    (at 15) (pos 1000000)) no_arguments) (number_at (at 18) (pos 3000000))) start ≡ refuses (faulted
    BadArgument (at 3) (codes "assert")) (after 2 ([]))
unfolding expressions_on_literals
assert_text_alone = refl

-- x=let(a=1, b=a+1) [a,b];
let_in_order : evaluated 2000 no_items (let_in (at 3) (argument (Some (codes "a")) (number_at (at 9)
    (pos 1000000)) (argument (Some (codes "b")) (binary_at (at 15) Add (name_at (at 14) (codes "a"))
    (number_at (at 16) (pos 1000000))) no_arguments)) (vector_at (at 19) (element (item (name_at (at 20)
    (codes "a"))) (element (item (name_at (at 22) (codes "b"))) no_elements)))) start ≡ gives (vector
    (as_elements ((number (pos 1000000)) ∷ (number (pos 2000000)) ∷ []))) (after 10 ([]))
unfolding expressions_on_literals
let_in_order = refl

-- x=let(a=1, 2) a;
let_unnamed : evaluated 2000 no_items (let_in (at 3) (argument (Some (codes "a")) (number_at (at 9) (pos
    1000000)) (argument None (number_at (at 12) (pos 2000000)) no_arguments)) (name_at (at 15) (codes
    "a"))) start ≡ refuses (faulted BadArgument (at 3) (codes "let")) (after 1 ([]))
unfolding expressions_on_literals
let_unnamed = refl

-- x=echo(1, a=true, "s") 2;
echo_line : evaluated 2000 no_items (echo_in (at 3) (argument None (number_at (at 8) (pos 1000000))
    (argument (Some (codes "a")) (boolean_at (at 13) true) (argument None (string_at (at 19) (codes
    "s")) no_arguments))) (number_at (at 24) (pos 2000000))) start ≡ gives (number (pos 2000000)) (after
    27 ((codes "ECHO: 1, a = true, " ++ quote ∷ codes "s" ++ quote ∷ []) ∷ []))
unfolding expressions_on_literals
echo_line = refl

-- x=echo(1) 1/0;
echo_stands_after_fault : evaluated 2000 no_items (echo_in (at 3) (argument None (number_at (at 8) (pos
    1000000)) no_arguments) (binary_at (at 12) Div (number_at (at 11) (pos 1000000)) (number_at (at 13)
    (pos 0)))) start ≡ refuses (faulted ZeroDivisor (at 12) []) (after 12 ((codes "ECHO: 1") ∷ []))
unfolding expressions_on_literals
echo_stands_after_fault = refl

-- x=let(a=1) let(b=a+1) b;
let_sees_outer : evaluated 2000 no_items (let_in (at 3) (argument (Some (codes "a")) (number_at (at 9)
    (pos 1000000)) no_arguments) (let_in (at 12) (argument (Some (codes "b")) (binary_at (at 19) Add
    (name_at (at 18) (codes "a")) (number_at (at 20) (pos 1000000))) no_arguments) (name_at (at 23)
    (codes "b")))) start ≡ gives (number (pos 2000000)) (after 7 ([]))
unfolding expressions_on_literals
let_sees_outer = refl

-- x=let(a=1) let(a=2) a;
let_hides : evaluated 2000 no_items (let_in (at 3) (argument (Some (codes "a")) (number_at (at 9) (pos
    1000000)) no_arguments) (let_in (at 12) (argument (Some (codes "a")) (number_at (at 18) (pos
    2000000)) no_arguments) (name_at (at 21) (codes "a")))) start ≡ gives (number (pos 2000000)) (after
    5 ([]))
unfolding expressions_on_literals
let_hides = refl

-- x=let(a=1, a=a+1) a;
let_same_name_twice : evaluated 2000 no_items (let_in (at 3) (argument (Some (codes "a")) (number_at (at
    9) (pos 1000000)) (argument (Some (codes "a")) (binary_at (at 15) Add (name_at (at 14) (codes "a"))
    (number_at (at 16) (pos 1000000))) no_arguments)) (name_at (at 19) (codes "a"))) start ≡ gives
    (number (pos 2000000)) (after 6 ([]))
unfolding expressions_on_literals
let_same_name_twice = refl

-- x=let(a=1/0, 2) a;
let_is_judged_first : evaluated 2000 no_items (let_in (at 3) (argument (Some (codes "a")) (binary_at (at
    10) Div (number_at (at 9) (pos 1000000)) (number_at (at 11) (pos 0))) (argument None (number_at (at
    14) (pos 2000000)) no_arguments)) (name_at (at 17) (codes "a"))) start ≡ refuses (faulted
    BadArgument (at 3) (codes "let")) (after 1 ([]))
unfolding expressions_on_literals
let_is_judged_first = refl

-- x=let() 3;
let_of_nothing : evaluated 2000 no_items (let_in (at 3) no_arguments (number_at (at 9) (pos 3000000)))
    start ≡ gives (number (pos 3000000)) (after 2 ([]))
unfolding expressions_on_literals
let_of_nothing = refl

-- x=assert(true) 5;
assert_passes : evaluated 2000 no_items (assert_in (at 3) (argument None (boolean_at (at 10) true)
    no_arguments) (number_at (at 16) (pos 5000000))) start ≡ gives (number (pos 5000000)) (after 3 ([]))
unfolding expressions_on_literals
assert_passes = refl

-- x=assert(1, "no") 5;
assert_passes_with_text : evaluated 2000 no_items (assert_in (at 3) (argument None (number_at (at 10)
    (pos 1000000)) (argument None (string_at (at 13) (codes "no")) no_arguments)) (number_at (at 19)
    (pos 5000000))) start ≡ gives (number (pos 5000000)) (after 4 ([]))
unfolding expressions_on_literals
assert_passes_with_text = refl

-- x=assert(true, test=false) 5;
assert_named_later_wins : evaluated 2000 no_items (assert_in (at 3) (argument None (boolean_at (at 10)
    true) (argument (Some (codes "test")) (boolean_at (at 21) false) no_arguments)) (number_at (at 28)
    (pos 5000000))) start ≡ refuses (faulted AssertFailed (at 3) []) (after 3 ([]))
unfolding expressions_on_literals
assert_named_later_wins = refl

-- x=assert(test=false, true) 5;
assert_unnamed_later_wins : evaluated 2000 no_items (assert_in (at 3) (argument (Some (codes "test"))
    (boolean_at (at 15) false) (argument None (boolean_at (at 22) true) no_arguments)) (number_at (at
    28) (pos 5000000))) start ≡ gives (number (pos 5000000)) (after 4 ([]))
unfolding expressions_on_literals
assert_unnamed_later_wins = refl

-- x=assert(false, 1/0) 5;
assert_arguments_first : evaluated 2000 no_items (assert_in (at 3) (argument None (boolean_at (at 10)
    false) (argument None (binary_at (at 18) Div (number_at (at 17) (pos 1000000)) (number_at (at 19)
    (pos 0))) no_arguments)) (number_at (at 22) (pos 5000000))) start ≡ refuses (faulted ZeroDivisor (at
    18) []) (after 5 ([]))
unfolding expressions_on_literals
assert_arguments_first = refl

-- x=echo() 1;
echo_nothing : evaluated 2000 no_items (echo_in (at 3) no_arguments (number_at (at 10) (pos 1000000)))
    start ≡ gives (number (pos 1000000)) (after 8 ((codes "ECHO: ") ∷ []))
unfolding expressions_on_literals
echo_nothing = refl

-- x=echo([1.5,"a"], [0:2], undef, -0.25) 1;
echo_of_values : evaluated 2000 no_items (echo_in (at 3) (argument None (vector_at (at 8) (element (item
    (number_at (at 9) (pos 1500000))) (element (item (string_at (at 13) (codes "a"))) no_elements)))
    (argument None (range_at (at 19) (number_at (at 20) (pos 0)) (number_at (at 22) (pos 2000000)))
    (argument None (undef_at (at 26)) (argument None (unary_at (at 33) Minus (number_at (at 34) (pos
    250000))) no_arguments)))) (number_at (at 40) (pos 1000000))) start ≡ gives (number (pos 1000000))
    (after 57 ((codes "ECHO: [1.5, " ++ quote ∷ codes "a" ++ quote ∷ codes
    "], [0 : 1 : 2], undef, -0.25") ∷ []))
unfolding expressions_on_literals
echo_of_values = refl

-- x=[echo("a") 1, echo("b") 2];
echo_in_order : evaluated 2000 no_items (vector_at (at 3) (element (item (echo_in (at 4) (argument None
    (string_at (at 9) (codes "a")) no_arguments) (number_at (at 14) (pos 1000000)))) (element (item
    (echo_in (at 17) (argument None (string_at (at 22) (codes "b")) no_arguments) (number_at (at 27)
    (pos 2000000)))) no_elements))) start ≡ gives (vector (as_elements ((number (pos 1000000)) ∷ (number
    (pos 2000000)) ∷ []))) (after 27 ((codes "ECHO: " ++ quote ∷ codes "a" ++ quote ∷ []) ∷ (codes
    "ECHO: " ++ quote ∷ codes "b" ++ quote ∷ []) ∷ []))
unfolding expressions_on_literals
echo_in_order = refl
