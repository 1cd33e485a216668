-- Worked examples of parameters of one name, each under its source. Expected values come from an independent program.
use Rattle.std.proofs.Common.{◌≡◌, pos, [], ◌∷◌, Some, None, refl}
use Rattle.std.specs.Prelude.{codes}
use Rattle.scad_fault.specs.declared.fault.FaultKind.TheVariants.{ZeroDivisor}
use Rattle.scad_ast.specs.declared.operator.BinOp.TheVariants.{Add, Div}
use Rattle.scad_ast.specs.Tree.{no_arguments, argument, no_elements, element, item, no_items, entry, function_of}
use Rattle.scad_ast.specs.Tree.{undef as undef_at, number as number_at, name as name_at, vector as vector_at, binary as binary_at, call as call_at}
use Rattle.scad_value.specs.Datum.{undef, number, vector}
use Rattle.scad_machine.specs.State.{start, gives, refuses}
use Rattle.scad_operations.specs.Runs.{as_elements}
use Rattle.scad_expr.proofs.OnLiterals.{expressions_on_literals}
use Rattle.scad_expr.proofs.ExampleWords.{at, parameter, after, faulted, evaluated}

-- function f(a=1/0,a=2)=a; x=f();
both_defaults_are_evaluated : evaluated 2000 (entry (function_of (at 2) (codes "f") (parameter (codes
    "a") (Some (binary_at (at 16) Div (number_at (at 15) (pos 1000000)) (number_at (at 17) (pos 0)))) ∷
    parameter (codes "a") (Some (number_at (at 21) (pos 2000000))) ∷ []) (name_at (at 24) (codes "a")))
    no_items) (call_at (at 29) (codes "f") no_arguments) start ≡ refuses (faulted ZeroDivisor (at 16)
    []) (after 4 ([]))
unfolding expressions_on_literals
both_defaults_are_evaluated = refl

-- function f(a=1,a=2)=a; x=f();
later_default_counts : evaluated 2000 (entry (function_of (at 2) (codes "f") (parameter (codes "a")
    (Some (number_at (at 15) (pos 1000000))) ∷ parameter (codes "a") (Some (number_at (at 19) (pos
    2000000))) ∷ []) (name_at (at 22) (codes "a"))) no_items) (call_at (at 27) (codes "f") no_arguments)
    start ≡ gives (number (pos 2000000)) (after 4 ([]))
unfolding expressions_on_literals
later_default_counts = refl

-- function f(a=1,a)=a; x=f();
later_one_has_no_default : evaluated 2000 (entry (function_of (at 2) (codes "f") (parameter (codes "a")
    (Some (number_at (at 15) (pos 1000000))) ∷ parameter (codes "a") None ∷ []) (name_at (at 20) (codes
    "a"))) no_items) (call_at (at 25) (codes "f") no_arguments) start ≡ gives undef (after 3 ([]))
unfolding expressions_on_literals
later_one_has_no_default = refl

-- function f(a=1/0,a=1/0)=a; x=f(a=3);
given_by_name_is_not_missing : evaluated 2000 (entry (function_of (at 2) (codes "f") (parameter (codes
    "a") (Some (binary_at (at 16) Div (number_at (at 15) (pos 1000000)) (number_at (at 17) (pos 0)))) ∷
    parameter (codes "a") (Some (binary_at (at 22) Div (number_at (at 21) (pos 1000000)) (number_at (at
    23) (pos 0)))) ∷ []) (name_at (at 26) (codes "a"))) no_items) (call_at (at 31) (codes "f") (argument
    (Some (codes "a")) (number_at (at 35) (pos 3000000)) no_arguments)) start ≡ gives (number (pos
    3000000)) (after 3 ([]))
unfolding expressions_on_literals
given_by_name_is_not_missing = refl

-- function f(a,a,b)=[a,b]; x=f(1,2,3);
each_takes_its_place : evaluated 2000 (entry (function_of (at 2) (codes "f") (parameter (codes "a") None
    ∷ parameter (codes "a") None ∷ parameter (codes "b") None ∷ []) (vector_at (at 20) (element (item
    (name_at (at 21) (codes "a"))) (element (item (name_at (at 23) (codes "b"))) no_elements))))
    no_items) (call_at (at 29) (codes "f") (argument None (number_at (at 31) (pos 1000000)) (argument
    None (number_at (at 33) (pos 2000000)) (argument None (number_at (at 35) (pos 3000000))
    no_arguments)))) start ≡ gives (vector (as_elements ((number (pos 2000000)) ∷ (number (pos 3000000))
    ∷ []))) (after 9 ([]))
unfolding expressions_on_literals
each_takes_its_place = refl

-- function f(a,a,b)=[a,b]; x=f(1,b=3);
first_place_alone : evaluated 2000 (entry (function_of (at 2) (codes "f") (parameter (codes "a") None ∷
    parameter (codes "a") None ∷ parameter (codes "b") None ∷ []) (vector_at (at 20) (element (item
    (name_at (at 21) (codes "a"))) (element (item (name_at (at 23) (codes "b"))) no_elements))))
    no_items) (call_at (at 29) (codes "f") (argument None (number_at (at 31) (pos 1000000)) (argument
    (Some (codes "b")) (number_at (at 35) (pos 3000000)) no_arguments))) start ≡ gives (vector
    (as_elements ((number (pos 1000000)) ∷ (number (pos 3000000)) ∷ []))) (after 8 ([]))
unfolding expressions_on_literals
first_place_alone = refl

-- function f($a=1,$a=$a+1)=$a; x=f();
later_default_sees_the_earlier : evaluated 2000 (entry (function_of (at 2) (codes "f") (parameter (codes
    "$a") (Some (number_at (at 16) (pos 1000000))) ∷ parameter (codes "$a") (Some (binary_at (at 23) Add
    (name_at (at 21) (codes "$a")) (number_at (at 24) (pos 1000000)))) ∷ []) (name_at (at 27) (codes
    "$a"))) no_items) (call_at (at 33) (codes "f") no_arguments) start ≡ gives (number (pos 2000000))
    (after 6 ([]))
unfolding expressions_on_literals
later_default_sees_the_earlier = refl

-- function f(a=1)=a; x=f(undef);
undef_is_given : evaluated 2000 (entry (function_of (at 2) (codes "f") (parameter (codes "a") (Some
    (number_at (at 15) (pos 1000000))) ∷ []) (name_at (at 18) (codes "a"))) no_items) (call_at (at 23)
    (codes "f") (argument None (undef_at (at 25)) no_arguments)) start ≡ gives undef (after 3 ([]))
unfolding expressions_on_literals
undef_is_given = refl
