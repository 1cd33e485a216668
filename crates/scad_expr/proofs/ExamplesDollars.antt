-- Worked examples of `$` names, each under its source. Expected values come from an independent program.
use Rattle.std.proofs.Common.{◌≡◌, pos, true, false, [], ◌∷◌, Some, None, refl}
use Rattle.std.specs.Prelude.{codes}
use Rattle.scad_ast.specs.declared.operator.BinOp.TheVariants.{Lt, Add}
use Rattle.scad_ast.specs.Tree.{no_arguments, argument, no_elements, element, item, for_each, for_loop, let_element, no_items, entry, function_of}
use Rattle.scad_ast.specs.Tree.{boolean as boolean_at, number as number_at, name as name_at, vector as vector_at, binary as binary_at, call as call_at, let_in, assert_in, echo_in}
use Rattle.scad_value.specs.Datum.{undef, boolean, number, vector}
use Rattle.scad_machine.specs.State.{start, gives}
use Rattle.scad_operations.specs.Runs.{as_elements}
use Rattle.scad_expr.proofs.OnLiterals.{expressions_on_literals}
use Rattle.scad_expr.proofs.ExampleWords.{at, parameter, after, evaluated}

-- function f()=$v; x=let($v=3) f();
let_dollar : evaluated 2000 (entry (function_of (at 2) (codes "f") ([]) (name_at (at 15) (codes "$v")))
    no_items) (let_in (at 21) (argument (Some (codes "$v")) (number_at (at 28) (pos 3000000))
    no_arguments) (call_at (at 31) (codes "f") no_arguments)) start ≡ gives (number (pos 3000000))
    (after 4 ([]))
unfolding expressions_on_literals
let_dollar = refl

-- function f(a, b=$v)=[a,b]; x=f(1, $v=7);
default_of_a_call : evaluated 2000 (entry (function_of (at 2) (codes "f") (parameter (codes "a") None ∷
    parameter (codes "b") (Some (name_at (at 18) (codes "$v"))) ∷ []) (vector_at (at 22) (element (item
    (name_at (at 23) (codes "a"))) (element (item (name_at (at 25) (codes "b"))) no_elements))))
    no_items) (call_at (at 31) (codes "f") (argument None (number_at (at 33) (pos 1000000)) (argument
    (Some (codes "$v")) (number_at (at 39) (pos 7000000)) no_arguments))) start ≡ gives (vector
    (as_elements ((number (pos 1000000)) ∷ (number (pos 7000000)) ∷ []))) (after 9 ([]))
unfolding expressions_on_literals
default_of_a_call = refl

-- function g()=$u; function f()=g(); x=f($u=5);
dollar_along_calls : evaluated 2000 (entry (function_of (at 2) (codes "g") ([]) (name_at (at 15) (codes
    "$u"))) (entry (function_of (at 19) (codes "f") ([]) (call_at (at 32) (codes "g") no_arguments))
    no_items)) (call_at (at 39) (codes "f") (argument (Some (codes "$u")) (number_at (at 44) (pos
    5000000)) no_arguments)) start ≡ gives (number (pos 5000000)) (after 4 ([]))
unfolding expressions_on_literals
dollar_along_calls = refl

-- function g()=$p; function f($p=4)=g(); x=f();
dollar_parameter : evaluated 2000 (entry (function_of (at 2) (codes "g") ([]) (name_at (at 15) (codes
    "$p"))) (entry (function_of (at 19) (codes "f") (parameter (codes "$p") (Some (number_at (at 33)
    (pos 4000000))) ∷ []) (call_at (at 36) (codes "g") no_arguments)) no_items)) (call_at (at 43) (codes
    "f") no_arguments) start ≡ gives (number (pos 4000000)) (after 4 ([]))
unfolding expressions_on_literals
dollar_parameter = refl

-- function f()=$i; x=[for($i=[1,2]) f()];
for_dollar : evaluated 2000 (entry (function_of (at 2) (codes "f") ([]) (name_at (at 15) (codes "$i")))
    no_items) (vector_at (at 21) (element (for_each (at 22) (argument (Some (codes "$i")) (vector_at (at
    29) (element (item (number_at (at 30) (pos 1000000))) (element (item (number_at (at 32) (pos
    2000000))) no_elements))) no_arguments) (item (call_at (at 36) (codes "f") no_arguments)))
    no_elements)) start ≡ gives (vector (as_elements ((number (pos 1000000)) ∷ (number (pos 2000000)) ∷
    []))) (after 15 ([]))
unfolding expressions_on_literals
for_dollar = refl

-- function f()=$a; x=[for($a=0;$a<2;$a=$a+1) f()];
loop_dollar : evaluated 2000 (entry (function_of (at 2) (codes "f") ([]) (name_at (at 15) (codes "$a")))
    no_items) (vector_at (at 21) (element (for_loop (at 22) (argument (Some (codes "$a")) (number_at (at
    29) (pos 0)) no_arguments) (binary_at (at 33) Lt (name_at (at 31) (codes "$a")) (number_at (at 34)
    (pos 2000000))) (argument (Some (codes "$a")) (binary_at (at 41) Add (name_at (at 39) (codes "$a"))
    (number_at (at 42) (pos 1000000))) no_arguments) (item (call_at (at 45) (codes "f") no_arguments)))
    no_elements)) start ≡ gives (vector (as_elements ((number (pos 0)) ∷ (number (pos 1000000)) ∷ [])))
    (after 26 ([]))
unfolding expressions_on_literals
loop_dollar = refl

-- function f()=$q; x=[let($q=8) for(i=[1]) f()];
let_element_dollar : evaluated 2000 (entry (function_of (at 2) (codes "f") ([]) (name_at (at 15) (codes
    "$q"))) no_items) (vector_at (at 21) (element (let_element (at 22) (argument (Some (codes "$q"))
    (number_at (at 29) (pos 8000000)) no_arguments) (for_each (at 32) (argument (Some (codes "i"))
    (vector_at (at 38) (element (item (number_at (at 39) (pos 1000000))) no_elements)) no_arguments)
    (item (call_at (at 43) (codes "f") no_arguments)))) no_elements)) start ≡ gives (vector (as_elements
    ((number (pos 8000000)) ∷ []))) (after 11 ([]))
unfolding expressions_on_literals
let_element_dollar = refl

-- function f()=$v; x=[let($v=3) f(), f()];
let_dollar_is_gone_after : evaluated 2000 (entry (function_of (at 2) (codes "f") ([]) (name_at (at 15)
    (codes "$v"))) no_items) (vector_at (at 21) (element (item (let_in (at 22) (argument (Some (codes
    "$v")) (number_at (at 29) (pos 3000000)) no_arguments) (call_at (at 32) (codes "f") no_arguments)))
    (element (item (call_at (at 37) (codes "f") no_arguments)) no_elements))) start ≡ gives (vector
    (as_elements ((number (pos 3000000)) ∷ undef ∷ []))) (after 9 ([]))
unfolding expressions_on_literals
let_dollar_is_gone_after = refl

-- function f()=$v; x=assert(true, $v=3) f();
assert_dollar_isnt_set : evaluated 2000 (entry (function_of (at 2) (codes "f") ([]) (name_at (at 15)
    (codes "$v"))) no_items) (assert_in (at 21) (argument None (boolean_at (at 28) true) (argument (Some
    (codes "$v")) (number_at (at 37) (pos 3000000)) no_arguments)) (call_at (at 40) (codes "f")
    no_arguments)) start ≡ gives undef (after 5 ([]))
unfolding expressions_on_literals
assert_dollar_isnt_set = refl

-- function f()=$v; x=echo($v=3) f();
echo_dollar_isnt_set : evaluated 2000 (entry (function_of (at 2) (codes "f") ([]) (name_at (at 15)
    (codes "$v"))) no_items) (echo_in (at 21) (argument (Some (codes "$v")) (number_at (at 29) (pos
    3000000)) no_arguments) (call_at (at 32) (codes "f") no_arguments)) start ≡ gives undef (after 16
    ((codes "ECHO: $v = 3") ∷ []))
unfolding expressions_on_literals
echo_dollar_isnt_set = refl

-- function g()=$p; function f($p=1, b=g())=b; x=f();
defaults_in_order : evaluated 2000 (entry (function_of (at 2) (codes "g") ([]) (name_at (at 15) (codes
    "$p"))) (entry (function_of (at 19) (codes "f") (parameter (codes "$p") (Some (number_at (at 33)
    (pos 1000000))) ∷ parameter (codes "b") (Some (call_at (at 38) (codes "g") no_arguments)) ∷ [])
    (name_at (at 43) (codes "b"))) no_items)) (call_at (at 48) (codes "f") no_arguments) start ≡ gives
    (number (pos 1000000)) (after 5 ([]))
unfolding expressions_on_literals
defaults_in_order = refl

-- function g()=$q; function f(a=g(), $q=2)=a; x=f($q=7);
given_before_defaults : evaluated 2000 (entry (function_of (at 2) (codes "g") ([]) (name_at (at 15)
    (codes "$q"))) (entry (function_of (at 19) (codes "f") (parameter (codes "a") (Some (call_at (at 32)
    (codes "g") no_arguments)) ∷ parameter (codes "$q") (Some (number_at (at 40) (pos 2000000))) ∷ [])
    (name_at (at 43) (codes "a"))) no_items)) (call_at (at 48) (codes "f") (argument (Some (codes "$q"))
    (number_at (at 53) (pos 7000000)) no_arguments)) start ≡ gives (number (pos 7000000)) (after 5 ([]))
unfolding expressions_on_literals
given_before_defaults = refl

-- function g()=$q; function f(a=g(), $q=2)=a; x=f();
default_before_later_dollar : evaluated 2000 (entry (function_of (at 2) (codes "g") ([]) (name_at (at
    15) (codes "$q"))) (entry (function_of (at 19) (codes "f") (parameter (codes "a") (Some (call_at (at
    32) (codes "g") no_arguments)) ∷ parameter (codes "$q") (Some (number_at (at 40) (pos 2000000))) ∷
    []) (name_at (at 43) (codes "a"))) no_items)) (call_at (at 48) (codes "f") no_arguments) start ≡
    gives undef (after 5 ([]))
unfolding expressions_on_literals
default_before_later_dollar = refl

-- function g()=$p; function f($p)=g(); x=let($p=3) f();
missing_dollar_is_undef : evaluated 2000 (entry (function_of (at 2) (codes "g") ([]) (name_at (at 15)
    (codes "$p"))) (entry (function_of (at 19) (codes "f") (parameter (codes "$p") None ∷ []) (call_at
    (at 34) (codes "g") no_arguments)) no_items)) (let_in (at 41) (argument (Some (codes "$p"))
    (number_at (at 48) (pos 3000000)) no_arguments) (call_at (at 51) (codes "f") no_arguments)) start ≡
    gives undef (after 5 ([]))
unfolding expressions_on_literals
missing_dollar_is_undef = refl

-- x=[$fn,$fa,$fs,$children,$t,$preview,$other];
dollar_of_the_start : evaluated 2000 no_items (vector_at (at 3) (element (item (name_at (at 4) (codes
    "$fn"))) (element (item (name_at (at 8) (codes "$fa"))) (element (item (name_at (at 12) (codes
    "$fs"))) (element (item (name_at (at 16) (codes "$children"))) (element (item (name_at (at 26)
    (codes "$t"))) (element (item (name_at (at 29) (codes "$preview"))) (element (item (name_at (at 38)
    (codes "$other"))) no_elements)))))))) start ≡ gives (vector (as_elements ((number (pos 0)) ∷
    (number (pos 12000000)) ∷ (number (pos 2000000)) ∷ (number (pos 0)) ∷ (number (pos 0)) ∷ (boolean
    false) ∷ undef ∷ []))) (after 15 ([]))
unfolding expressions_on_literals
dollar_of_the_start = refl

-- function f(a=$children)=a; x=f();
children_of_the_caller : evaluated 2000 (entry (function_of (at 2) (codes "f") (parameter (codes "a")
    (Some (name_at (at 15) (codes "$children"))) ∷ []) (name_at (at 26) (codes "a"))) no_items) (call_at
    (at 31) (codes "f") no_arguments) start ≡ gives (number (pos 0)) (after 3 ([]))
unfolding expressions_on_literals
children_of_the_caller = refl
