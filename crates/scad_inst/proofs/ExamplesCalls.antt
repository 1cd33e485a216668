-- Worked examples of calls, children and names along them, each under its source. Expected values come from an
-- independent program.
use Rattle.std.proofs.Common.{◌≡◌, pos, true, false, [], ◌∷◌, ◌++◌, Some, None, refl}
use Rattle.std.specs.Prelude.{codes}
use Rattle.scad_fault.specs.declared.fault.FaultKind.TheVariants.{UnknownModule, AssertFailed}
use Rattle.scad_ast.specs.declared.operator.UnOp.TheVariants.{Minus}
use Rattle.scad_ast.specs.declared.operator.BinOp.TheVariants.{Gt, Sub, Mul}
use Rattle.scad_ast.specs.Tree.{no_arguments, argument, no_elements, element, item, no_items, entry, assignment, module_of, function_of, call_of, choice}
use Rattle.scad_ast.specs.Tree.{undef as undef_at, boolean as boolean_at, number as number_at, string as string_at, name as name_at, vector as vector_at, range as range_at, stepped as stepped_at, unary as unary_at, binary as binary_at, call as call_at}
use Rattle.scad_inst.proofs.OnLiterals.{statements_on_literals}
use Rattle.scad_inst.proofs.ExampleWords.{at, quote, parameter, point, Empty, Leaf, made, faulted, shown}

-- module a(){children();} module b(){a() children();} b() echo(1);
nested_children : shown (entry (module_of (at 1) (codes "a") [] (entry (call_of (at 12) false false
    (codes "children") no_arguments no_items) no_items)) (entry (module_of (at 25) (codes "b") [] (entry
    (call_of (at 36) false false (codes "a") no_arguments (entry (call_of (at 40) false false (codes
    "children") no_arguments no_items) no_items)) no_items)) (entry (call_of (at 53) false false (codes
    "b") no_arguments (entry (call_of (at 57) false false (codes "echo") (argument None (number_at (at
    62) (pos 1000000)) no_arguments) no_items) no_items)) no_items))) ≡ made 13 0 0 ((codes "ECHO: 1") ∷
    []) ((Empty 0) ∷ [])
unfolding statements_on_literals
nested_children = refl

-- module a(){echo($children); children();} module b(){a(){children(0); children(1);}} b(){echo(1); echo(2);}
children_of_caller : shown (entry (module_of (at 1) (codes "a") [] (entry (call_of (at 12) false false
    (codes "echo") (argument None (name_at (at 17) (codes "$children")) no_arguments) no_items) (entry
    (call_of (at 29) false false (codes "children") no_arguments no_items) no_items))) (entry (module_of
    (at 42) (codes "b") [] (entry (call_of (at 53) false false (codes "a") no_arguments (entry (call_of
    (at 57) false false (codes "children") (argument None (number_at (at 66) (pos 0)) no_arguments)
    no_items) (entry (call_of (at 70) false false (codes "children") (argument None (number_at (at 79)
    (pos 1000000)) no_arguments) no_items) no_items))) no_items)) (entry (call_of (at 85) false false
    (codes "b") no_arguments (entry (call_of (at 89) false false (codes "echo") (argument None
    (number_at (at 94) (pos 1000000)) no_arguments) no_items) (entry (call_of (at 98) false false (codes
    "echo") (argument None (number_at (at 103) (pos 2000000)) no_arguments) no_items) no_items)))
    no_items))) ≡ made 34 0 0 ((codes "ECHO: 2") ∷ (codes "ECHO: 1") ∷ (codes "ECHO: 2") ∷ []) ((Empty
    0) ∷ [])
unfolding statements_on_literals
children_of_caller = refl

-- module m(){children(0); children(0);} m(){a=$children; echo(a);}
children_scope_anew : shown (entry (module_of (at 1) (codes "m") [] (entry (call_of (at 12) false false
    (codes "children") (argument None (number_at (at 21) (pos 0)) no_arguments) no_items) (entry
    (call_of (at 25) false false (codes "children") (argument None (number_at (at 34) (pos 0))
    no_arguments) no_items) no_items))) (entry (call_of (at 39) false false (codes "m") no_arguments
    (entry (assignment (at 43) (codes "a") (name_at (at 45) (codes "$children"))) (entry (call_of (at
    56) false false (codes "echo") (argument None (name_at (at 61) (codes "a")) no_arguments) no_items)
    no_items))) no_items)) ≡ made 27 0 0 ((codes "ECHO: 1") ∷ (codes "ECHO: 1") ∷ []) ((Empty 0) ∷ [])
unfolding statements_on_literals
children_scope_anew = refl

-- module m(){children($x=3);} m() echo($x);
children_with_dollar : shown (entry (module_of (at 1) (codes "m") [] (entry (call_of (at 12) false false
    (codes "children") (argument (Some (codes "$x")) (number_at (at 24) (pos 3000000)) no_arguments)
    no_items) no_items)) (entry (call_of (at 29) false false (codes "m") no_arguments (entry (call_of
    (at 33) false false (codes "echo") (argument None (name_at (at 38) (codes "$x")) no_arguments)
    no_items) no_items)) no_items)) ≡ made 12 0 0 ((codes "ECHO: 3") ∷ []) ((Empty 0) ∷ [])
unfolding statements_on_literals
children_with_dollar = refl

-- translate([0,0,0],$x=4) echo($x);
dollar_of_builtin : shown (entry (call_of (at 1) false false (codes "translate") (argument None
    (vector_at (at 11) (element (item (number_at (at 12) (pos 0))) (element (item (number_at (at 14)
    (pos 0))) (element (item (number_at (at 16) (pos 0))) no_elements)))) (argument (Some (codes "$x"))
    (number_at (at 22) (pos 4000000)) no_arguments)) (entry (call_of (at 25) false false (codes "echo")
    (argument None (name_at (at 30) (codes "$x")) no_arguments) no_items) no_items)) no_items) ≡ made 18
    0 0 ((codes "ECHO: 4") ∷ []) ((Empty 0) ∷ [])
unfolding statements_on_literals
dollar_of_builtin = refl

-- echo(1,$x=4) echo($x);
dollar_of_echo : shown (entry (call_of (at 1) false false (codes "echo") (argument None (number_at (at
    6) (pos 1000000)) (argument (Some (codes "$x")) (number_at (at 11) (pos 4000000)) no_arguments))
    (entry (call_of (at 14) false false (codes "echo") (argument None (name_at (at 19) (codes "$x"))
    no_arguments) no_items) no_items)) no_items) ≡ made 27 0 0 ((codes "ECHO: 1, $x = 4") ∷ (codes
    "ECHO: 4") ∷ []) ((Empty 0) ∷ [])
unfolding statements_on_literals
dollar_of_echo = refl

-- $x=1; module m(){echo($x);} m(); m($x=2);
dollar_assignment_in_scope : shown (entry (assignment (at 1) (codes "$x") (number_at (at 4) (pos
    1000000))) (entry (module_of (at 7) (codes "m") [] (entry (call_of (at 18) false false (codes
    "echo") (argument None (name_at (at 23) (codes "$x")) no_arguments) no_items) no_items)) (entry
    (call_of (at 29) false false (codes "m") no_arguments no_items) (entry (call_of (at 34) false false
    (codes "m") (argument (Some (codes "$x")) (number_at (at 39) (pos 2000000)) no_arguments) no_items)
    no_items)))) ≡ made 23 0 0 ((codes "ECHO: 1") ∷ (codes "ECHO: 2") ∷ []) ((Empty 0) ∷ [])
unfolding statements_on_literals
dollar_assignment_in_scope = refl

-- module m($x=7){echo($x);} m(); echo($x);
dollar_default : shown (entry (module_of (at 1) (codes "m") (parameter (codes "$x") (Some (number_at (at
    13) (pos 7000000))) ∷ []) (entry (call_of (at 16) false false (codes "echo") (argument None (name_at
    (at 21) (codes "$x")) no_arguments) no_items) no_items)) (entry (call_of (at 27) false false (codes
    "m") no_arguments no_items) (entry (call_of (at 32) false false (codes "echo") (argument None
    (name_at (at 37) (codes "$x")) no_arguments) no_items) no_items))) ≡ made 24 0 0 ((codes "ECHO: 7")
    ∷ (codes "ECHO: undef") ∷ []) ((Empty 0) ∷ [])
unfolding statements_on_literals
dollar_default = refl

-- for($x=[1,2]) echo($x);
dollar_in_for : shown (entry (call_of (at 1) false false (codes "for") (argument (Some (codes "$x"))
    (vector_at (at 8) (element (item (number_at (at 9) (pos 1000000))) (element (item (number_at (at 11)
    (pos 2000000))) no_elements))) no_arguments) (entry (call_of (at 15) false false (codes "echo")
    (argument None (name_at (at 20) (codes "$x")) no_arguments) no_items) no_items)) no_items) ≡ made 26
    0 0 ((codes "ECHO: 1") ∷ (codes "ECHO: 2") ∷ []) ((Empty 0) ∷ [])
unfolding statements_on_literals
dollar_in_for = refl

-- let($x=3,y=$x) echo(y);
dollar_in_let : shown (entry (call_of (at 1) false false (codes "let") (argument (Some (codes "$x"))
    (number_at (at 8) (pos 3000000)) (argument (Some (codes "y")) (name_at (at 12) (codes "$x"))
    no_arguments)) (entry (call_of (at 16) false false (codes "echo") (argument None (name_at (at 21)
    (codes "y")) no_arguments) no_items) no_items)) no_items) ≡ made 12 0 0 ((codes "ECHO: 3") ∷ [])
    ((Empty 0) ∷ [])
unfolding statements_on_literals
dollar_in_let = refl

-- module intersection_for(i){echo(i);} intersection_for(5);
own_intersection_for : shown (entry (module_of (at 1) (codes "intersection_for") (parameter (codes "i")
    None ∷ []) (entry (call_of (at 28) false false (codes "echo") (argument None (name_at (at 33) (codes
    "i")) no_arguments) no_items) no_items)) (entry (call_of (at 38) false false (codes
    "intersection_for") (argument None (number_at (at 55) (pos 5000000)) no_arguments) no_items)
    no_items)) ≡ made 11 0 0 ((codes "ECHO: 5") ∷ []) ((Empty 0) ∷ [])
unfolding statements_on_literals
own_intersection_for = refl

-- module m(a){echo(a);} m(1,2,b=3);
surplus_arguments : shown (entry (module_of (at 1) (codes "m") (parameter (codes "a") None ∷ []) (entry
    (call_of (at 13) false false (codes "echo") (argument None (name_at (at 18) (codes "a"))
    no_arguments) no_items) no_items)) (entry (call_of (at 23) false false (codes "m") (argument None
    (number_at (at 25) (pos 1000000)) (argument None (number_at (at 27) (pos 2000000)) (argument (Some
    (codes "b")) (number_at (at 31) (pos 3000000)) no_arguments))) no_items) no_items)) ≡ made 13 0 0
    ((codes "ECHO: 1") ∷ []) ((Empty 0) ∷ [])
unfolding statements_on_literals
surplus_arguments = refl

-- echo("x",a=1){echo(2); cube(1);}
echo_then_children : shown (entry (call_of (at 1) false false (codes "echo") (argument None (string_at
    (at 6) (codes "x")) (argument (Some (codes "a")) (number_at (at 12) (pos 1000000)) no_arguments))
    (entry (call_of (at 15) false false (codes "echo") (argument None (number_at (at 20) (pos 2000000))
    no_arguments) no_items) (entry (call_of (at 24) false false (codes "cube") (argument None (number_at
    (at 29) (pos 1000000)) no_arguments) no_items) no_items))) no_items) ≡ made 30 1 12 ((codes "ECHO: "
    ++ (quote ∷ []) ++ codes "x" ++ (quote ∷ []) ++ codes ", a = 1") ∷ (codes "ECHO: 2") ∷ []) ((Leaf 0
    12 (point (pos 0) (pos 0) (pos 0)) (point (pos 1000) (pos 1000) (pos 1000))) ∷ [])
unfolding statements_on_literals
echo_then_children = refl

-- assert(1,"text") echo(2);
assert_then_children : shown (entry (call_of (at 1) false false (codes "assert") (argument None
    (number_at (at 8) (pos 1000000)) (argument None (string_at (at 10) (codes "text")) no_arguments))
    (entry (call_of (at 18) false false (codes "echo") (argument None (number_at (at 23) (pos 2000000))
    no_arguments) no_items) no_items)) no_items) ≡ made 12 0 0 ((codes "ECHO: 2") ∷ []) ((Empty 0) ∷ [])
unfolding statements_on_literals
assert_then_children = refl

-- assert(text=1,test=0);
assert_by_name : shown (entry (call_of (at 1) false false (codes "assert") (argument (Some (codes
    "text")) (number_at (at 13) (pos 1000000)) (argument (Some (codes "test")) (number_at (at 20) (pos
    0)) no_arguments)) no_items) no_items) ≡ faulted AssertFailed (at 1) [] []
unfolding statements_on_literals
assert_by_name = refl

-- for(i=[1:2]){j=i*2; echo(j);}
loop_sees_outer_names : shown (entry (call_of (at 1) false false (codes "for") (argument (Some (codes
    "i")) (range_at (at 7) (number_at (at 8) (pos 1000000)) (number_at (at 10) (pos 2000000)))
    no_arguments) (entry (assignment (at 14) (codes "j") (binary_at (at 17) Mul (name_at (at 16) (codes
    "i")) (number_at (at 18) (pos 2000000)))) (entry (call_of (at 21) false false (codes "echo")
    (argument None (name_at (at 26) (codes "j")) no_arguments) no_items) no_items))) no_items) ≡ made 32
    0 0 ((codes "ECHO: 2") ∷ (codes "ECHO: 4") ∷ []) ((Empty 0) ∷ [])
unfolding statements_on_literals
loop_sees_outer_names = refl

-- for(c="ab") echo(c);
loop_over_string : shown (entry (call_of (at 1) false false (codes "for") (argument (Some (codes "c"))
    (string_at (at 7) (codes "ab")) no_arguments) (entry (call_of (at 13) false false (codes "echo")
    (argument None (name_at (at 18) (codes "c")) no_arguments) no_items) no_items)) no_items) ≡ made 26
    0 0 ((codes "ECHO: " ++ (quote ∷ []) ++ codes "a" ++ (quote ∷ [])) ∷ (codes "ECHO: " ++ (quote ∷ [])
    ++ codes "b" ++ (quote ∷ [])) ∷ []) ((Empty 0) ∷ [])
unfolding statements_on_literals
loop_over_string = refl

-- for(c=5) echo(c);
loop_over_number : shown (entry (call_of (at 1) false false (codes "for") (argument (Some (codes "c"))
    (number_at (at 7) (pos 5000000)) no_arguments) (entry (call_of (at 10) false false (codes "echo")
    (argument None (name_at (at 15) (codes "c")) no_arguments) no_items) no_items)) no_items) ≡ made 12
    0 0 ((codes "ECHO: 5") ∷ []) ((Empty 0) ∷ [])
unfolding statements_on_literals
loop_over_number = refl

-- for(c=undef) echo(c);
loop_over_nothing : shown (entry (call_of (at 1) false false (codes "for") (argument (Some (codes "c"))
    (undef_at (at 7)) no_arguments) (entry (call_of (at 14) false false (codes "echo") (argument None
    (name_at (at 19) (codes "c")) no_arguments) no_items) no_items)) no_items) ≡ made 2 0 0 [] ((Empty
    0) ∷ [])
unfolding statements_on_literals
loop_over_nothing = refl

-- for(i=[2:-1:0]) echo(i);
range_backwards : shown (entry (call_of (at 1) false false (codes "for") (argument (Some (codes "i"))
    (stepped_at (at 7) (number_at (at 8) (pos 2000000)) (unary_at (at 10) Minus (number_at (at 11) (pos
    1000000))) (number_at (at 13) (pos 0))) no_arguments) (entry (call_of (at 17) false false (codes
    "echo") (argument None (name_at (at 22) (codes "i")) no_arguments) no_items) no_items)) no_items) ≡
    made 36 0 0 ((codes "ECHO: 2") ∷ (codes "ECHO: 1") ∷ (codes "ECHO: 0") ∷ []) ((Empty 0) ∷ [])
unfolding statements_on_literals
range_backwards = refl

-- module a(){module b(){echo(1);} b();} a(); b();
module_in_module : shown (entry (module_of (at 1) (codes "a") [] (entry (module_of (at 12) (codes "b")
    [] (entry (call_of (at 23) false false (codes "echo") (argument None (number_at (at 28) (pos
    1000000)) no_arguments) no_items) no_items)) (entry (call_of (at 33) false false (codes "b")
    no_arguments no_items) no_items))) (entry (call_of (at 39) false false (codes "a") no_arguments
    no_items) (entry (call_of (at 44) false false (codes "b") no_arguments no_items) no_items))) ≡
    faulted UnknownModule (at 44) (codes "b") ((codes "ECHO: 1") ∷ [])
unfolding statements_on_literals
module_in_module = refl

-- module a(){function f(x)=x*2; echo(f(3));} a();
function_in_module : shown (entry (module_of (at 1) (codes "a") [] (entry (function_of (at 12) (codes
    "f") (parameter (codes "x") None ∷ []) (binary_at (at 27) Mul (name_at (at 26) (codes "x"))
    (number_at (at 28) (pos 2000000)))) (entry (call_of (at 31) false false (codes "echo") (argument
    None (call_at (at 36) (codes "f") (argument None (number_at (at 38) (pos 3000000)) no_arguments))
    no_arguments) no_items) no_items))) (entry (call_of (at 44) false false (codes "a") no_arguments
    no_items) no_items)) ≡ made 14 0 0 ((codes "ECHO: 6") ∷ []) ((Empty 0) ∷ [])
unfolding statements_on_literals
function_in_module = refl

-- module r(n){if(n>0){echo(n); r(n-1);}} r(2);
recursion : shown (entry (module_of (at 1) (codes "r") (parameter (codes "n") None ∷ []) (entry (choice
    (at 13) false false (binary_at (at 17) Gt (name_at (at 16) (codes "n")) (number_at (at 18) (pos 0)))
    (entry (call_of (at 21) false false (codes "echo") (argument None (name_at (at 26) (codes "n"))
    no_arguments) no_items) (entry (call_of (at 30) false false (codes "r") (argument None (binary_at
    (at 33) Sub (name_at (at 32) (codes "n")) (number_at (at 34) (pos 1000000))) no_arguments) no_items)
    no_items)) no_items) no_items)) (entry (call_of (at 40) false false (codes "r") (argument None
    (number_at (at 42) (pos 2000000)) no_arguments) no_items) no_items)) ≡ made 40 0 0 ((codes
    "ECHO: 2") ∷ (codes "ECHO: 1") ∷ []) ((Empty 0) ∷ [])
unfolding statements_on_literals
recursion = refl

-- module m(){difference(){children(0); children(1);}} m(){%cube(1); cube(2);}
children_marked : shown (entry (module_of (at 1) (codes "m") [] (entry (call_of (at 12) false false
    (codes "difference") no_arguments (entry (call_of (at 25) false false (codes "children") (argument
    None (number_at (at 34) (pos 0)) no_arguments) no_items) (entry (call_of (at 38) false false (codes
    "children") (argument None (number_at (at 47) (pos 1000000)) no_arguments) no_items) no_items)))
    no_items)) (entry (call_of (at 53) false false (codes "m") no_arguments (entry (call_of (at 58) true
    false (codes "cube") (argument None (number_at (at 63) (pos 1000000)) no_arguments) no_items) (entry
    (call_of (at 67) false false (codes "cube") (argument None (number_at (at 72) (pos 2000000))
    no_arguments) no_items) no_items))) no_items)) ≡ made 10 2 24 [] ((Empty 0) ∷ [])
unfolding statements_on_literals
children_marked = refl

-- module m(){children("a"); children(true); children(-1);} m() echo(1);
children_of_no_number : shown (entry (module_of (at 1) (codes "m") [] (entry (call_of (at 12) false
    false (codes "children") (argument None (string_at (at 21) (codes "a")) no_arguments) no_items)
    (entry (call_of (at 27) false false (codes "children") (argument None (boolean_at (at 36) true)
    no_arguments) no_items) (entry (call_of (at 43) false false (codes "children") (argument None
    (unary_at (at 52) Minus (number_at (at 53) (pos 1000000))) no_arguments) no_items) no_items))))
    (entry (call_of (at 58) false false (codes "m") no_arguments (entry (call_of (at 62) false false
    (codes "echo") (argument None (number_at (at 67) (pos 1000000)) no_arguments) no_items) no_items))
    no_items)) ≡ made 8 0 0 [] ((Empty 0) ∷ [])
unfolding statements_on_literals
children_of_no_number = refl

-- module m(){children(1.9); children(-0.9);} m(){echo(1); echo(2);}
children_cut : shown (entry (module_of (at 1) (codes "m") [] (entry (call_of (at 12) false false (codes
    "children") (argument None (number_at (at 21) (pos 1900000)) no_arguments) no_items) (entry (call_of
    (at 27) false false (codes "children") (argument None (unary_at (at 36) Minus (number_at (at 37)
    (pos 900000))) no_arguments) no_items) no_items))) (entry (call_of (at 44) false false (codes "m")
    no_arguments (entry (call_of (at 48) false false (codes "echo") (argument None (number_at (at 53)
    (pos 1000000)) no_arguments) no_items) (entry (call_of (at 57) false false (codes "echo") (argument
    None (number_at (at 62) (pos 2000000)) no_arguments) no_items) no_items))) no_items)) ≡ made 24 0 0
    ((codes "ECHO: 2") ∷ (codes "ECHO: 1") ∷ []) ((Empty 0) ∷ [])
unfolding statements_on_literals
children_cut = refl

-- if(0) echo(1); else if("") echo(2); else echo(3);
otherwise : shown (entry (choice (at 1) false false (number_at (at 4) (pos 0)) (entry (call_of (at 7)
    false false (codes "echo") (argument None (number_at (at 12) (pos 1000000)) no_arguments) no_items)
    no_items) (entry (choice (at 21) false false (string_at (at 24) []) (entry (call_of (at 28) false
    false (codes "echo") (argument None (number_at (at 33) (pos 2000000)) no_arguments) no_items)
    no_items) (entry (call_of (at 42) false false (codes "echo") (argument None (number_at (at 47) (pos
    3000000)) no_arguments) no_items) no_items)) no_items)) no_items) ≡ made 13 0 0 ((codes "ECHO: 3") ∷
    []) ((Empty 0) ∷ [])
unfolding statements_on_literals
otherwise = refl
