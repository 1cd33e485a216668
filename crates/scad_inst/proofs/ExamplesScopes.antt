-- Worked examples of scopes and modules of a program, each under its source. Expected values come from an independent
-- program.
use Rattle.std.proofs.Common.{◌≡◌, pos, true, false, [], ◌∷◌, ◌++◌, Some, None, refl}
use Rattle.std.specs.Prelude.{codes}
use Rattle.scad_fault.specs.declared.fault.FaultKind.TheVariants.{ZeroDivisor}
use Rattle.scad_ast.specs.declared.operator.BinOp.TheVariants.{Gt, Add, Div}
use Rattle.scad_ast.specs.Tree.{no_arguments, argument, no_items, entry, assignment, module_of, function_of, call_of, choice}
use Rattle.scad_ast.specs.Tree.{boolean as boolean_at, number as number_at, string as string_at, name as name_at, binary as binary_at, call as call_at}
use Rattle.scad_inst.proofs.OnLiterals.{statements_on_literals}
use Rattle.scad_inst.proofs.ExampleWords.{at, quote, parameter, Empty, made, faulted, shown}

--
empty_program : shown no_items ≡ made 0 0 0 [] ((Empty 0) ∷ [])
unfolding statements_on_literals
empty_program = refl

-- b=a; a=1; echo(b);
unset_name : shown (entry (assignment (at 1) (codes "b") (name_at (at 3) (codes "a"))) (entry
    (assignment (at 6) (codes "a") (number_at (at 8) (pos 1000000))) (entry (call_of (at 11) false false
    (codes "echo") (argument None (name_at (at 16) (codes "b")) no_arguments) no_items) no_items))) ≡
    made 17 0 0 ((codes "ECHO: undef") ∷ []) ((Empty 0) ∷ [])
unfolding statements_on_literals
unset_name = refl

-- a=3; a=2; echo(a);
last_assignment : shown (entry (assignment (at 1) (codes "a") (number_at (at 3) (pos 3000000))) (entry
    (assignment (at 6) (codes "a") (number_at (at 8) (pos 2000000))) (entry (call_of (at 11) false false
    (codes "echo") (argument None (name_at (at 16) (codes "a")) no_arguments) no_items) no_items))) ≡
    made 11 0 0 ((codes "ECHO: 2") ∷ []) ((Empty 0) ∷ [])
unfolding statements_on_literals
last_assignment = refl

-- module m(){$x=5; children();} m() echo($x);
dollars_of_calls : shown (entry (module_of (at 1) (codes "m") [] (entry (assignment (at 12) (codes "$x")
    (number_at (at 15) (pos 5000000))) (entry (call_of (at 18) false false (codes "children")
    no_arguments no_items) no_items))) (entry (call_of (at 31) false false (codes "m") no_arguments
    (entry (call_of (at 35) false false (codes "echo") (argument None (name_at (at 40) (codes "$x"))
    no_arguments) no_items) no_items)) no_items)) ≡ made 13 0 0 ((codes "ECHO: 5") ∷ []) ((Empty 0) ∷
    [])
unfolding statements_on_literals
dollars_of_calls = refl

-- f=2; function f(x)=x+1; module f(){echo(f(f));} f();
name_spaces : shown (entry (assignment (at 1) (codes "f") (number_at (at 3) (pos 2000000))) (entry
    (function_of (at 6) (codes "f") (parameter (codes "x") None ∷ []) (binary_at (at 21) Add (name_at
    (at 20) (codes "x")) (number_at (at 22) (pos 1000000)))) (entry (module_of (at 25) (codes "f") []
    (entry (call_of (at 36) false false (codes "echo") (argument None (call_at (at 41) (codes "f")
    (argument None (name_at (at 43) (codes "f")) no_arguments)) no_arguments) no_items) no_items))
    (entry (call_of (at 49) false false (codes "f") no_arguments no_items) no_items)))) ≡ made 16 0 0
    ((codes "ECHO: 3") ∷ []) ((Empty 0) ∷ [])
unfolding statements_on_literals
name_spaces = refl

-- a=1; module m(){b=a; a=2; echo(a,b);} m();
inner_scope_sees_outer : shown (entry (assignment (at 1) (codes "a") (number_at (at 3) (pos 1000000)))
    (entry (module_of (at 6) (codes "m") [] (entry (assignment (at 17) (codes "b") (name_at (at 19)
    (codes "a"))) (entry (assignment (at 22) (codes "a") (number_at (at 24) (pos 2000000))) (entry
    (call_of (at 27) false false (codes "echo") (argument None (name_at (at 32) (codes "a")) (argument
    None (name_at (at 34) (codes "b")) no_arguments)) no_items) no_items)))) (entry (call_of (at 39)
    false false (codes "m") no_arguments no_items) no_items))) ≡ made 20 0 0 ((codes "ECHO: 2, 1") ∷ [])
    ((Empty 0) ∷ [])
unfolding statements_on_literals
inner_scope_sees_outer = refl

-- a=1; module m(){a=2; children();} m() echo(a);
children_of_their_place : shown (entry (assignment (at 1) (codes "a") (number_at (at 3) (pos 1000000)))
    (entry (module_of (at 6) (codes "m") [] (entry (assignment (at 17) (codes "a") (number_at (at 19)
    (pos 2000000))) (entry (call_of (at 22) false false (codes "children") no_arguments no_items)
    no_items))) (entry (call_of (at 35) false false (codes "m") no_arguments (entry (call_of (at 39)
    false false (codes "echo") (argument None (name_at (at 44) (codes "a")) no_arguments) no_items)
    no_items)) no_items))) ≡ made 15 0 0 ((codes "ECHO: 1") ∷ []) ((Empty 0) ∷ [])
unfolding statements_on_literals
children_of_their_place = refl

-- module m(){echo(1);} module m(){echo(2);} m();
last_module : shown (entry (module_of (at 1) (codes "m") [] (entry (call_of (at 12) false false (codes
    "echo") (argument None (number_at (at 17) (pos 1000000)) no_arguments) no_items) no_items)) (entry
    (module_of (at 22) (codes "m") [] (entry (call_of (at 33) false false (codes "echo") (argument None
    (number_at (at 38) (pos 2000000)) no_arguments) no_items) no_items)) (entry (call_of (at 43) false
    false (codes "m") no_arguments no_items) no_items))) ≡ made 10 0 0 ((codes "ECHO: 2") ∷ []) ((Empty
    0) ∷ [])
unfolding statements_on_literals
last_module = refl

-- module cube(){echo("own");} cube();
own_before_language : shown (entry (module_of (at 1) (codes "cube") [] (entry (call_of (at 15) false
    false (codes "echo") (argument None (string_at (at 20) (codes "own")) no_arguments) no_items)
    no_items)) (entry (call_of (at 29) false false (codes "cube") no_arguments no_items) no_items)) ≡
    made 14 0 0 ((codes "ECHO: " ++ (quote ∷ []) ++ codes "own" ++ (quote ∷ [])) ∷ []) ((Empty 0) ∷ [])
unfolding statements_on_literals
own_before_language = refl

-- a=3; module m(x=a){a=4; echo(x);} m();
default_of_module : shown (entry (assignment (at 1) (codes "a") (number_at (at 3) (pos 3000000))) (entry
    (module_of (at 6) (codes "m") (parameter (codes "x") (Some (name_at (at 17) (codes "a"))) ∷ [])
    (entry (assignment (at 20) (codes "a") (number_at (at 22) (pos 4000000))) (entry (call_of (at 25)
    false false (codes "echo") (argument None (name_at (at 30) (codes "x")) no_arguments) no_items)
    no_items))) (entry (call_of (at 35) false false (codes "m") no_arguments no_items) no_items))) ≡
    made 15 0 0 ((codes "ECHO: 3") ∷ []) ((Empty 0) ∷ [])
unfolding statements_on_literals
default_of_module = refl

-- module m(){echo($children);} m(){a=1; echo(1); ; %echo(2);}
children_count : shown (entry (module_of (at 1) (codes "m") [] (entry (call_of (at 12) false false
    (codes "echo") (argument None (name_at (at 17) (codes "$children")) no_arguments) no_items)
    no_items)) (entry (call_of (at 30) false false (codes "m") no_arguments (entry (assignment (at 34)
    (codes "a") (number_at (at 36) (pos 1000000))) (entry (call_of (at 39) false false (codes "echo")
    (argument None (number_at (at 44) (pos 1000000)) no_arguments) no_items) (entry (call_of (at 51)
    true false (codes "echo") (argument None (number_at (at 56) (pos 2000000)) no_arguments) no_items)
    no_items)))) no_items)) ≡ made 10 0 0 ((codes "ECHO: 2") ∷ []) ((Empty 0) ∷ [])
unfolding statements_on_literals
children_count = refl

-- if(1>2){echo(1);} else {a=5; echo(a);}
if_scopes : shown (entry (choice (at 1) false false (binary_at (at 5) Gt (number_at (at 4) (pos
    1000000)) (number_at (at 6) (pos 2000000))) (entry (call_of (at 9) false false (codes "echo")
    (argument None (number_at (at 14) (pos 1000000)) no_arguments) no_items) no_items) (entry
    (assignment (at 25) (codes "a") (number_at (at 27) (pos 5000000))) (entry (call_of (at 30) false
    false (codes "echo") (argument None (name_at (at 35) (codes "a")) no_arguments) no_items)
    no_items))) no_items) ≡ made 15 0 0 ((codes "ECHO: 5") ∷ []) ((Empty 0) ∷ [])
unfolding statements_on_literals
if_scopes = refl

-- let(a=1,b=a+1) echo(b);
let_statement : shown (entry (call_of (at 1) false false (codes "let") (argument (Some (codes "a"))
    (number_at (at 7) (pos 1000000)) (argument (Some (codes "b")) (binary_at (at 12) Add (name_at (at
    11) (codes "a")) (number_at (at 13) (pos 1000000))) no_arguments)) (entry (call_of (at 16) false
    false (codes "echo") (argument None (name_at (at 21) (codes "b")) no_arguments) no_items) no_items))
    no_items) ≡ made 14 0 0 ((codes "ECHO: 2") ∷ []) ((Empty 0) ∷ [])
unfolding statements_on_literals
let_statement = refl

-- echo(1+2); if(true) echo(2);
statement_steps : shown (entry (call_of (at 1) false false (codes "echo") (argument None (binary_at (at
    7) Add (number_at (at 6) (pos 1000000)) (number_at (at 8) (pos 2000000))) no_arguments) no_items)
    (entry (choice (at 12) false false (boolean_at (at 15) true) (entry (call_of (at 21) false false
    (codes "echo") (argument None (number_at (at 26) (pos 2000000)) no_arguments) no_items) no_items)
    no_items) no_items)) ≡ made 22 0 0 ((codes "ECHO: 3") ∷ (codes "ECHO: 2") ∷ []) ((Empty 0) ∷ [])
unfolding statements_on_literals
statement_steps = refl

-- echo(1); echo(1/0); echo(2);
fault_keeps_lines : shown (entry (call_of (at 1) false false (codes "echo") (argument None (number_at
    (at 6) (pos 1000000)) no_arguments) no_items) (entry (call_of (at 10) false false (codes "echo")
    (argument None (binary_at (at 16) Div (number_at (at 15) (pos 1000000)) (number_at (at 17) (pos 0)))
    no_arguments) no_items) (entry (call_of (at 21) false false (codes "echo") (argument None (number_at
    (at 26) (pos 2000000)) no_arguments) no_items) no_items))) ≡ faulted ZeroDivisor (at 16) [] ((codes
    "ECHO: 1") ∷ [])
unfolding statements_on_literals
fault_keeps_lines = refl
