-- Worked examples of the order of faults, each under its source. Expected values come from an independent program.
use Rattle.std.proofs.Common.{◌≡◌, pos, true, false, [], ◌∷◌, Some, None, refl}
use Rattle.std.specs.Prelude.{codes}
use Rattle.scad_fault.specs.declared.fault.FaultKind.TheVariants.{LeftOut, UnknownModule, UnknownFunction, BadArgument, ZeroDivisor, AssertFailed, ZeroStep}
use Rattle.scad_ast.specs.declared.operator.UnOp.TheVariants.{Minus}
use Rattle.scad_ast.specs.declared.operator.BinOp.TheVariants.{Div}
use Rattle.scad_ast.specs.Tree.{no_arguments, argument, no_elements, element, item, no_items, entry, assignment, module_of, call_of}
use Rattle.scad_ast.specs.Tree.{number as number_at, string as string_at, name as name_at, vector as vector_at, stepped as stepped_at, unary as unary_at, binary as binary_at, call as call_at}
use Rattle.scad_inst.proofs.OnLiterals.{statements_on_literals}
use Rattle.scad_inst.proofs.ExampleWords.{at, parameter, point, Empty, Leaf, made, faulted, shown}

-- cube(1); foo();
fault_of_second_statement : shown (entry (call_of (at 1) false false (codes "cube") (argument None
    (number_at (at 6) (pos 1000000)) no_arguments) no_items) (entry (call_of (at 10) false false (codes
    "foo") no_arguments no_items) no_items)) ≡ faulted UnknownModule (at 10) (codes "foo") []
unfolding statements_on_literals
fault_of_second_statement = refl

-- foo(g(1));
argument_before_unknown : shown (entry (call_of (at 1) false false (codes "foo") (argument None (call_at
    (at 5) (codes "g") (argument None (number_at (at 7) (pos 1000000)) no_arguments)) no_arguments)
    no_items) no_items) ≡ faulted UnknownFunction (at 5) (codes "g") []
unfolding statements_on_literals
argument_before_unknown = refl

-- text(1/0);
left_out_after_arguments : shown (entry (call_of (at 1) false false (codes "text") (argument None
    (binary_at (at 7) Div (number_at (at 6) (pos 1000000)) (number_at (at 8) (pos 0))) no_arguments)
    no_items) no_items) ≡ faulted ZeroDivisor (at 7) [] []
unfolding statements_on_literals
left_out_after_arguments = refl

-- cube([2000,1,"a"]);
bad_before_far : shown (entry (call_of (at 1) false false (codes "cube") (argument None (vector_at (at
    6) (element (item (number_at (at 7) (pos 2000000000))) (element (item (number_at (at 12) (pos
    1000000))) (element (item (string_at (at 14) (codes "a"))) no_elements)))) no_arguments) no_items)
    no_items) ≡ faulted BadArgument (at 1) (codes "cube") []
unfolding statements_on_literals
bad_before_far = refl

-- rotate(1,[1,1,1]) foo();
left_out_axis_before_children : shown (entry (call_of (at 1) false false (codes "rotate") (argument None
    (number_at (at 8) (pos 1000000)) (argument None (vector_at (at 10) (element (item (number_at (at 11)
    (pos 1000000))) (element (item (number_at (at 13) (pos 1000000))) (element (item (number_at (at 15)
    (pos 1000000))) no_elements)))) no_arguments)) (entry (call_of (at 19) false false (codes "foo")
    no_arguments no_items) no_items)) no_items) ≡ faulted LeftOut (at 1) (codes "rotate") []
unfolding statements_on_literals
left_out_axis_before_children = refl

-- assert(0) foo();
assert_before_children : shown (entry (call_of (at 1) false false (codes "assert") (argument None
    (number_at (at 8) (pos 0)) no_arguments) (entry (call_of (at 11) false false (codes "foo")
    no_arguments no_items) no_items)) no_items) ≡ faulted AssertFailed (at 1) [] []
unfolding statements_on_literals
assert_before_children = refl

-- echo(1) foo();
line_before_children : shown (entry (call_of (at 1) false false (codes "echo") (argument None (number_at
    (at 6) (pos 1000000)) no_arguments) (entry (call_of (at 9) false false (codes "foo") no_arguments
    no_items) no_items)) no_items) ≡ faulted UnknownModule (at 9) (codes "foo") ((codes "ECHO: 1") ∷ [])
unfolding statements_on_literals
line_before_children = refl

-- for(i=1/0,2) cube(1);
judged_before_arguments : shown (entry (call_of (at 1) false false (codes "for") (argument (Some (codes
    "i")) (binary_at (at 8) Div (number_at (at 7) (pos 1000000)) (number_at (at 9) (pos 0))) (argument
    None (number_at (at 11) (pos 2000000)) no_arguments)) (entry (call_of (at 14) false false (codes
    "cube") (argument None (number_at (at 19) (pos 1000000)) no_arguments) no_items) no_items))
    no_items) ≡ faulted BadArgument (at 1) (codes "for") []
unfolding statements_on_literals
judged_before_arguments = refl

-- let(a=1/0,2) cube(1);
named_let_judged_first : shown (entry (call_of (at 1) false false (codes "let") (argument (Some (codes
    "a")) (binary_at (at 8) Div (number_at (at 7) (pos 1000000)) (number_at (at 9) (pos 0))) (argument
    None (number_at (at 11) (pos 2000000)) no_arguments)) (entry (call_of (at 14) false false (codes
    "cube") (argument None (number_at (at 19) (pos 1000000)) no_arguments) no_items) no_items))
    no_items) ≡ faulted BadArgument (at 1) (codes "let") []
unfolding statements_on_literals
named_let_judged_first = refl

-- sphere(-1,$fn="a");
size_before_fineness : shown (entry (call_of (at 1) false false (codes "sphere") (argument None
    (unary_at (at 8) Minus (number_at (at 9) (pos 1000000))) (argument (Some (codes "$fn")) (string_at
    (at 15) (codes "a")) no_arguments)) no_items) no_items) ≡ faulted BadArgument (at 1) (codes
    "sphere") []
unfolding statements_on_literals
size_before_fineness = refl

-- cube(1) foo();
leaf_children_arent_run : shown (entry (call_of (at 1) false false (codes "cube") (argument None
    (number_at (at 6) (pos 1000000)) no_arguments) (entry (call_of (at 9) false false (codes "foo")
    no_arguments no_items) no_items)) no_items) ≡ made 2 1 12 [] ((Leaf 0 12 (point (pos 0) (pos 0) (pos
    0)) (point (pos 1000) (pos 1000) (pos 1000))) ∷ [])
unfolding statements_on_literals
leaf_children_arent_run = refl

-- %foo();
marked_fault : shown (entry (call_of (at 2) true false (codes "foo") no_arguments no_items) no_items) ≡
    faulted UnknownModule (at 2) (codes "foo") []
unfolding statements_on_literals
marked_fault = refl

-- module m(a=1/0){} m();
fault_in_default : shown (entry (module_of (at 1) (codes "m") (parameter (codes "a") (Some (binary_at
    (at 13) Div (number_at (at 12) (pos 1000000)) (number_at (at 14) (pos 0)))) ∷ []) no_items) (entry
    (call_of (at 19) false false (codes "m") no_arguments no_items) no_items)) ≡ faulted ZeroDivisor (at
    13) [] []
unfolding statements_on_literals
fault_in_default = refl

-- module m(a=1/0){echo(a);} m(2);
default_isnt_needed : shown (entry (module_of (at 1) (codes "m") (parameter (codes "a") (Some (binary_at
    (at 13) Div (number_at (at 12) (pos 1000000)) (number_at (at 14) (pos 0)))) ∷ []) (entry (call_of
    (at 17) false false (codes "echo") (argument None (name_at (at 22) (codes "a")) no_arguments)
    no_items) no_items)) (entry (call_of (at 27) false false (codes "m") (argument None (number_at (at
    29) (pos 2000000)) no_arguments) no_items) no_items)) ≡ made 11 0 0 ((codes "ECHO: 2") ∷ []) ((Empty
    0) ∷ [])
unfolding statements_on_literals
default_isnt_needed = refl

-- echo(1); a=1/0;
assignments_first : shown (entry (call_of (at 1) false false (codes "echo") (argument None (number_at
    (at 6) (pos 1000000)) no_arguments) no_items) (entry (assignment (at 10) (codes "a") (binary_at (at
    13) Div (number_at (at 12) (pos 1000000)) (number_at (at 14) (pos 0)))) no_items)) ≡ faulted
    ZeroDivisor (at 13) [] []
unfolding statements_on_literals
assignments_first = refl

-- b=1/0; a=g(); b=h();
assignments_in_order : shown (entry (assignment (at 1) (codes "b") (binary_at (at 4) Div (number_at (at
    3) (pos 1000000)) (number_at (at 5) (pos 0)))) (entry (assignment (at 8) (codes "a") (call_at (at
    10) (codes "g") no_arguments)) (entry (assignment (at 15) (codes "b") (call_at (at 17) (codes "h")
    no_arguments)) no_items))) ≡ faulted UnknownFunction (at 17) (codes "h") []
unfolding statements_on_literals
assignments_in_order = refl

-- foo() bar();
children_after_name : shown (entry (call_of (at 1) false false (codes "foo") no_arguments (entry
    (call_of (at 7) false false (codes "bar") no_arguments no_items) no_items)) no_items) ≡ faulted
    UnknownModule (at 1) (codes "foo") []
unfolding statements_on_literals
children_after_name = refl

-- for(i=[0:0:3]) cube(1);
zero_step : shown (entry (call_of (at 1) false false (codes "for") (argument (Some (codes "i"))
    (stepped_at (at 7) (number_at (at 8) (pos 0)) (number_at (at 10) (pos 0)) (number_at (at 12) (pos
    3000000))) no_arguments) (entry (call_of (at 16) false false (codes "cube") (argument None
    (number_at (at 21) (pos 1000000)) no_arguments) no_items) no_items)) no_items) ≡ faulted ZeroStep
    (at 7) [] []
unfolding statements_on_literals
zero_step = refl

-- multmatrix([[1,0,0,0],[0,1,0,0]]) cube(1);
three_matrix_rows : shown (entry (call_of (at 1) false false (codes "multmatrix") (argument None
    (vector_at (at 12) (element (item (vector_at (at 13) (element (item (number_at (at 14) (pos
    1000000))) (element (item (number_at (at 16) (pos 0))) (element (item (number_at (at 18) (pos 0)))
    (element (item (number_at (at 20) (pos 0))) no_elements)))))) (element (item (vector_at (at 23)
    (element (item (number_at (at 24) (pos 0))) (element (item (number_at (at 26) (pos 1000000)))
    (element (item (number_at (at 28) (pos 0))) (element (item (number_at (at 30) (pos 0)))
    no_elements)))))) no_elements))) no_arguments) (entry (call_of (at 35) false false (codes "cube")
    (argument None (number_at (at 40) (pos 1000000)) no_arguments) no_items) no_items)) no_items) ≡
    faulted BadArgument (at 1) (codes "multmatrix") []
unfolding statements_on_literals
three_matrix_rows = refl

-- multmatrix([[1,0,0],[0,1,0,0],[0,0,1,0]]) cube(1);
four_entries_in_a_row : shown (entry (call_of (at 1) false false (codes "multmatrix") (argument None
    (vector_at (at 12) (element (item (vector_at (at 13) (element (item (number_at (at 14) (pos
    1000000))) (element (item (number_at (at 16) (pos 0))) (element (item (number_at (at 18) (pos 0)))
    no_elements))))) (element (item (vector_at (at 21) (element (item (number_at (at 22) (pos 0)))
    (element (item (number_at (at 24) (pos 1000000))) (element (item (number_at (at 26) (pos 0)))
    (element (item (number_at (at 28) (pos 0))) no_elements)))))) (element (item (vector_at (at 31)
    (element (item (number_at (at 32) (pos 0))) (element (item (number_at (at 34) (pos 0))) (element
    (item (number_at (at 36) (pos 1000000))) (element (item (number_at (at 38) (pos 0)))
    no_elements)))))) no_elements)))) no_arguments) (entry (call_of (at 43) false false (codes "cube")
    (argument None (number_at (at 48) (pos 1000000)) no_arguments) no_items) no_items)) no_items) ≡
    faulted BadArgument (at 1) (codes "multmatrix") []
unfolding statements_on_literals
four_entries_in_a_row = refl

-- polyhedron([],[[0,1,2]]);
empty_points : shown (entry (call_of (at 1) false false (codes "polyhedron") (argument None (vector_at
    (at 12) no_elements) (argument None (vector_at (at 15) (element (item (vector_at (at 16) (element
    (item (number_at (at 17) (pos 0))) (element (item (number_at (at 19) (pos 1000000))) (element (item
    (number_at (at 21) (pos 2000000))) no_elements))))) no_elements)) no_arguments)) no_items) no_items)
    ≡ faulted BadArgument (at 1) (codes "polyhedron") []
unfolding statements_on_literals
empty_points = refl

-- polyhedron([[0,0,0]],[]);
empty_faces : shown (entry (call_of (at 1) false false (codes "polyhedron") (argument None (vector_at
    (at 12) (element (item (vector_at (at 13) (element (item (number_at (at 14) (pos 0))) (element (item
    (number_at (at 16) (pos 0))) (element (item (number_at (at 18) (pos 0))) no_elements)))))
    no_elements)) (argument None (vector_at (at 22) no_elements) no_arguments)) no_items) no_items) ≡
    faulted BadArgument (at 1) (codes "polyhedron") []
unfolding statements_on_literals
empty_faces = refl

-- polyhedron([[0,0,0],[1,0,0]],[[0,1]]);
two_corners : shown (entry (call_of (at 1) false false (codes "polyhedron") (argument None (vector_at
    (at 12) (element (item (vector_at (at 13) (element (item (number_at (at 14) (pos 0))) (element (item
    (number_at (at 16) (pos 0))) (element (item (number_at (at 18) (pos 0))) no_elements))))) (element
    (item (vector_at (at 21) (element (item (number_at (at 22) (pos 1000000))) (element (item (number_at
    (at 24) (pos 0))) (element (item (number_at (at 26) (pos 0))) no_elements))))) no_elements)))
    (argument None (vector_at (at 30) (element (item (vector_at (at 31) (element (item (number_at (at
    32) (pos 0))) (element (item (number_at (at 34) (pos 1000000))) no_elements)))) no_elements))
    no_arguments)) no_items) no_items) ≡ faulted BadArgument (at 1) (codes "polyhedron") []
unfolding statements_on_literals
two_corners = refl

-- cube(1,$fn="a");
fineness_of_named_cube : shown (entry (call_of (at 1) false false (codes "cube") (argument None
    (number_at (at 6) (pos 1000000)) (argument (Some (codes "$fn")) (string_at (at 12) (codes "a"))
    no_arguments)) no_items) no_items) ≡ made 3 1 12 [] ((Leaf 0 12 (point (pos 0) (pos 0) (pos 0))
    (point (pos 1000) (pos 1000) (pos 1000))) ∷ [])
unfolding statements_on_literals
fineness_of_named_cube = refl

-- rotate(v=[1,0,0]) cube(1);
rotate_without_angle : shown (entry (call_of (at 1) false false (codes "rotate") (argument (Some (codes
    "v")) (vector_at (at 10) (element (item (number_at (at 11) (pos 1000000))) (element (item (number_at
    (at 13) (pos 0))) (element (item (number_at (at 15) (pos 0))) no_elements)))) no_arguments) (entry
    (call_of (at 19) false false (codes "cube") (argument None (number_at (at 24) (pos 1000000))
    no_arguments) no_items) no_items)) no_items) ≡ faulted BadArgument (at 1) (codes "rotate") []
unfolding statements_on_literals
rotate_without_angle = refl

-- mirror() cube(1);
mirror_of_nothing : shown (entry (call_of (at 1) false false (codes "mirror") no_arguments (entry
    (call_of (at 10) false false (codes "cube") (argument None (number_at (at 15) (pos 1000000))
    no_arguments) no_items) no_items)) no_items) ≡ faulted BadArgument (at 1) (codes "mirror") []
unfolding statements_on_literals
mirror_of_nothing = refl

-- rotate([1,2,3],[1,1,1]);
left_out_axis : shown (entry (call_of (at 1) false false (codes "rotate") (argument None (vector_at (at
    8) (element (item (number_at (at 9) (pos 1000000))) (element (item (number_at (at 11) (pos
    2000000))) (element (item (number_at (at 13) (pos 3000000))) no_elements)))) (argument None
    (vector_at (at 16) (element (item (number_at (at 17) (pos 1000000))) (element (item (number_at (at
    19) (pos 1000000))) (element (item (number_at (at 21) (pos 1000000))) no_elements)))) no_arguments))
    no_items) no_items) ≡ made 15 0 0 [] ((Empty 0) ∷ [])
unfolding statements_on_literals
left_out_axis = refl
