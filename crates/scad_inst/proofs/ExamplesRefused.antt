-- Worked examples of refused programs, each under its source. Expected values come from an independent program.
use Rattle.std.proofs.Common.{◌≡◌, pos, false, [], ◌∷◌, Some, None, refl}
use Rattle.std.specs.Prelude.{codes}
use Rattle.scad_fault.specs.declared.fault.FaultKind.TheVariants.{LeftOut, UnknownModule, BadArgument, ZeroDivisor, NumberRange, AssertFailed, NotClosed, CoordinateRange}
use Rattle.scad_fault.specs.declared.budget.BudgetKind.TheVariants.{Triangles}
use Rattle.scad_ast.specs.declared.operator.UnOp.TheVariants.{Minus}
use Rattle.scad_ast.specs.declared.operator.BinOp.TheVariants.{Div}
use Rattle.scad_ast.specs.Tree.{no_arguments, argument, no_elements, element, item, no_items, entry, call_of}
use Rattle.scad_ast.specs.Tree.{boolean as boolean_at, number as number_at, string as string_at, vector as vector_at, unary as unary_at, binary as binary_at}
use Rattle.scad_inst.proofs.OnLiterals.{statements_on_literals}
use Rattle.scad_inst.proofs.ExampleWords.{at, faulted, passed, shown}

-- foo();
unknown_module : shown (entry (call_of (at 1) false false (codes "foo") no_arguments no_items) no_items)
    ≡ faulted UnknownModule (at 1) (codes "foo") []
unfolding statements_on_literals
unknown_module = refl

-- foo(1/0);
arguments_before_name : shown (entry (call_of (at 1) false false (codes "foo") (argument None (binary_at
    (at 6) Div (number_at (at 5) (pos 1000000)) (number_at (at 7) (pos 0))) no_arguments) no_items)
    no_items) ≡ faulted ZeroDivisor (at 6) [] []
unfolding statements_on_literals
arguments_before_name = refl

-- minkowski(){cube(1); cube(1);}
left_out_module : shown (entry (call_of (at 1) false false (codes "minkowski") no_arguments (entry
    (call_of (at 13) false false (codes "cube") (argument None (number_at (at 18) (pos 1000000))
    no_arguments) no_items) (entry (call_of (at 22) false false (codes "cube") (argument None (number_at
    (at 27) (pos 1000000)) no_arguments) no_items) no_items))) no_items) ≡ faulted LeftOut (at 1) (codes
    "minkowski") []
unfolding statements_on_literals
left_out_module = refl

-- cube("a");
bad_size : shown (entry (call_of (at 1) false false (codes "cube") (argument None (string_at (at 6)
    (codes "a")) no_arguments) no_items) no_items) ≡ faulted BadArgument (at 1) (codes "cube") []
unfolding statements_on_literals
bad_size = refl

-- cube([1,-1,1]);
negative_size : shown (entry (call_of (at 1) false false (codes "cube") (argument None (vector_at (at 6)
    (element (item (number_at (at 7) (pos 1000000))) (element (item (unary_at (at 9) Minus (number_at
    (at 10) (pos 1000000)))) (element (item (number_at (at 12) (pos 1000000))) no_elements))))
    no_arguments) no_items) no_items) ≡ faulted BadArgument (at 1) (codes "cube") []
unfolding statements_on_literals
negative_size = refl

-- cube([1,2]);
two_sizes : shown (entry (call_of (at 1) false false (codes "cube") (argument None (vector_at (at 6)
    (element (item (number_at (at 7) (pos 1000000))) (element (item (number_at (at 9) (pos 2000000)))
    no_elements))) no_arguments) no_items) no_items) ≡ faulted BadArgument (at 1) (codes "cube") []
unfolding statements_on_literals
two_sizes = refl

-- cube(1000.001);
too_far : shown (entry (call_of (at 1) false false (codes "cube") (argument None (number_at (at 6) (pos
    1000001000)) no_arguments) no_items) no_items) ≡ faulted CoordinateRange (at 1) [] []
unfolding statements_on_literals
too_far = refl

-- polyhedron([[0,0,0],[1,0,0],[0,1,0],[0,0,1]],[[0,1,2],[0,3,1],[1,3,2]]);
not_closed : shown (entry (call_of (at 1) false false (codes "polyhedron") (argument None (vector_at (at
    12) (element (item (vector_at (at 13) (element (item (number_at (at 14) (pos 0))) (element (item
    (number_at (at 16) (pos 0))) (element (item (number_at (at 18) (pos 0))) no_elements))))) (element
    (item (vector_at (at 21) (element (item (number_at (at 22) (pos 1000000))) (element (item (number_at
    (at 24) (pos 0))) (element (item (number_at (at 26) (pos 0))) no_elements))))) (element (item
    (vector_at (at 29) (element (item (number_at (at 30) (pos 0))) (element (item (number_at (at 32)
    (pos 1000000))) (element (item (number_at (at 34) (pos 0))) no_elements))))) (element (item
    (vector_at (at 37) (element (item (number_at (at 38) (pos 0))) (element (item (number_at (at 40)
    (pos 0))) (element (item (number_at (at 42) (pos 1000000))) no_elements))))) no_elements)))))
    (argument None (vector_at (at 46) (element (item (vector_at (at 47) (element (item (number_at (at
    48) (pos 0))) (element (item (number_at (at 50) (pos 1000000))) (element (item (number_at (at 52)
    (pos 2000000))) no_elements))))) (element (item (vector_at (at 55) (element (item (number_at (at 56)
    (pos 0))) (element (item (number_at (at 58) (pos 3000000))) (element (item (number_at (at 60) (pos
    1000000))) no_elements))))) (element (item (vector_at (at 63) (element (item (number_at (at 64) (pos
    1000000))) (element (item (number_at (at 66) (pos 3000000))) (element (item (number_at (at 68) (pos
    2000000))) no_elements))))) no_elements)))) no_arguments)) no_items) no_items) ≡ faulted NotClosed
    (at 1) [] []
unfolding statements_on_literals
not_closed = refl

-- polyhedron([[0,0,0],[1,0,0],[0,1,0],[0,0,2000]],[[0,1,2],[0,3,1],[1,3,2]]);
far_before_not_closed : shown (entry (call_of (at 1) false false (codes "polyhedron") (argument None
    (vector_at (at 12) (element (item (vector_at (at 13) (element (item (number_at (at 14) (pos 0)))
    (element (item (number_at (at 16) (pos 0))) (element (item (number_at (at 18) (pos 0)))
    no_elements))))) (element (item (vector_at (at 21) (element (item (number_at (at 22) (pos 1000000)))
    (element (item (number_at (at 24) (pos 0))) (element (item (number_at (at 26) (pos 0)))
    no_elements))))) (element (item (vector_at (at 29) (element (item (number_at (at 30) (pos 0)))
    (element (item (number_at (at 32) (pos 1000000))) (element (item (number_at (at 34) (pos 0)))
    no_elements))))) (element (item (vector_at (at 37) (element (item (number_at (at 38) (pos 0)))
    (element (item (number_at (at 40) (pos 0))) (element (item (number_at (at 42) (pos 2000000000)))
    no_elements))))) no_elements))))) (argument None (vector_at (at 49) (element (item (vector_at (at
    50) (element (item (number_at (at 51) (pos 0))) (element (item (number_at (at 53) (pos 1000000)))
    (element (item (number_at (at 55) (pos 2000000))) no_elements))))) (element (item (vector_at (at 58)
    (element (item (number_at (at 59) (pos 0))) (element (item (number_at (at 61) (pos 3000000)))
    (element (item (number_at (at 63) (pos 1000000))) no_elements))))) (element (item (vector_at (at 66)
    (element (item (number_at (at 67) (pos 1000000))) (element (item (number_at (at 69) (pos 3000000)))
    (element (item (number_at (at 71) (pos 2000000))) no_elements))))) no_elements)))) no_arguments))
    no_items) no_items) ≡ faulted CoordinateRange (at 1) [] []
unfolding statements_on_literals
far_before_not_closed = refl

-- polyhedron([[0,0,0],[1,0,0],[0,1,0]],[[0,1,3]]);
no_index : shown (entry (call_of (at 1) false false (codes "polyhedron") (argument None (vector_at (at
    12) (element (item (vector_at (at 13) (element (item (number_at (at 14) (pos 0))) (element (item
    (number_at (at 16) (pos 0))) (element (item (number_at (at 18) (pos 0))) no_elements))))) (element
    (item (vector_at (at 21) (element (item (number_at (at 22) (pos 1000000))) (element (item (number_at
    (at 24) (pos 0))) (element (item (number_at (at 26) (pos 0))) no_elements))))) (element (item
    (vector_at (at 29) (element (item (number_at (at 30) (pos 0))) (element (item (number_at (at 32)
    (pos 1000000))) (element (item (number_at (at 34) (pos 0))) no_elements))))) no_elements))))
    (argument None (vector_at (at 38) (element (item (vector_at (at 39) (element (item (number_at (at
    40) (pos 0))) (element (item (number_at (at 42) (pos 1000000))) (element (item (number_at (at 44)
    (pos 3000000))) no_elements))))) no_elements)) no_arguments)) no_items) no_items) ≡ faulted
    BadArgument (at 1) (codes "polyhedron") []
unfolding statements_on_literals
no_index = refl

-- polyhedron([[0,0,0],[1,0,0],[0,1,0]],[[0,1,0.5]]);
broken_index : shown (entry (call_of (at 1) false false (codes "polyhedron") (argument None (vector_at
    (at 12) (element (item (vector_at (at 13) (element (item (number_at (at 14) (pos 0))) (element (item
    (number_at (at 16) (pos 0))) (element (item (number_at (at 18) (pos 0))) no_elements))))) (element
    (item (vector_at (at 21) (element (item (number_at (at 22) (pos 1000000))) (element (item (number_at
    (at 24) (pos 0))) (element (item (number_at (at 26) (pos 0))) no_elements))))) (element (item
    (vector_at (at 29) (element (item (number_at (at 30) (pos 0))) (element (item (number_at (at 32)
    (pos 1000000))) (element (item (number_at (at 34) (pos 0))) no_elements))))) no_elements))))
    (argument None (vector_at (at 38) (element (item (vector_at (at 39) (element (item (number_at (at
    40) (pos 0))) (element (item (number_at (at 42) (pos 1000000))) (element (item (number_at (at 44)
    (pos 500000))) no_elements))))) no_elements)) no_arguments)) no_items) no_items) ≡ faulted
    BadArgument (at 1) (codes "polyhedron") []
unfolding statements_on_literals
broken_index = refl

-- translate() cube(1);
no_offset : shown (entry (call_of (at 1) false false (codes "translate") no_arguments (entry (call_of
    (at 13) false false (codes "cube") (argument None (number_at (at 18) (pos 1000000)) no_arguments)
    no_items) no_items)) no_items) ≡ faulted BadArgument (at 1) (codes "translate") []
unfolding statements_on_literals
no_offset = refl

-- translate([1,2,3,4]) cube(1);
four_offsets : shown (entry (call_of (at 1) false false (codes "translate") (argument None (vector_at
    (at 11) (element (item (number_at (at 12) (pos 1000000))) (element (item (number_at (at 14) (pos
    2000000))) (element (item (number_at (at 16) (pos 3000000))) (element (item (number_at (at 18) (pos
    4000000))) no_elements))))) no_arguments) (entry (call_of (at 22) false false (codes "cube")
    (argument None (number_at (at 27) (pos 1000000)) no_arguments) no_items) no_items)) no_items) ≡
    faulted BadArgument (at 1) (codes "translate") []
unfolding statements_on_literals
four_offsets = refl

-- rotate(1,[0,0,0]);
no_axis : shown (entry (call_of (at 1) false false (codes "rotate") (argument None (number_at (at 8)
    (pos 1000000)) (argument None (vector_at (at 10) (element (item (number_at (at 11) (pos 0)))
    (element (item (number_at (at 13) (pos 0))) (element (item (number_at (at 15) (pos 0)))
    no_elements)))) no_arguments)) no_items) no_items) ≡ faulted BadArgument (at 1) (codes "rotate") []
unfolding statements_on_literals
no_axis = refl

-- rotate(1,[1,1,0]);
two_axes : shown (entry (call_of (at 1) false false (codes "rotate") (argument None (number_at (at 8)
    (pos 1000000)) (argument None (vector_at (at 10) (element (item (number_at (at 11) (pos 1000000)))
    (element (item (number_at (at 13) (pos 1000000))) (element (item (number_at (at 15) (pos 0)))
    no_elements)))) no_arguments)) no_items) no_items) ≡ faulted LeftOut (at 1) (codes "rotate") []
unfolding statements_on_literals
two_axes = refl

-- rotate(1,[1,1]);
axis_of_two : shown (entry (call_of (at 1) false false (codes "rotate") (argument None (number_at (at 8)
    (pos 1000000)) (argument None (vector_at (at 10) (element (item (number_at (at 11) (pos 1000000)))
    (element (item (number_at (at 13) (pos 1000000))) no_elements))) no_arguments)) no_items) no_items)
    ≡ faulted BadArgument (at 1) (codes "rotate") []
unfolding statements_on_literals
axis_of_two = refl

-- scale(1000000) scale(10000) cube(1);
range_of_product : shown (entry (call_of (at 1) false false (codes "scale") (argument None (number_at
    (at 7) (pos 1000000000000)) no_arguments) (entry (call_of (at 16) false false (codes "scale")
    (argument None (number_at (at 22) (pos 10000000000)) no_arguments) (entry (call_of (at 29) false
    false (codes "cube") (argument None (number_at (at 34) (pos 1000000)) no_arguments) no_items)
    no_items)) no_items)) no_items) ≡ faulted NumberRange (at 16) [] []
unfolding statements_on_literals
range_of_product = refl

-- cylinder(1,1,$fn=50002);
too_many_fragments : shown (entry (call_of (at 1) false false (codes "cylinder") (argument None
    (number_at (at 10) (pos 1000000)) (argument None (number_at (at 12) (pos 1000000)) (argument (Some
    (codes "$fn")) (number_at (at 18) (pos 50002000000)) no_arguments))) no_items) no_items) ≡ passed
    Triangles (at 1) []
unfolding statements_on_literals
too_many_fragments = refl

-- sphere(1,$fn="a");
fineness_no_number : shown (entry (call_of (at 1) false false (codes "sphere") (argument None (number_at
    (at 8) (pos 1000000)) (argument (Some (codes "$fn")) (string_at (at 14) (codes "a")) no_arguments))
    no_items) no_items) ≡ faulted BadArgument (at 1) (codes "sphere") []
unfolding statements_on_literals
fineness_no_number = refl

-- assert(false);
failed_assert : shown (entry (call_of (at 1) false false (codes "assert") (argument None (boolean_at (at
    8) false) no_arguments) no_items) no_items) ≡ faulted AssertFailed (at 1) [] []
unfolding statements_on_literals
failed_assert = refl

-- echo(1); assert();
assert_without_test : shown (entry (call_of (at 1) false false (codes "echo") (argument None (number_at
    (at 6) (pos 1000000)) no_arguments) no_items) (entry (call_of (at 10) false false (codes "assert")
    no_arguments no_items) no_items)) ≡ faulted BadArgument (at 10) (codes "assert") ((codes "ECHO: 1")
    ∷ [])
unfolding statements_on_literals
assert_without_test = refl

-- for(1) cube(1);
unnamed_for : shown (entry (call_of (at 1) false false (codes "for") (argument None (number_at (at 5)
    (pos 1000000)) no_arguments) (entry (call_of (at 8) false false (codes "cube") (argument None
    (number_at (at 13) (pos 1000000)) no_arguments) no_items) no_items)) no_items) ≡ faulted BadArgument
    (at 1) (codes "for") []
unfolding statements_on_literals
unnamed_for = refl

-- for() cube(1);
for_without_arguments : shown (entry (call_of (at 1) false false (codes "for") no_arguments (entry
    (call_of (at 7) false false (codes "cube") (argument None (number_at (at 12) (pos 1000000))
    no_arguments) no_items) no_items)) no_items) ≡ faulted BadArgument (at 1) (codes "for") []
unfolding statements_on_literals
for_without_arguments = refl

-- let(1/0) cube(1);
unnamed_let : shown (entry (call_of (at 1) false false (codes "let") (argument None (binary_at (at 6)
    Div (number_at (at 5) (pos 1000000)) (number_at (at 7) (pos 0))) no_arguments) (entry (call_of (at
    10) false false (codes "cube") (argument None (number_at (at 15) (pos 1000000)) no_arguments)
    no_items) no_items)) no_items) ≡ faulted BadArgument (at 1) (codes "let") []
unfolding statements_on_literals
unnamed_let = refl

-- translate("a") echo(1);
fault_before_children : shown (entry (call_of (at 1) false false (codes "translate") (argument None
    (string_at (at 11) (codes "a")) no_arguments) (entry (call_of (at 16) false false (codes "echo")
    (argument None (number_at (at 21) (pos 1000000)) no_arguments) no_items) no_items)) no_items) ≡
    faulted BadArgument (at 1) (codes "translate") []
unfolding statements_on_literals
fault_before_children = refl
