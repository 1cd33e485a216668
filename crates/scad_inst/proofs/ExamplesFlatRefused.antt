-- Worked examples of flat shapes and extrusions that are refused, each under its source. Expected values come from an
-- independent program.
use Rattle.std.proofs.Common.{◌≡◌, pos, true, false, [], Some, None, refl}
use Rattle.std.specs.Prelude.{codes}
use Rattle.scad_fault.specs.declared.fault.FaultKind.TheVariants.{BadArgument, CoordinateRange, LeftOut, MixedDimensions, NumberRange}
use Rattle.scad_fault.specs.declared.budget.BudgetKind.TheVariants.{Triangles}
use Rattle.scad_ast.specs.declared.operator.UnOp.TheVariants.{Minus}
use Rattle.scad_ast.specs.Tree.{no_arguments, argument, no_elements, element, item, no_items, entry, call_of}
use Rattle.scad_ast.specs.Tree.{boolean as boolean_at, number as number_at, string as string_at, vector as vector_at, unary as unary_at}
use Rattle.scad_inst.proofs.OnLiterals.{statements_on_literals}
use Rattle.scad_inst.proofs.ExampleWords.{at, faulted, passed, shown}

-- square(1);
square_outside : shown (entry (call_of (at 1) false false (codes "square") (argument None (number_at (at 8)
    (pos 1000000)) no_arguments) no_items) no_items) ≡ faulted MixedDimensions (at 1) [] []
unfolding statements_on_literals
square_outside = refl

-- linear_extrude(1) cube(1);
cube_inside : shown (entry (call_of (at 1) false false (codes "linear_extrude") (argument None (number_at (at
    16) (pos 1000000)) no_arguments) (entry (call_of (at 19) false false (codes "cube") (argument None (number_at
    (at 24) (pos 1000000)) no_arguments) no_items) no_items)) no_items) ≡ faulted MixedDimensions (at 19) [] []
unfolding statements_on_literals
cube_inside = refl

-- rotate_extrude() linear_extrude(v=1) square(1);
extrusion_inside : shown (entry (call_of (at 1) false false (codes "rotate_extrude") no_arguments (entry
    (call_of (at 18) false false (codes "linear_extrude") (argument (Some (codes "v")) (number_at (at 35) (pos
    1000000)) no_arguments) (entry (call_of (at 38) false false (codes "square") (argument None (number_at (at 45)
    (pos 1000000)) no_arguments) no_items) no_items)) no_items)) no_items) ≡ faulted MixedDimensions (at 18) [] []
unfolding statements_on_literals
extrusion_inside = refl

-- square("a");
mixed_before_bad_argument : shown (entry (call_of (at 1) false false (codes "square") (argument None
    (string_at (at 8) (codes "a")) no_arguments) no_items) no_items) ≡ faulted MixedDimensions (at 1) [] []
unfolding statements_on_literals
mixed_before_bad_argument = refl

-- linear_extrude(height=-1,twist=1) square(1);
twisted_before_bad_height : shown (entry (call_of (at 1) false false (codes "linear_extrude") (argument (Some
    (codes "height")) (unary_at (at 23) Minus (number_at (at 24) (pos 1000000))) (argument (Some (codes "twist"))
    (number_at (at 32) (pos 1000000)) no_arguments)) (entry (call_of (at 35) false false (codes "square")
    (argument None (number_at (at 42) (pos 1000000)) no_arguments) no_items) no_items)) no_items) ≡ faulted
    LeftOut (at 1) (codes "linear_extrude") []
unfolding statements_on_literals
twisted_before_bad_height = refl

-- rotate_extrude(angle=1,$fn="x");
angle_before_bad_fragments : shown (entry (call_of (at 1) false false (codes "rotate_extrude") (argument (Some
    (codes "angle")) (number_at (at 22) (pos 1000000)) (argument (Some (codes "$fn")) (string_at (at 28) (codes
    "x")) no_arguments)) no_items) no_items) ≡ faulted LeftOut (at 1) (codes "rotate_extrude") []
unfolding statements_on_literals
angle_before_bad_fragments = refl

-- rotate_extrude($fn="x") square("a");
turns_before_children : shown (entry (call_of (at 1) false false (codes "rotate_extrude") (argument (Some
    (codes "$fn")) (string_at (at 20) (codes "x")) no_arguments) (entry (call_of (at 25) false false (codes
    "square") (argument None (string_at (at 32) (codes "a")) no_arguments) no_items) no_items)) no_items) ≡
    faulted BadArgument (at 1) (codes "rotate_extrude") []
unfolding statements_on_literals
turns_before_children = refl

-- linear_extrude(1) polygon([[0,0],[1,0],[0,1]],[0,1,3]);
path_past_the_points : shown (entry (call_of (at 1) false false (codes "linear_extrude") (argument None
    (number_at (at 16) (pos 1000000)) no_arguments) (entry (call_of (at 19) false false (codes "polygon")
    (argument None (vector_at (at 27) (element (item (vector_at (at 28) (element (item (number_at (at 29) (pos
    0))) (element (item (number_at (at 31) (pos 0))) no_elements)))) (element (item (vector_at (at 34) (element
    (item (number_at (at 35) (pos 1000000))) (element (item (number_at (at 37) (pos 0))) no_elements)))) (element
    (item (vector_at (at 40) (element (item (number_at (at 41) (pos 0))) (element (item (number_at (at 43) (pos
    1000000))) no_elements)))) no_elements)))) (argument None (vector_at (at 47) (element (item (number_at (at 48)
    (pos 0))) (element (item (number_at (at 50) (pos 1000000))) (element (item (number_at (at 52) (pos 3000000)))
    no_elements)))) no_arguments)) no_items) no_items)) no_items) ≡ faulted BadArgument (at 19) (codes "polygon")
    []
unfolding statements_on_literals
path_past_the_points = refl

-- rotate_extrude() translate([-0.5,0]) square(1);
across_the_axis : shown (entry (call_of (at 1) false false (codes "rotate_extrude") no_arguments (entry
    (call_of (at 18) false false (codes "translate") (argument None (vector_at (at 28) (element (item (unary_at
    (at 29) Minus (number_at (at 30) (pos 500000)))) (element (item (number_at (at 34) (pos 0))) no_elements)))
    no_arguments) (entry (call_of (at 38) false false (codes "square") (argument None (number_at (at 45) (pos
    1000000)) no_arguments) no_items) no_items)) no_items)) no_items) ≡ faulted BadArgument (at 1) (codes
    "rotate_extrude") []
unfolding statements_on_literals
across_the_axis = refl

-- rotate_extrude() scale(1000000000) circle(10,$fn=200001);
points_before_range : shown (entry (call_of (at 1) false false (codes "rotate_extrude") no_arguments (entry
    (call_of (at 18) false false (codes "scale") (argument None (number_at (at 24) (pos 1000000000000000))
    no_arguments) (entry (call_of (at 36) false false (codes "circle") (argument None (number_at (at 43) (pos
    10000000)) (argument (Some (codes "$fn")) (number_at (at 50) (pos 200001000000)) no_arguments)) no_items)
    no_items)) no_items)) no_items) ≡ passed Triangles (at 36) []
unfolding statements_on_literals
points_before_range = refl

-- rotate_extrude() scale(1000000000) square(10,center=true);
range_before_sides : shown (entry (call_of (at 1) false false (codes "rotate_extrude") no_arguments (entry
    (call_of (at 18) false false (codes "scale") (argument None (number_at (at 24) (pos 1000000000000000))
    no_arguments) (entry (call_of (at 36) false false (codes "square") (argument None (number_at (at 43) (pos
    10000000)) (argument (Some (codes "center")) (boolean_at (at 53) true) no_arguments)) no_items) no_items))
    no_items)) no_items) ≡ faulted NumberRange (at 36) [] []
unfolding statements_on_literals
range_before_sides = refl

-- rotate_extrude($fn=25001) square(1,center=true);
sides_before_triangles : shown (entry (call_of (at 1) false false (codes "rotate_extrude") (argument (Some
    (codes "$fn")) (number_at (at 20) (pos 25001000000)) no_arguments) (entry (call_of (at 27) false false (codes
    "square") (argument None (number_at (at 34) (pos 1000000)) (argument (Some (codes "center")) (boolean_at (at
    43) true) no_arguments)) no_items) no_items)) no_items) ≡ faulted BadArgument (at 1) (codes "rotate_extrude")
    []
unfolding statements_on_literals
sides_before_triangles = refl

-- rotate_extrude($fn=25001) square(1001);
triangles_before_coordinates : shown (entry (call_of (at 1) false false (codes "rotate_extrude") (argument
    (Some (codes "$fn")) (number_at (at 20) (pos 25001000000)) no_arguments) (entry (call_of (at 27) false false
    (codes "square") (argument None (number_at (at 34) (pos 1001000000)) no_arguments) no_items) no_items))
    no_items) ≡ passed Triangles (at 27) []
unfolding statements_on_literals
triangles_before_coordinates = refl

-- rotate_extrude($fn=3) square(1001);
coordinates_last : shown (entry (call_of (at 1) false false (codes "rotate_extrude") (argument (Some (codes
    "$fn")) (number_at (at 20) (pos 3000000)) no_arguments) (entry (call_of (at 23) false false (codes "square")
    (argument None (number_at (at 30) (pos 1001000000)) no_arguments) no_items) no_items)) no_items) ≡ faulted
    CoordinateRange (at 23) [] []
unfolding statements_on_literals
coordinates_last = refl
