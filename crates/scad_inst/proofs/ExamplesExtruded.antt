-- Worked examples of extruded shapes, each under its source. Expected values come from an independent program.
use Rattle.std.proofs.Common.{◌≡◌, pos, negsuc, true, false, [], ◌∷◌, Some, None, refl}
use Rattle.std.specs.Prelude.{codes}
use Rattle.scad_ast.specs.declared.operator.UnOp.TheVariants.{Minus}
use Rattle.scad_ast.specs.Tree.{no_arguments, argument, no_elements, element, item, no_items, entry, call_of}
use Rattle.scad_ast.specs.Tree.{boolean as boolean_at, number as number_at, vector as vector_at, unary as unary_at}
use Rattle.scad_inst.proofs.OnLiterals.{statements_on_literals}
use Rattle.scad_inst.proofs.ExampleWords.{at, point, Leaf, Difference, made, shown}

-- linear_extrude(2) square([3,4],center=true);
a_prism : shown (entry (call_of (at 1) false false (codes "linear_extrude") (argument None (number_at (at 16)
    (pos 2000000)) no_arguments) (entry (call_of (at 19) false false (codes "square") (argument None (vector_at
    (at 26) (element (item (number_at (at 27) (pos 3000000))) (element (item (number_at (at 29) (pos 4000000)))
    no_elements))) (argument (Some (codes "center")) (boolean_at (at 39) true) no_arguments)) no_items) no_items))
    no_items) ≡ made 9 1 12 [] ((Leaf 0 12 (point (negsuc 1499) (negsuc 1999) (pos 0)) (point (pos 1500) (pos
    2000) (pos 2000))) ∷ [])
unfolding statements_on_literals
a_prism = refl

-- linear_extrude(height=3.000001,center=true) circle(1,$fn=3);
a_prism_downwards_and_upwards : shown (entry (call_of (at 1) false false (codes "linear_extrude") (argument
    (Some (codes "height")) (number_at (at 23) (pos 3000001)) (argument (Some (codes "center")) (boolean_at (at
    39) true) no_arguments)) (entry (call_of (at 45) false false (codes "circle") (argument None (number_at (at
    52) (pos 1000000)) (argument (Some (codes "$fn")) (number_at (at 58) (pos 3000000)) no_arguments)) no_items)
    no_items)) no_items) ≡ made 6 1 8 [] ((Leaf 0 8 (point (negsuc 499) (negsuc 865) (negsuc 1499)) (point (pos
    1000) (pos 866) (pos 1500))) ∷ [])
unfolding statements_on_literals
a_prism_downwards_and_upwards = refl

-- linear_extrude(1) translate([1,2,9]) square(1);
z_stays_inside_linear_extrude : shown (entry (call_of (at 1) false false (codes "linear_extrude") (argument
    None (number_at (at 16) (pos 1000000)) no_arguments) (entry (call_of (at 19) false false (codes "translate")
    (argument None (vector_at (at 29) (element (item (number_at (at 30) (pos 1000000))) (element (item (number_at
    (at 32) (pos 2000000))) (element (item (number_at (at 34) (pos 9000000))) no_elements)))) no_arguments) (entry
    (call_of (at 38) false false (codes "square") (argument None (number_at (at 45) (pos 1000000)) no_arguments)
    no_items) no_items)) no_items)) no_items) ≡ made 12 1 12 [] ((Leaf 0 12 (point (pos 1000) (pos 2000) (pos 0))
    (point (pos 2000) (pos 3000) (pos 1000))) ∷ [])
unfolding statements_on_literals
z_stays_inside_linear_extrude = refl

-- linear_extrude(1) polygon([[0,0],[9,0],[9,9],[1,1],[2,1],[2,2]],[[0,1,2],[3,4,5]]);
a_polygon_with_a_hole : shown (entry (call_of (at 1) false false (codes "linear_extrude") (argument None
    (number_at (at 16) (pos 1000000)) no_arguments) (entry (call_of (at 19) false false (codes "polygon")
    (argument None (vector_at (at 27) (element (item (vector_at (at 28) (element (item (number_at (at 29) (pos
    0))) (element (item (number_at (at 31) (pos 0))) no_elements)))) (element (item (vector_at (at 34) (element
    (item (number_at (at 35) (pos 9000000))) (element (item (number_at (at 37) (pos 0))) no_elements)))) (element
    (item (vector_at (at 40) (element (item (number_at (at 41) (pos 9000000))) (element (item (number_at (at 43)
    (pos 9000000))) no_elements)))) (element (item (vector_at (at 46) (element (item (number_at (at 47) (pos
    1000000))) (element (item (number_at (at 49) (pos 1000000))) no_elements)))) (element (item (vector_at (at 52)
    (element (item (number_at (at 53) (pos 2000000))) (element (item (number_at (at 55) (pos 1000000)))
    no_elements)))) (element (item (vector_at (at 58) (element (item (number_at (at 59) (pos 2000000))) (element
    (item (number_at (at 61) (pos 2000000))) no_elements)))) no_elements))))))) (argument None (vector_at (at 65)
    (element (item (vector_at (at 66) (element (item (number_at (at 67) (pos 0))) (element (item (number_at (at
    69) (pos 1000000))) (element (item (number_at (at 71) (pos 2000000))) no_elements))))) (element (item
    (vector_at (at 74) (element (item (number_at (at 75) (pos 3000000))) (element (item (number_at (at 77) (pos
    4000000))) (element (item (number_at (at 79) (pos 5000000))) no_elements))))) no_elements))) no_arguments))
    no_items) no_items)) no_items) ≡ made 75 2 16 [] ((Difference 0) ∷ (Leaf 1 8 (point (pos 0) (pos 0) (pos 0))
    (point (pos 9000) (pos 9000) (pos 1000))) ∷ (Leaf 1 8 (point (pos 1000) (pos 1000) (pos 0)) (point (pos 2000)
    (pos 2000) (pos 1000))) ∷ [])
unfolding statements_on_literals
a_polygon_with_a_hole = refl

-- rotate_extrude($fn=3) translate([2,1]) square([1,2]);
a_ring : shown (entry (call_of (at 1) false false (codes "rotate_extrude") (argument (Some (codes "$fn"))
    (number_at (at 20) (pos 3000000)) no_arguments) (entry (call_of (at 23) false false (codes "translate")
    (argument None (vector_at (at 33) (element (item (number_at (at 34) (pos 2000000))) (element (item (number_at
    (at 36) (pos 1000000))) no_elements))) no_arguments) (entry (call_of (at 40) false false (codes "square")
    (argument None (vector_at (at 47) (element (item (number_at (at 48) (pos 1000000))) (element (item (number_at
    (at 50) (pos 2000000))) no_elements))) no_arguments) no_items) no_items)) no_items)) no_items) ≡ made 14 1 24
    [] ((Leaf 0 24 (point (negsuc 1499) (negsuc 2597) (pos 1000)) (point (pos 3000) (pos 2598) (pos 3000))) ∷ [])
unfolding statements_on_literals
a_ring = refl

-- rotate_extrude($fn=3) translate([-1,0]) square(1);
a_ring_left_of_the_axis : shown (entry (call_of (at 1) false false (codes "rotate_extrude") (argument (Some
    (codes "$fn")) (number_at (at 20) (pos 3000000)) no_arguments) (entry (call_of (at 23) false false (codes
    "translate") (argument None (vector_at (at 33) (element (item (unary_at (at 34) Minus (number_at (at 35) (pos
    1000000)))) (element (item (number_at (at 37) (pos 0))) no_elements))) no_arguments) (entry (call_of (at 41)
    false false (codes "square") (argument None (number_at (at 48) (pos 1000000)) no_arguments) no_items)
    no_items)) no_items)) no_items) ≡ made 11 1 24 [] ((Leaf 0 24 (point (negsuc 999) (negsuc 865) (pos 0)) (point
    (pos 500) (pos 866) (pos 1000))) ∷ [])
unfolding statements_on_literals
a_ring_left_of_the_axis = refl

-- translate([5,0,0]) rotate_extrude($fn=3) translate([1,0,7]) square(1);
profiles_are_placed_apart : shown (entry (call_of (at 1) false false (codes "translate") (argument None
    (vector_at (at 11) (element (item (number_at (at 12) (pos 5000000))) (element (item (number_at (at 14) (pos
    0))) (element (item (number_at (at 16) (pos 0))) no_elements)))) no_arguments) (entry (call_of (at 20) false
    false (codes "rotate_extrude") (argument (Some (codes "$fn")) (number_at (at 39) (pos 3000000)) no_arguments)
    (entry (call_of (at 42) false false (codes "translate") (argument None (vector_at (at 52) (element (item
    (number_at (at 53) (pos 1000000))) (element (item (number_at (at 55) (pos 0))) (element (item (number_at (at
    57) (pos 7000000))) no_elements)))) no_arguments) (entry (call_of (at 61) false false (codes "square")
    (argument None (number_at (at 68) (pos 1000000)) no_arguments) no_items) no_items)) no_items)) no_items))
    no_items) ≡ made 20 1 24 [] ((Leaf 0 24 (point (pos 4000) (negsuc 1731) (pos 0)) (point (pos 7000) (pos 1732)
    (pos 1000))) ∷ [])
unfolding statements_on_literals
profiles_are_placed_apart = refl
