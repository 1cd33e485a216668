-- Worked examples of placed primitives, each under its source. Expected values come from an independent program.
use Rattle.std.proofs.Common.{◌≡◌, pos, negsuc, true, false, [], ◌∷◌, Some, None, refl}
use Rattle.std.specs.Prelude.{codes}
use Rattle.scad_ast.specs.declared.operator.UnOp.TheVariants.{Minus}
use Rattle.scad_ast.specs.Tree.{no_arguments, argument, no_elements, element, item, no_items, entry, assignment, module_of, call_of}
use Rattle.scad_ast.specs.Tree.{undef as undef_at, boolean as boolean_at, number as number_at, vector as vector_at, unary as unary_at}
use Rattle.scad_inst.proofs.OnLiterals.{statements_on_literals}
use Rattle.scad_inst.proofs.ExampleWords.{at, point, Leaf, made, shown}

-- rotate(90) cube([1,2,3]);
turned_cube : shown (entry (call_of (at 1) false false (codes "rotate") (argument None (number_at (at 8)
    (pos 90000000)) no_arguments) (entry (call_of (at 12) false false (codes "cube") (argument None
    (vector_at (at 17) (element (item (number_at (at 18) (pos 1000000))) (element (item (number_at (at
    20) (pos 2000000))) (element (item (number_at (at 22) (pos 3000000))) no_elements)))) no_arguments)
    no_items) no_items)) no_items) ≡ made 10 1 12 [] ((Leaf 0 12 (point (negsuc 1999) (pos 0) (pos 0))
    (point (pos 0) (pos 1000) (pos 3000))) ∷ [])
unfolding statements_on_literals
turned_cube = refl

-- rotate([90,0,90]) cube([1,2,3]);
turned_by_three : shown (entry (call_of (at 1) false false (codes "rotate") (argument None (vector_at
    (at 8) (element (item (number_at (at 9) (pos 90000000))) (element (item (number_at (at 12) (pos 0)))
    (element (item (number_at (at 14) (pos 90000000))) no_elements)))) no_arguments) (entry (call_of (at
    19) false false (codes "cube") (argument None (vector_at (at 24) (element (item (number_at (at 25)
    (pos 1000000))) (element (item (number_at (at 27) (pos 2000000))) (element (item (number_at (at 29)
    (pos 3000000))) no_elements)))) no_arguments) no_items) no_items)) no_items) ≡ made 16 1 12 []
    ((Leaf 0 12 (point (pos 0) (pos 0) (pos 0)) (point (pos 3000) (pos 1000) (pos 2000))) ∷ [])
unfolding statements_on_literals
turned_by_three = refl

-- rotate(90,[0,-2,0]) cube([1,2,3]);
turned_about_y : shown (entry (call_of (at 1) false false (codes "rotate") (argument None (number_at (at
    8) (pos 90000000)) (argument None (vector_at (at 11) (element (item (number_at (at 12) (pos 0)))
    (element (item (unary_at (at 14) Minus (number_at (at 15) (pos 2000000)))) (element (item (number_at
    (at 17) (pos 0))) no_elements)))) no_arguments)) (entry (call_of (at 21) false false (codes "cube")
    (argument None (vector_at (at 26) (element (item (number_at (at 27) (pos 1000000))) (element (item
    (number_at (at 29) (pos 2000000))) (element (item (number_at (at 31) (pos 3000000))) no_elements))))
    no_arguments) no_items) no_items)) no_items) ≡ made 18 1 12 [] ((Leaf 0 12 (point (negsuc 2999) (pos
    0) (pos 0)) (point (pos 0) (pos 2000) (pos 1000))) ∷ [])
unfolding statements_on_literals
turned_about_y = refl

-- mirror([1,0,0]) cube([1,2,3],center=true);
mirrored : shown (entry (call_of (at 1) false false (codes "mirror") (argument None (vector_at (at 8)
    (element (item (number_at (at 9) (pos 1000000))) (element (item (number_at (at 11) (pos 0)))
    (element (item (number_at (at 13) (pos 0))) no_elements)))) no_arguments) (entry (call_of (at 17)
    false false (codes "cube") (argument None (vector_at (at 22) (element (item (number_at (at 23) (pos
    1000000))) (element (item (number_at (at 25) (pos 2000000))) (element (item (number_at (at 27) (pos
    3000000))) no_elements)))) (argument (Some (codes "center")) (boolean_at (at 37) true)
    no_arguments)) no_items) no_items)) no_items) ≡ made 17 1 12 [] ((Leaf 0 12 (point (negsuc 499)
    (negsuc 999) (negsuc 1499)) (point (pos 500) (pos 1000) (pos 1500))) ∷ [])
unfolding statements_on_literals
mirrored = refl

-- scale([2,3]) cube(1);
scaled : shown (entry (call_of (at 1) false false (codes "scale") (argument None (vector_at (at 7)
    (element (item (number_at (at 8) (pos 2000000))) (element (item (number_at (at 10) (pos 3000000)))
    no_elements))) no_arguments) (entry (call_of (at 14) false false (codes "cube") (argument None
    (number_at (at 19) (pos 1000000)) no_arguments) no_items) no_items)) no_items) ≡ made 8 1 12 []
    ((Leaf 0 12 (point (pos 0) (pos 0) (pos 0)) (point (pos 2000) (pos 3000) (pos 1000))) ∷ [])
unfolding statements_on_literals
scaled = refl

-- scale(2) translate([1]) cube(1);
scaled_alike : shown (entry (call_of (at 1) false false (codes "scale") (argument None (number_at (at 7)
    (pos 2000000)) no_arguments) (entry (call_of (at 10) false false (codes "translate") (argument None
    (vector_at (at 20) (element (item (number_at (at 21) (pos 1000000))) no_elements)) no_arguments)
    (entry (call_of (at 25) false false (codes "cube") (argument None (number_at (at 30) (pos 1000000))
    no_arguments) no_items) no_items)) no_items)) no_items) ≡ made 8 1 12 [] ((Leaf 0 12 (point (pos
    2000) (pos 0) (pos 0)) (point (pos 4000) (pos 2000) (pos 2000))) ∷ [])
unfolding statements_on_literals
scaled_alike = refl

-- multmatrix([[1,0,0,5],[0,1,0,6],[0,0,1,7],[9]]) cube(1);
multiplied : shown (entry (call_of (at 1) false false (codes "multmatrix") (argument None (vector_at (at
    12) (element (item (vector_at (at 13) (element (item (number_at (at 14) (pos 1000000))) (element
    (item (number_at (at 16) (pos 0))) (element (item (number_at (at 18) (pos 0))) (element (item
    (number_at (at 20) (pos 5000000))) no_elements)))))) (element (item (vector_at (at 23) (element
    (item (number_at (at 24) (pos 0))) (element (item (number_at (at 26) (pos 1000000))) (element (item
    (number_at (at 28) (pos 0))) (element (item (number_at (at 30) (pos 6000000))) no_elements))))))
    (element (item (vector_at (at 33) (element (item (number_at (at 34) (pos 0))) (element (item
    (number_at (at 36) (pos 0))) (element (item (number_at (at 38) (pos 1000000))) (element (item
    (number_at (at 40) (pos 7000000))) no_elements)))))) (element (item (vector_at (at 43) (element
    (item (number_at (at 44) (pos 9000000))) no_elements))) no_elements))))) no_arguments) (entry
    (call_of (at 49) false false (codes "cube") (argument None (number_at (at 54) (pos 1000000))
    no_arguments) no_items) no_items)) no_items) ≡ made 51 1 12 [] ((Leaf 0 12 (point (pos 5000) (pos
    6000) (pos 7000)) (point (pos 6000) (pos 7000) (pos 8000))) ∷ [])
unfolding statements_on_literals
multiplied = refl

-- cube(5,size=undef);
size_by_name : shown (entry (call_of (at 1) false false (codes "cube") (argument None (number_at (at 6)
    (pos 5000000)) (argument (Some (codes "size")) (undef_at (at 13)) no_arguments)) no_items) no_items)
    ≡ made 3 1 12 [] ((Leaf 0 12 (point (pos 0) (pos 0) (pos 0)) (point (pos 1000) (pos 1000) (pos
    1000))) ∷ [])
unfolding statements_on_literals
size_by_name = refl

-- cube(size=undef,center=1);
undef_isnt_given : shown (entry (call_of (at 1) false false (codes "cube") (argument (Some (codes
    "size")) (undef_at (at 11)) (argument (Some (codes "center")) (number_at (at 24) (pos 1000000))
    no_arguments)) no_items) no_items) ≡ made 3 1 12 [] ((Leaf 0 12 (point (negsuc 499) (negsuc 499)
    (negsuc 499)) (point (pos 500) (pos 500) (pos 500))) ∷ [])
unfolding statements_on_literals
undef_isnt_given = refl

-- cube(2,size=3);
later_argument : shown (entry (call_of (at 1) false false (codes "cube") (argument None (number_at (at
    6) (pos 2000000)) (argument (Some (codes "size")) (number_at (at 13) (pos 3000000)) no_arguments))
    no_items) no_items) ≡ made 3 1 12 [] ((Leaf 0 12 (point (pos 0) (pos 0) (pos 0)) (point (pos 3000)
    (pos 3000) (pos 3000))) ∷ [])
unfolding statements_on_literals
later_argument = refl

-- cylinder(h=2,d=2,$fn=4);
cylinder_of_four : shown (entry (call_of (at 1) false false (codes "cylinder") (argument (Some (codes
    "h")) (number_at (at 12) (pos 2000000)) (argument (Some (codes "d")) (number_at (at 16) (pos
    2000000)) (argument (Some (codes "$fn")) (number_at (at 22) (pos 4000000)) no_arguments))) no_items)
    no_items) ≡ made 4 1 12 [] ((Leaf 0 12 (point (negsuc 999) (negsuc 999) (pos 0)) (point (pos 1000)
    (pos 1000) (pos 2000))) ∷ [])
unfolding statements_on_literals
cylinder_of_four = refl

-- cylinder(2,1,0,true,$fn=3);
cone : shown (entry (call_of (at 1) false false (codes "cylinder") (argument None (number_at (at 10)
    (pos 2000000)) (argument None (number_at (at 12) (pos 1000000)) (argument None (number_at (at 14)
    (pos 0)) (argument None (boolean_at (at 16) true) (argument (Some (codes "$fn")) (number_at (at 25)
    (pos 3000000)) no_arguments))))) no_items) no_items) ≡ made 6 1 8 [] ((Leaf 0 8 (point (negsuc 499)
    (negsuc 865) (negsuc 999)) (point (pos 1000) (pos 866) (pos 1000))) ∷ [])
unfolding statements_on_literals
cone = refl

-- cylinder(1,d1=4,r2=1,r=9,$fn=4);
ends_by_diameter : shown (entry (call_of (at 1) false false (codes "cylinder") (argument None (number_at
    (at 10) (pos 1000000)) (argument (Some (codes "d1")) (number_at (at 15) (pos 4000000)) (argument
    (Some (codes "r2")) (number_at (at 20) (pos 1000000)) (argument (Some (codes "r")) (number_at (at
    24) (pos 9000000)) (argument (Some (codes "$fn")) (number_at (at 30) (pos 4000000))
    no_arguments))))) no_items) no_items) ≡ made 6 1 12 [] ((Leaf 0 12 (point (negsuc 1999) (negsuc
    1999) (pos 0)) (point (pos 2000) (pos 2000) (pos 1000))) ∷ [])
unfolding statements_on_literals
ends_by_diameter = refl

-- sphere(d=2,$fn=4);
small_sphere : shown (entry (call_of (at 1) false false (codes "sphere") (argument (Some (codes "d"))
    (number_at (at 10) (pos 2000000)) (argument (Some (codes "$fn")) (number_at (at 16) (pos 4000000))
    no_arguments)) no_items) no_items) ≡ made 3 1 12 [] ((Leaf 0 12 (point (negsuc 706) (negsuc 706)
    (negsuc 706)) (point (pos 707) (pos 707) (pos 707))) ∷ [])
unfolding statements_on_literals
small_sphere = refl

-- $fn=3; module m(){cylinder(1,1);} m($fn=4);
fragments_along_calls : shown (entry (assignment (at 1) (codes "$fn") (number_at (at 5) (pos 3000000)))
    (entry (module_of (at 8) (codes "m") [] (entry (call_of (at 19) false false (codes "cylinder")
    (argument None (number_at (at 28) (pos 1000000)) (argument None (number_at (at 30) (pos 1000000))
    no_arguments)) no_items) no_items)) (entry (call_of (at 35) false false (codes "m") (argument (Some
    (codes "$fn")) (number_at (at 41) (pos 4000000)) no_arguments) no_items) no_items))) ≡ made 7 1 12
    [] ((Leaf 0 12 (point (negsuc 999) (negsuc 999) (pos 0)) (point (pos 1000) (pos 1000) (pos 1000))) ∷
    [])
unfolding statements_on_literals
fragments_along_calls = refl

-- polyhedron([[0,0,0],[1,0,0],[0,1,0],[0,0,1]],[[0,1,2],[0,3,1],[1,3,2],[0,2,3]]);
tetrahedron : shown (entry (call_of (at 1) false false (codes "polyhedron") (argument None (vector_at
    (at 12) (element (item (vector_at (at 13) (element (item (number_at (at 14) (pos 0))) (element (item
    (number_at (at 16) (pos 0))) (element (item (number_at (at 18) (pos 0))) no_elements))))) (element
    (item (vector_at (at 21) (element (item (number_at (at 22) (pos 1000000))) (element (item (number_at
    (at 24) (pos 0))) (element (item (number_at (at 26) (pos 0))) no_elements))))) (element (item
    (vector_at (at 29) (element (item (number_at (at 30) (pos 0))) (element (item (number_at (at 32)
    (pos 1000000))) (element (item (number_at (at 34) (pos 0))) no_elements))))) (element (item
    (vector_at (at 37) (element (item (number_at (at 38) (pos 0))) (element (item (number_at (at 40)
    (pos 0))) (element (item (number_at (at 42) (pos 1000000))) no_elements))))) no_elements)))))
    (argument None (vector_at (at 46) (element (item (vector_at (at 47) (element (item (number_at (at
    48) (pos 0))) (element (item (number_at (at 50) (pos 1000000))) (element (item (number_at (at 52)
    (pos 2000000))) no_elements))))) (element (item (vector_at (at 55) (element (item (number_at (at 56)
    (pos 0))) (element (item (number_at (at 58) (pos 3000000))) (element (item (number_at (at 60) (pos
    1000000))) no_elements))))) (element (item (vector_at (at 63) (element (item (number_at (at 64) (pos
    1000000))) (element (item (number_at (at 66) (pos 3000000))) (element (item (number_at (at 68) (pos
    2000000))) no_elements))))) (element (item (vector_at (at 71) (element (item (number_at (at 72) (pos
    0))) (element (item (number_at (at 74) (pos 2000000))) (element (item (number_at (at 76) (pos
    3000000))) no_elements))))) no_elements))))) no_arguments)) no_items) no_items) ≡ made 91 1 4 []
    ((Leaf 0 4 (point (pos 0) (pos 0) (pos 0)) (point (pos 1000) (pos 1000) (pos 1000))) ∷ [])
unfolding statements_on_literals
tetrahedron = refl
