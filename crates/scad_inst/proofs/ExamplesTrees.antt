-- Worked examples of trees of solids, each under its source. Expected values come from an independent program.
use Rattle.std.proofs.Common.{◌≡◌, pos, negsuc, true, false, [], ◌∷◌, Some, None, refl}
use Rattle.std.specs.Prelude.{codes}
use Rattle.scad_ast.specs.declared.operator.UnOp.TheVariants.{Minus}
use Rattle.scad_ast.specs.declared.operator.BinOp.TheVariants.{Sub, Mul}
use Rattle.scad_ast.specs.Tree.{no_arguments, argument, no_elements, element, item, no_items, entry, module_of, call_of}
use Rattle.scad_ast.specs.Tree.{number as number_at, string as string_at, name as name_at, vector as vector_at, range as range_at, stepped as stepped_at, unary as unary_at, binary as binary_at}
use Rattle.scad_inst.proofs.OnLiterals.{statements_on_literals}
use Rattle.scad_inst.proofs.ExampleWords.{at, point, Empty, Leaf, Union, Intersection, Difference, made, shown}

-- cube(1);
one_cube : shown (entry (call_of (at 1) false false (codes "cube") (argument None (number_at (at 6) (pos
    1000000)) no_arguments) no_items) no_items) ≡ made 2 1 12 [] ((Leaf 0 12 (point (pos 0) (pos 0) (pos
    0)) (point (pos 1000) (pos 1000) (pos 1000))) ∷ [])
unfolding statements_on_literals
one_cube = refl

-- cube(1); translate([1,0,0]) cube(1);
two_cubes : shown (entry (call_of (at 1) false false (codes "cube") (argument None (number_at (at 6)
    (pos 1000000)) no_arguments) no_items) (entry (call_of (at 10) false false (codes "translate")
    (argument None (vector_at (at 20) (element (item (number_at (at 21) (pos 1000000))) (element (item
    (number_at (at 23) (pos 0))) (element (item (number_at (at 25) (pos 0))) no_elements))))
    no_arguments) (entry (call_of (at 29) false false (codes "cube") (argument None (number_at (at 34)
    (pos 1000000)) no_arguments) no_items) no_items)) no_items)) ≡ made 12 2 24 [] ((Union 0) ∷ (Leaf 1
    12 (point (pos 0) (pos 0) (pos 0)) (point (pos 1000) (pos 1000) (pos 1000))) ∷ (Leaf 1 12 (point
    (pos 1000) (pos 0) (pos 0)) (point (pos 2000) (pos 1000) (pos 1000))) ∷ [])
unfolding statements_on_literals
two_cubes = refl

-- difference(){cube(10); translate([2,2,-1]) cube([6,6,12]);}
holed : shown (entry (call_of (at 1) false false (codes "difference") no_arguments (entry (call_of (at
    14) false false (codes "cube") (argument None (number_at (at 19) (pos 10000000)) no_arguments)
    no_items) (entry (call_of (at 24) false false (codes "translate") (argument None (vector_at (at 34)
    (element (item (number_at (at 35) (pos 2000000))) (element (item (number_at (at 37) (pos 2000000)))
    (element (item (unary_at (at 39) Minus (number_at (at 40) (pos 1000000)))) no_elements))))
    no_arguments) (entry (call_of (at 44) false false (codes "cube") (argument None (vector_at (at 49)
    (element (item (number_at (at 50) (pos 6000000))) (element (item (number_at (at 52) (pos 6000000)))
    (element (item (number_at (at 54) (pos 12000000))) no_elements)))) no_arguments) no_items)
    no_items)) no_items))) no_items) ≡ made 20 2 24 [] ((Difference 0) ∷ (Leaf 1 12 (point (pos 0) (pos
    0) (pos 0)) (point (pos 10000) (pos 10000) (pos 10000))) ∷ (Leaf 1 12 (point (pos 2000) (pos 2000)
    (negsuc 999)) (point (pos 8000) (pos 8000) (pos 11000))) ∷ [])
unfolding statements_on_literals
holed = refl

-- difference(){%cube(1); cube(2);}
marked_base : shown (entry (call_of (at 1) false false (codes "difference") no_arguments (entry (call_of
    (at 15) true false (codes "cube") (argument None (number_at (at 20) (pos 1000000)) no_arguments)
    no_items) (entry (call_of (at 24) false false (codes "cube") (argument None (number_at (at 29) (pos
    2000000)) no_arguments) no_items) no_items))) no_items) ≡ made 5 2 24 [] ((Leaf 0 12 (point (pos 0)
    (pos 0) (pos 0)) (point (pos 2000) (pos 2000) (pos 2000))) ∷ [])
unfolding statements_on_literals
marked_base = refl

-- intersection(){%cube(1); cube(2);}
marked_member : shown (entry (call_of (at 1) false false (codes "intersection") no_arguments (entry
    (call_of (at 17) true false (codes "cube") (argument None (number_at (at 22) (pos 1000000))
    no_arguments) no_items) (entry (call_of (at 26) false false (codes "cube") (argument None (number_at
    (at 31) (pos 2000000)) no_arguments) no_items) no_items))) no_items) ≡ made 5 2 24 [] ((Leaf 0 12
    (point (pos 0) (pos 0) (pos 0)) (point (pos 2000) (pos 2000) (pos 2000))) ∷ [])
unfolding statements_on_literals
marked_member = refl

-- intersection(){cube(1); group(){}}
empty_member : shown (entry (call_of (at 1) false false (codes "intersection") no_arguments (entry
    (call_of (at 16) false false (codes "cube") (argument None (number_at (at 21) (pos 1000000))
    no_arguments) no_items) (entry (call_of (at 25) false false (codes "group") no_arguments no_items)
    no_items))) no_items) ≡ made 4 1 12 [] ((Empty 0) ∷ [])
unfolding statements_on_literals
empty_member = refl

-- difference(){group(){} cube(1);}
empty_base : shown (entry (call_of (at 1) false false (codes "difference") no_arguments (entry (call_of
    (at 14) false false (codes "group") no_arguments no_items) (entry (call_of (at 24) false false
    (codes "cube") (argument None (number_at (at 29) (pos 1000000)) no_arguments) no_items) no_items)))
    no_items) ≡ made 4 1 12 [] ((Empty 0) ∷ [])
unfolding statements_on_literals
empty_base = refl

-- %cube(1); #cube(2);
marked_statement : shown (entry (call_of (at 2) true false (codes "cube") (argument None (number_at (at
    7) (pos 1000000)) no_arguments) no_items) (entry (call_of (at 12) false true (codes "cube")
    (argument None (number_at (at 17) (pos 2000000)) no_arguments) no_items) no_items)) ≡ made 4 2 24 []
    ((Leaf 0 12 (point (pos 0) (pos 0) (pos 0)) (point (pos 2000) (pos 2000) (pos 2000))) ∷ [])
unfolding statements_on_literals
marked_statement = refl

-- union(){union(){cube(1); cube(2);} cube(3);}
nested_unions : shown (entry (call_of (at 1) false false (codes "union") no_arguments (entry (call_of
    (at 9) false false (codes "union") no_arguments (entry (call_of (at 17) false false (codes "cube")
    (argument None (number_at (at 22) (pos 1000000)) no_arguments) no_items) (entry (call_of (at 26)
    false false (codes "cube") (argument None (number_at (at 31) (pos 2000000)) no_arguments) no_items)
    no_items))) (entry (call_of (at 36) false false (codes "cube") (argument None (number_at (at 41)
    (pos 3000000)) no_arguments) no_items) no_items))) no_items) ≡ made 8 3 36 [] ((Union 0) ∷ (Leaf 1
    12 (point (pos 0) (pos 0) (pos 0)) (point (pos 1000) (pos 1000) (pos 1000))) ∷ (Leaf 1 12 (point
    (pos 0) (pos 0) (pos 0)) (point (pos 2000) (pos 2000) (pos 2000))) ∷ (Leaf 1 12 (point (pos 0) (pos
    0) (pos 0)) (point (pos 3000) (pos 3000) (pos 3000))) ∷ [])
unfolding statements_on_literals
nested_unions = refl

-- for(i=[0:1]) translate([i*2,0,0]) cube(1);
loop_united : shown (entry (call_of (at 1) false false (codes "for") (argument (Some (codes "i"))
    (range_at (at 7) (number_at (at 8) (pos 0)) (number_at (at 10) (pos 1000000))) no_arguments) (entry
    (call_of (at 14) false false (codes "translate") (argument None (vector_at (at 24) (element (item
    (binary_at (at 26) Mul (name_at (at 25) (codes "i")) (number_at (at 27) (pos 2000000)))) (element
    (item (number_at (at 29) (pos 0))) (element (item (number_at (at 31) (pos 0))) no_elements))))
    no_arguments) (entry (call_of (at 35) false false (codes "cube") (argument None (number_at (at 40)
    (pos 1000000)) no_arguments) no_items) no_items)) no_items)) no_items) ≡ made 30 2 24 [] ((Union 0)
    ∷ (Leaf 1 12 (point (pos 0) (pos 0) (pos 0)) (point (pos 1000) (pos 1000) (pos 1000))) ∷ (Leaf 1 12
    (point (pos 2000) (pos 0) (pos 0)) (point (pos 3000) (pos 1000) (pos 1000))) ∷ [])
unfolding statements_on_literals
loop_united = refl

-- intersection_for(i=[0:1]) translate([i,0,0]) cube(2);
loop_intersected : shown (entry (call_of (at 1) false false (codes "intersection_for") (argument (Some
    (codes "i")) (range_at (at 20) (number_at (at 21) (pos 0)) (number_at (at 23) (pos 1000000)))
    no_arguments) (entry (call_of (at 27) false false (codes "translate") (argument None (vector_at (at
    37) (element (item (name_at (at 38) (codes "i"))) (element (item (number_at (at 40) (pos 0)))
    (element (item (number_at (at 42) (pos 0))) no_elements)))) no_arguments) (entry (call_of (at 46)
    false false (codes "cube") (argument None (number_at (at 51) (pos 2000000)) no_arguments) no_items)
    no_items)) no_items)) no_items) ≡ made 26 2 24 [] ((Intersection 0) ∷ (Leaf 1 12 (point (pos 0) (pos
    0) (pos 0)) (point (pos 2000) (pos 2000) (pos 2000))) ∷ (Leaf 1 12 (point (pos 1000) (pos 0) (pos
    0)) (point (pos 3000) (pos 2000) (pos 2000))) ∷ [])
unfolding statements_on_literals
loop_intersected = refl

-- for(a=[1,2],b=[0:a]) echo(a,b);
two_variables : shown (entry (call_of (at 1) false false (codes "for") (argument (Some (codes "a"))
    (vector_at (at 7) (element (item (number_at (at 8) (pos 1000000))) (element (item (number_at (at 10)
    (pos 2000000))) no_elements))) (argument (Some (codes "b")) (range_at (at 15) (number_at (at 16)
    (pos 0)) (name_at (at 18) (codes "a"))) no_arguments)) (entry (call_of (at 22) false false (codes
    "echo") (argument None (name_at (at 27) (codes "a")) (argument None (name_at (at 29) (codes "b"))
    no_arguments)) no_items) no_items)) no_items) ≡ made 84 0 0 ((codes "ECHO: 1, 0") ∷ (codes
    "ECHO: 1, 1") ∷ (codes "ECHO: 2, 0") ∷ (codes "ECHO: 2, 1") ∷ (codes "ECHO: 2, 2") ∷ []) ((Empty 0)
    ∷ [])
unfolding statements_on_literals
two_variables = refl

-- module row(){for(i=[0:$children-1]) translate([i*2,0,0]) children(i);} row(){cube(1); cube(2);}
children_by_number : shown (entry (module_of (at 1) (codes "row") [] (entry (call_of (at 14) false false
    (codes "for") (argument (Some (codes "i")) (range_at (at 20) (number_at (at 21) (pos 0)) (binary_at
    (at 32) Sub (name_at (at 23) (codes "$children")) (number_at (at 33) (pos 1000000)))) no_arguments)
    (entry (call_of (at 37) false false (codes "translate") (argument None (vector_at (at 47) (element
    (item (binary_at (at 49) Mul (name_at (at 48) (codes "i")) (number_at (at 50) (pos 2000000))))
    (element (item (number_at (at 52) (pos 0))) (element (item (number_at (at 54) (pos 0)))
    no_elements)))) no_arguments) (entry (call_of (at 58) false false (codes "children") (argument None
    (name_at (at 67) (codes "i")) no_arguments) no_items) no_items)) no_items)) no_items)) (entry
    (call_of (at 72) false false (codes "row") no_arguments (entry (call_of (at 78) false false (codes
    "cube") (argument None (number_at (at 83) (pos 1000000)) no_arguments) no_items) (entry (call_of (at
    87) false false (codes "cube") (argument None (number_at (at 92) (pos 2000000)) no_arguments)
    no_items) no_items))) no_items)) ≡ made 37 2 24 [] ((Union 0) ∷ (Leaf 1 12 (point (pos 0) (pos 0)
    (pos 0)) (point (pos 1000) (pos 1000) (pos 1000))) ∷ (Leaf 1 12 (point (pos 2000) (pos 0) (pos 0))
    (point (pos 4000) (pos 2000) (pos 2000))) ∷ [])
unfolding statements_on_literals
children_by_number = refl

-- module m(){children([1,0,5,-1,"a",0.9]);} m(){echo(1); echo(2);}
children_by_vector : shown (entry (module_of (at 1) (codes "m") [] (entry (call_of (at 12) false false
    (codes "children") (argument None (vector_at (at 21) (element (item (number_at (at 22) (pos
    1000000))) (element (item (number_at (at 24) (pos 0))) (element (item (number_at (at 26) (pos
    5000000))) (element (item (unary_at (at 28) Minus (number_at (at 29) (pos 1000000)))) (element (item
    (string_at (at 31) (codes "a"))) (element (item (number_at (at 35) (pos 900000))) no_elements)))))))
    no_arguments) no_items) no_items)) (entry (call_of (at 43) false false (codes "m") no_arguments
    (entry (call_of (at 47) false false (codes "echo") (argument None (number_at (at 52) (pos 1000000))
    no_arguments) no_items) (entry (call_of (at 56) false false (codes "echo") (argument None (number_at
    (at 61) (pos 2000000)) no_arguments) no_items) no_items))) no_items)) ≡ made 44 0 0 ((codes
    "ECHO: 2") ∷ (codes "ECHO: 1") ∷ (codes "ECHO: 1") ∷ []) ((Empty 0) ∷ [])
unfolding statements_on_literals
children_by_vector = refl

-- module m(){children([1:-0.5:-3]);} m(){echo(1); echo(2);}
children_by_range : shown (entry (module_of (at 1) (codes "m") [] (entry (call_of (at 12) false false
    (codes "children") (argument None (stepped_at (at 21) (number_at (at 22) (pos 1000000)) (unary_at
    (at 24) Minus (number_at (at 25) (pos 500000))) (unary_at (at 29) Minus (number_at (at 30) (pos
    3000000)))) no_arguments) no_items) no_items)) (entry (call_of (at 36) false false (codes "m")
    no_arguments (entry (call_of (at 40) false false (codes "echo") (argument None (number_at (at 45)
    (pos 1000000)) no_arguments) no_items) (entry (call_of (at 49) false false (codes "echo") (argument
    None (number_at (at 54) (pos 2000000)) no_arguments) no_items) no_items))) no_items)) ≡ made 44 0 0
    ((codes "ECHO: 2") ∷ (codes "ECHO: 1") ∷ (codes "ECHO: 1") ∷ (codes "ECHO: 1") ∷ []) ((Empty 0) ∷
    [])
unfolding statements_on_literals
children_by_range = refl

-- children(); echo($children);
no_children : shown (entry (call_of (at 1) false false (codes "children") no_arguments no_items) (entry
    (call_of (at 13) false false (codes "echo") (argument None (name_at (at 18) (codes "$children"))
    no_arguments) no_items) no_items)) ≡ made 10 0 0 ((codes "ECHO: 0") ∷ []) ((Empty 0) ∷ [])
unfolding statements_on_literals
no_children = refl

-- module m(){union(){children(0); cube(2);}} m() %cube(1);
marked_child : shown (entry (module_of (at 1) (codes "m") [] (entry (call_of (at 12) false false (codes
    "union") no_arguments (entry (call_of (at 20) false false (codes "children") (argument None
    (number_at (at 29) (pos 0)) no_arguments) no_items) (entry (call_of (at 33) false false (codes
    "cube") (argument None (number_at (at 38) (pos 2000000)) no_arguments) no_items) no_items)))
    no_items)) (entry (call_of (at 44) false false (codes "m") no_arguments (entry (call_of (at 49) true
    false (codes "cube") (argument None (number_at (at 54) (pos 1000000)) no_arguments) no_items)
    no_items)) no_items)) ≡ made 8 2 24 [] ((Leaf 0 12 (point (pos 0) (pos 0) (pos 0)) (point (pos 2000)
    (pos 2000) (pos 2000))) ∷ [])
unfolding statements_on_literals
marked_child = refl
