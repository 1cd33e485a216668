-- Where expressions and elements stand.
use Rattle.scad_fault.specs.declared.place.Place.{Place}
use Rattle.scad_ast.specs.Tree.{Expression, undef, boolean, number, string, name, vector, range, stepped, unary, binary, choose, index, member, call, let_in, assert_in, echo_in, Element, item, each, for_each, for_loop, let_element, if_element, if_else}

abbrev pub place : Expression → Place
place (undef at) = at
place (boolean at b) = at
place (number at z) = at
place (string at chars) = at
place (name at word) = at
place (vector at all) = at
place (range at a b) = at
place (stepped at a s b) = at
place (unary at op a) = at
place (binary at op a b) = at
place (choose at a b c) = at
place (index at a i) = at
place (member at a word) = at
place (call at word args) = at
place (let_in at args e) = at
place (assert_in at args e) = at
place (echo_in at args e) = at

abbrev pub element_place : Element → Place
element_place (item e) = place e
element_place (each at e) = at
element_place (for_each at args e) = at
element_place (for_loop at starts test steps e) = at
element_place (let_element at args e) = at
element_place (if_element at test e) = at
element_place (if_else at test e other) = at
