-- A tree without its places loses nothing more with them.
use Rattle.std.proofs.Common.{◌≡◌, List, [], ◌∷◌, Option, Some, None, option_map, map, refl}
use Rattle.scad_ast.specs.Tree.{Expression, undef, boolean, number, string, name, vector, range, stepped, unary}
use Rattle.scad_ast.specs.Tree.{binary, choose, index, member, call, let_in, assert_in, echo_in, Arguments}
use Rattle.scad_ast.specs.Tree.{no_arguments, argument, Elements, no_elements, element, Element, item, each, for_each}
use Rattle.scad_ast.specs.Tree.{for_loop, let_element, if_element, if_else, Parameter, Items, no_items, entry, Item}
use Rattle.scad_ast.specs.Tree.{assignment, module_of, function_of, call_of, choice}
use Rattle.scad_grammar.specs.TreeText.{nowhere, unplaced, unplaced_arguments, unplaced_elements, unplaced_element}
use Rattle.scad_grammar.specs.PrintedItems.{unplaced_parameter, unplaced_items, unplaced_item}

mutual
  twice : (e : Expression) → unplaced (unplaced e) ≡ unplaced e
  twice (undef at) = refl
  twice (boolean at b) = refl
  twice (number at z) = refl
  twice (string at chars) = refl
  twice (name at w) = refl
  twice (vector at all) = λ i. vector nowhere (twice_elements all i)
  twice (range at a b) = λ i. range nowhere (twice a i) (twice b i)
  twice (stepped at a b c) = λ i. stepped nowhere (twice a i) (twice b i) (twice c i)
  twice (unary at op a) = λ i. unary nowhere op (twice a i)
  twice (binary at op a b) = λ i. binary nowhere op (twice a i) (twice b i)
  twice (choose at a b c) = λ i. choose nowhere (twice a i) (twice b i) (twice c i)
  twice (index at a e) = λ i. index nowhere (twice a i) (twice e i)
  twice (member at a w) = λ i. member nowhere (twice a i) w
  twice (call at w all) = λ i. call nowhere w (twice_arguments all i)
  twice (let_in at all a) = λ i. let_in nowhere (twice_arguments all i) (twice a i)
  twice (assert_in at all a) = λ i. assert_in nowhere (twice_arguments all i) (twice a i)
  twice (echo_in at all a) = λ i. echo_in nowhere (twice_arguments all i) (twice a i)

  twice_arguments : (all : Arguments) → unplaced_arguments (unplaced_arguments all) ≡ unplaced_arguments all
  twice_arguments no_arguments = refl
  twice_arguments (argument w e more) = λ i. argument w (twice e i) (twice_arguments more i)

  twice_elements : (all : Elements) → unplaced_elements (unplaced_elements all) ≡ unplaced_elements all
  twice_elements no_elements = refl
  twice_elements (element e more) = λ i. element (twice_element e i) (twice_elements more i)

  twice_element : (e : Element) → unplaced_element (unplaced_element e) ≡ unplaced_element e
  twice_element (item e) = λ i. item (twice e i)
  twice_element (each at e) = λ i. each nowhere (twice_element e i)
  twice_element (for_each at all e) = λ i. for_each nowhere (twice_arguments all i) (twice_element e i)
  twice_element (for_loop at starts test steps e) =
      λ i. for_loop nowhere (twice_arguments starts i) (twice test i) (twice_arguments steps i) (twice_element e i)
  twice_element (let_element at all e) = λ i. let_element nowhere (twice_arguments all i) (twice_element e i)
  twice_element (if_element at test e) = λ i. if_element nowhere (twice test i) (twice_element e i)
  twice_element (if_else at test e other) =
      λ i. if_else nowhere (twice test i) (twice_element e i) (twice_element other i)

twice_default : (d : Option Expression) → option_map unplaced (option_map unplaced d) ≡ option_map unplaced d
twice_default None = refl
twice_default (Some e) = λ i. Some (twice e i)

twice_parameters : (ps : List Parameter) →
    map unplaced_parameter (map unplaced_parameter ps) ≡ map unplaced_parameter ps
twice_parameters [] = refl
twice_parameters (p ∷ more) =
    λ i. record { name = p.name; default = twice_default p.default i } ∷ twice_parameters more i

mutual
  pub unplaced_twice : (all : Items) → unplaced_items (unplaced_items all) ≡ unplaced_items all
  unplaced_twice no_items = refl
  unplaced_twice (entry i more) = λ x. entry (twice_item i x) (unplaced_twice more x)

  twice_item : (i : Item) → unplaced_item (unplaced_item i) ≡ unplaced_item i
  twice_item (assignment at w e) = λ x. assignment nowhere w (twice e x)
  twice_item (module_of at w ps all) = λ x. module_of nowhere w (twice_parameters ps x) (unplaced_twice all x)
  twice_item (function_of at w ps e) = λ x. function_of nowhere w (twice_parameters ps x) (twice e x)
  twice_item (call_of at percent hash w args all) =
      λ x. call_of nowhere percent hash w (twice_arguments args x) (unplaced_twice all x)
  twice_item (choice at percent hash test held other) =
      λ x. choice nowhere percent hash (twice test x) (unplaced_twice held x) (unplaced_twice other x)
