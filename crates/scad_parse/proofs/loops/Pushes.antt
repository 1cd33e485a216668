-- A list with one more member, as it is seen.
use Rattle.std.proofs.Common.{◌≡◌, ◌++◌, false, List, [], ◌∷◌, None, length, refl, ap}
use Rattle.std.specs.Prelude.{◌==◌}
use Rattle.scad_ast.specs.Tree.{argument, element, Element}
use Rattle.scad_ast.specs.View.{expression_of, arguments, element_of, elements}
use Rattle.scad_ast.specs.declared.expression.Arg.{Arg}
use Rattle.scad_ast.specs.declared.expression.Elem.{Elem}
use Rattle.scad_grammar.specs.Lists.{with_argument, with_element}
use Rattle.scad_grammar.specs.Steps.{range_start}

pub arguments_push : (xs : List Arg) (a : Arg) →
    arguments (xs ++ (a ∷ [])) ≡ with_argument (arguments xs) a.name (expression_of a.value)
arguments_push [] a = refl
arguments_push (x ∷ xs) a = ap (argument x.name (expression_of x.value)) (arguments_push xs a)

pub elements_push : (xs : List Elem) (x : Elem) → elements (xs ++ (x ∷ [])) ≡ with_element (elements xs) (element_of x)
elements_push [] x = refl
elements_push (y ∷ xs) x = ap (element (element_of y)) (elements_push xs x)

-- a range begins with the first element alone
pub no_start : (all : List Elem) (el : Element) → (length all == 0) ≡ false → range_start (elements all) el ≡ None
no_start [] el h = absurd (cc)
no_start (x ∷ all) el h = refl
