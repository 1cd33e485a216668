-- The lists in a tree are those of the vectors that hold them.
use Rattle.std.proofs.Common.{◌≡◌, ℕ, List, Vec, Box, Global, refl, ap, ap₂, rules}
use Rattle.scad_fault.specs.declared.place.Place.{Place}
use Rattle.scad_ast.specs.declared.expression.Node.{Call, Let, Assert, Echo, List as ListNode, Row_of-Arg, end_of-Arg, more_of-Arg, Row_of-Elem, end_of-Elem, more_of-Elem, items-the_row-Elem}
use Rattle.scad_ast.specs.declared.expression.Elem.{Elem, For, Loop, items-the_row-Arg}
use Rattle.scad_ast.specs.declared.expression.Elem.{Let as ElemLet}
use Rattle.scad_ast.specs.declared.expression.Elem.TheViews.{the_lemmas}
use Rattle.scad_ast.specs.declared.expression.Arg.{Arg}
use Rattle.scad_ast.specs.declared.expression.Expr.{Expr}
use Rattle.scad_ast.specs.Tree.{argument, element, call, vector, let_in, assert_in, echo_in, for_each, for_loop, let_element, Element, Arguments, no_arguments}
use Rattle.scad_ast.specs.View.{expression_at, expression_of, arguments_of, arguments, elements_of, elements, element_of}

pub arguments_rows : (m : _) (r : Row_of-Arg m) → arguments_of r ≡ arguments (items-the_row-Arg m r)
arguments_rows m end_of-Arg = refl
arguments_rows m (more_of-Arg word at node rest) = ap (argument word (expression_at at node)) (arguments_rows _ rest)

pub elements_rows : (m : _) (r : Row_of-Elem m) → elements_of r ≡ elements (items-the_row-Elem m r)
elements_rows m end_of-Elem = refl
elements_rows m (more_of-Elem e rest) = ap (element (element_of e)) (elements_rows _ rest)

pub call_view : (at : Place) (word : List ℕ) (args : Vec Arg Global) → expression_at at (Call word args) ≡ call at word
    (arguments args.items)
call_view at word args = search (rules, the_lemmas, arguments_rows)

pub vector_view : (at : Place) (all : Vec Elem Global) → expression_at at (ListNode all)
    ≡ vector at (elements all.items)
vector_view at all = search (rules, the_lemmas, elements_rows)

pub let_view : (at : Place) (args : Vec Arg Global) (body : Box Expr Global) → expression_at at (Let args body)
    ≡ let_in at (arguments args.items) (expression_of body.value)
let_view at args body = search (rules, the_lemmas, arguments_rows)

pub assert_view : (at : Place) (args : Vec Arg Global) (body : Box Expr Global) → expression_at at (Assert args body)
    ≡ assert_in at (arguments args.items) (expression_of body.value)
assert_view at args body = search (rules, the_lemmas, arguments_rows)

pub echo_view : (at : Place) (args : Vec Arg Global) (body : Box Expr Global) → expression_at at (Echo args body)
    ≡ echo_in at (arguments args.items) (expression_of body.value)
echo_view at args body = search (rules, the_lemmas, arguments_rows)

pub for_view : (args : Vec Arg Global) (body : Box Elem Global) (at : Place) → element_of (For args body at)
    ≡ for_each at (arguments args.items) (element_of body.value)
for_view args body at = search (rules, the_lemmas, arguments_rows)

-- the arguments of a plain `for`
abbrev arguments_in : Element → Arguments
arguments_in (for_each at args e) = args
arguments_in other = no_arguments

pub loop_view : (init : Vec Arg Global) (test : Expr) (step : Vec Arg Global) (body : Box Elem Global) (at : Place)
    → element_of (Loop init test step body at) ≡ for_loop at (arguments init.items) (expression_of test)
    (arguments step.items) (element_of body.value)
loop_view init test step body at =
    ap₂ (λ a b. for_loop at a (expression_of test) b (element_of body.value)) (ap arguments_in (for_view init body at))
    (ap arguments_in (for_view step body at))

pub let_element_view : (args : Vec Arg Global) (body : Box Elem Global) (at : Place) → element_of (ElemLet args body at)
    ≡ let_element at (arguments args.items) (element_of body.value)
let_element_view args body at = search (rules, the_lemmas, arguments_rows)
