-- What each kind of expression and element in memory is, and where an element stands.
use Rattle.std.proofs.Common.{◌≡◌, ℕ, List, Vec, Box, Global, None, refl, ap, ap₂, ◌∙◌, sym}
use Rattle.scad_fault.specs.declared.place.Place.{Place}
use Rattle.scad_ast.specs.declared.expression.Elem.{Elem, Item, For, Loop, If}
use Rattle.scad_ast.specs.declared.expression.Elem.{Let as ElemLet}
use Rattle.scad_ast.specs.declared.expression.Node.{Call, Let, Assert, Echo}
use Rattle.scad_ast.specs.declared.expression.Node.{List as ListNode}
use Rattle.scad_ast.specs.declared.expression.Arg.{Arg}
use Rattle.scad_ast.specs.Tree.{vector, call, let_in, assert_in, echo_in, for_each, for_loop, let_element, if_element}
use Rattle.scad_ast.specs.declared.expression.Expr.{Expr}
use Rattle.scad_ast.specs.View.{expression_at, expression_of, element_of, arguments, elements}
use Rattle.scad_ast.proofs.Operands.{binary_view, choose_view, index_view, range_view, stepped_view, if_else_view}
use Rattle.scad_ast.proofs.Rows.{call_view, vector_view, let_view, assert_view, echo_view, for_view, loop_view, let_element_view}
use Rattle.scad_stack.specs.Places.{element_place}
use Rattle.scad_stack.proofs.DepthLeft.{place_of}

-- ---- nodes that hold lists, as the code reads them
pub list_node : (e : Expr) (all : Vec Elem Global) (now : List Elem) → e.node ≡ ListNode all → now ≡ all.items
    → vector e.at (elements now) ≡ expression_of e
list_node e all now is same = ap (λ l. vector e.at (elements l)) same ∙ sym (vector_view e.at all) ∙ ap
    (expression_at e.at) (sym is)

pub call_node : (e : Expr) (word : List ℕ) (args : Vec Arg Global) (name : List ℕ) (now : List Arg)
    → e.node ≡ Call word args → name ≡ word → now ≡ args.items
    → call e.at name (arguments now) ≡ expression_of e
call_node e word args name now is named same =
    ap₂ (λ w l. call e.at w (arguments l)) named same ∙ sym (call_view e.at word args) ∙ ap (expression_at e.at)
    (sym is)

pub let_node : (e : Expr) (args : Vec Arg Global) (body : Box Expr Global) (now : List Arg) (b : Expr)
    → e.node ≡ Let args body → now ≡ args.items → b ≡ body.value
    → let_in e.at (arguments now) (expression_of b) ≡ expression_of e
let_node e args body now b is same inner =
    ap₂ (λ l x. let_in e.at (arguments l) (expression_of x)) same inner ∙ sym (let_view e.at args body) ∙ ap
    (expression_at e.at) (sym is)

pub assert_node : (e : Expr) (args : Vec Arg Global) (body : Box Expr Global) (now : List Arg) (b : Expr)
    → e.node ≡ Assert args body → now ≡ args.items → b ≡ body.value
    → assert_in e.at (arguments now) (expression_of b) ≡ expression_of e
assert_node e args body now b is same inner =
    ap₂ (λ l x. assert_in e.at (arguments l) (expression_of x)) same inner ∙ sym (assert_view e.at args body)
    ∙ ap
    (expression_at e.at) (sym is)

pub echo_node : (e : Expr) (args : Vec Arg Global) (body : Box Expr Global) (now : List Arg) (b : Expr)
    → e.node ≡ Echo args body → now ≡ args.items → b ≡ body.value
    → echo_in e.at (arguments now) (expression_of b) ≡ expression_of e
echo_node e args body now b is same inner =
    ap₂ (λ l x. echo_in e.at (arguments l) (expression_of x)) same inner ∙ sym (echo_view e.at args body) ∙ ap
    (expression_at e.at) (sym is)

pub for_node : (e : Elem) (args : Vec Arg Global) (body : Box Elem Global) (at : Place) (now : List Arg) (b : Elem)
    → e ≡ For args body at → now ≡ args.items → b ≡ body.value
    → for_each at (arguments now) (element_of b) ≡ element_of e
for_node e args body at now b is same inner =
    ap₂ (λ l x. for_each at (arguments l) (element_of x)) same inner ∙ sym (for_view args body at)
    ∙ ap element_of
    (sym is)

pub let_element_node : (e : Elem) (args : Vec Arg Global) (body : Box Elem Global) (at : Place) (now : List Arg)
    (b : Elem) → e ≡ ElemLet args body at → now ≡ args.items → b ≡ body.value
    → let_element at (arguments now)
    (element_of b) ≡ element_of e
let_element_node e args body at now b is same inner =
    ap₂ (λ l x. let_element at (arguments l) (element_of x)) same inner ∙ sym (let_element_view args body at)
    ∙ ap
    element_of (sym is)

pub loop_node : (e : Elem) (starts : Vec Arg Global) (test : Expr) (steps : Vec Arg Global) (body : Box Elem Global)
    (at : Place) (now : List Arg) (later : List Arg) (b : Elem) → e ≡ Loop starts test steps body at
    → now ≡ starts.items → later ≡ steps.items → b ≡ body.value
    → for_loop at (arguments now) (expression_of test)
    (arguments later) (element_of b) ≡ element_of e
loop_node e starts test steps body at now later b is same same2 inner =
    ap₂ (λ l k. for_loop at (arguments l) (expression_of test) (arguments k) (element_of b)) same same2
    ∙ ap (λ x. for_loop at (arguments starts.items) (expression_of test) (arguments steps.items) (element_of x))
    inner
    ∙ sym (loop_view starts test steps body at) ∙ ap element_of (sym is)

pub ruleset views = (
  binary_view,
  choose_view,
  index_view,
  range_view,
  stepped_view,
  call_view,
  vector_view,
  let_view,
  assert_view,
  echo_view,
)

pub if_view : (test : Expr) (held : Box Elem Global) (at : Place)
    → element_of (If test held None at) ≡ if_element at
    (expression_of test) (element_of held.value)
if_view test held at = refl

pub ruleset element_views = (for_view, loop_view, let_element_view, if_else_view, if_view)

-- where an element stands
pub place_of_item : (e : Expr) → element_place (element_of (Item e)) ≡ e.at
place_of_item e = place_of e

pub ruleset places = (place_of_item, for_view, loop_view, let_element_view, if_else_view, if_view)
