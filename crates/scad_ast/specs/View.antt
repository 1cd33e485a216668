-- The tree that a value in memory is.
use Rattle.std.specs.Prelude.{List, [], ◌∷◌}
use Rattle.scad_fault.specs.declared.place.Place.{Place}
use Rattle.scad_ast.specs.declared.expression.Node.{Node, Undef, Bool, Number, Str, Name, List', Range', Unary', Binary', Choose', Index', Member', Call', Let', Assert', Echo', Row_of-Arg, end_of-Arg, more_of-Arg, Row_of-Elem, end_of-Elem, more_of-Elem, Held-Node-Range-1, Node-Range-1-None', Node-Range-1-Some'}
use Rattle.scad_ast.specs.declared.expression.Elem.{Elem, Item', Each', For', Loop', If', Held-Elem-If-2, Elem-If-2-None', Elem-If-2-Some'}
use Rattle.scad_ast.specs.declared.expression.Elem.{Let' as ElemLet'}
use Rattle.scad_ast.specs.declared.expression.Expr.{Expr}
use Rattle.scad_ast.specs.declared.expression.Arg.{Arg}
use Rattle.scad_ast.specs.Tree.{Expression, undef, boolean, number, string, name, vector, range, stepped, unary, binary, choose, index, member, call, let_in, assert_in, echo_in, Arguments, no_arguments, argument, Elements, no_elements, element, Element, item, each, for_each, for_loop, let_element, if_element, if_else}

abbrev mutual
  -- an expression whose place is at
  pub expression_at : Place → Node → Expression
  expression_at at Undef = undef at
  expression_at at (Bool b) = boolean at b
  expression_at at (Number n) = number at n
  expression_at at (Str chars) = string at chars
  expression_at at (Name word) = name at word
  expression_at at (List' shape all) = vector at (elements_of all)
  expression_at at (Range' p a s step q b e) = range_of at (expression_at a s) step (expression_at b e)
  expression_at at (Unary' op p a n) = unary at op (expression_at a n)
  expression_at at (Binary' op p a m q b n) = binary at op (expression_at a m) (expression_at b n)
  expression_at at (Choose' p a l q b m r c n) = choose at (expression_at a l) (expression_at b m) (expression_at c n)
  expression_at at (Index' p a m q b n) = index at (expression_at a m) (expression_at b n)
  expression_at at (Member' p a n word) = member at (expression_at a n) word
  expression_at at (Call' word shape all) = call at word (arguments_of all)
  expression_at at (Let' shape all p a n) = let_in at (arguments_of all) (expression_at a n)
  expression_at at (Assert' shape all p a n) = assert_in at (arguments_of all) (expression_at a n)
  expression_at at (Echo' shape all p a n) = echo_in at (arguments_of all) (expression_at a n)

  pub range_of : Place → Expression → Held-Node-Range-1 → Expression → Expression
  range_of at start Node-Range-1-None' end = range at start end
  range_of at start (Node-Range-1-Some' p a n) end = stepped at start (expression_at a n) end

  pub arguments_of : {m : _} → Row_of-Arg m → Arguments
  arguments_of end_of-Arg = no_arguments
  arguments_of (more_of-Arg word at node rest) = argument word (expression_at at node) (arguments_of rest)

  pub elements_of : {m : _} → Row_of-Elem m → Elements
  elements_of end_of-Elem = no_elements
  elements_of (more_of-Elem e rest) = element (element_of e) (elements_of rest)

  pub element_of : Elem → Element
  element_of (Item' a n) = item (expression_at a n)
  element_of (Each' p e at) = each at (element_of e)
  element_of (For' shape all p e at) = for_each at (arguments_of all) (element_of e)
  element_of (Loop' s starts a n t steps p e at) = for_loop at (arguments_of starts) (expression_at a n) (arguments_of steps) (element_of e)
  element_of (ElemLet' shape all p e at) = let_element at (arguments_of all) (element_of e)
  element_of (If' a n p e other at) = if_of at (expression_at a n) (element_of e) other

  pub if_of : Place → Expression → Element → Held-Elem-If-2 → Element
  if_of at test held Elem-If-2-None' = if_element at test held
  if_of at test held (Elem-If-2-Some' p e) = if_else at test held (element_of e)

-- the tree of an expression
abbrev pub expression_of : Expr → Expression
expression_of e = expression_at e.at e.node

-- what a list of arguments is, before more of them
abbrev pub arguments_onto : List Arg → Arguments → Arguments
arguments_onto [] more = more
arguments_onto (a ∷ all) more = argument a.name (expression_of a.value) (arguments_onto all more)

abbrev pub elements_onto : List Elem → Elements → Elements
elements_onto [] more = more
elements_onto (e ∷ all) more = element (element_of e) (elements_onto all more)

-- what a list of arguments is
abbrev pub arguments : List Arg → Arguments
arguments all = arguments_onto all no_arguments

abbrev pub elements : List Elem → Elements
elements all = elements_onto all no_elements
