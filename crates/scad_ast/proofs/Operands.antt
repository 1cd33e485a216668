-- The parts of an expression in memory stand in the tree in the order in which they are written.
use Rattle.std.proofs.Common.{◌≡◌, ℕ, List, Box, Global, Some, None, refl}
use Rattle.scad_fault.specs.declared.place.Place.{Place}
use Rattle.scad_ast.specs.declared.operator.UnOp.{UnOp}
use Rattle.scad_ast.specs.declared.operator.BinOp.{BinOp}
use Rattle.scad_ast.specs.declared.expression.Node.{Unary, Binary, Choose, Index, Member, Range}
use Rattle.scad_ast.specs.declared.expression.Elem.{Elem, If}
use Rattle.scad_ast.specs.declared.expression.Expr.{Expr}
use Rattle.scad_ast.specs.Tree.{unary, binary, choose, index, member, range, stepped, if_element, if_else}
use Rattle.scad_ast.specs.View.{expression_at, expression_of, element_of}

pub unary_view : (at : Place) (op : UnOp) (a : Box Expr Global) → expression_at at (Unary op a) ≡ unary at op
    (expression_of a.value)
unary_view at op a = refl

pub binary_view : (at : Place) (op : BinOp) (a b : Box Expr Global) → expression_at at (Binary op a b) ≡ binary at op
    (expression_of a.value) (expression_of b.value)
binary_view at op a b = refl

pub choose_view : (at : Place) (test chosen other : Box Expr Global) → expression_at at (Choose test chosen other)
    ≡ choose at (expression_of test.value) (expression_of chosen.value) (expression_of other.value)
choose_view at test chosen other = refl

pub index_view : (at : Place) (a i : Box Expr Global) → expression_at at (Index a i) ≡ index at (expression_of a.value)
    (expression_of i.value)
index_view at a i = refl

pub member_view : (at : Place) (a : Box Expr Global) (word : List ℕ) → expression_at at (Member a word) ≡ member at
    (expression_of a.value) word
member_view at a word = refl

pub range_view : (at : Place) (start end : Box Expr Global) → expression_at at (Range start None end)
    ≡ range at (expression_of start.value) (expression_of end.value)
range_view at start end = refl

pub stepped_view : (at : Place) (start step end : Box Expr Global) → expression_at at (Range start (Some step) end)
    ≡ stepped at (expression_of start.value) (expression_of step.value) (expression_of end.value)
stepped_view at start step end = refl

pub if_view : (test : Expr) (held : Box Elem Global) (at : Place) → element_of (If test held None at)
    ≡ if_element at (expression_of test) (element_of held.value)
if_view test held at = refl

pub if_else_view : (test : Expr) (held other : Box Elem Global) (at : Place) → element_of (If test held (Some other) at)
    ≡ if_else at (expression_of test) (element_of held.value) (element_of other.value)
if_else_view test held other at = refl
