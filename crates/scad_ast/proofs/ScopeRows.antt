-- The lists of a scope's items are those of the vectors that hold them.
use Rattle.std.proofs.Common.{◌≡◌, ℕ, Bool, List, [], Vec, Global, ◌∷◌, length, true, false, refl, sym, ap, ◌∙◌, arith, rules}
use Rattle.std.proofs.Common.{vec_len}
use Rattle.std.proofs.lemmas.Bool.{eqb-true, eqb-false}
use Rattle.std.specs.Prelude.{map, ◌==◌}
use Rattle.scad_fault.specs.declared.place.Place.{Place}
use Rattle.scad_ast.specs.declared.expression.Arg.{Arg}
use Rattle.scad_ast.specs.declared.expression.Expr.{Expr}
use Rattle.scad_ast.specs.declared.statement.Param.{Param}
use Rattle.scad_ast.specs.declared.statement.Item.{Item, Assign, Module, Function, Row_of-Item, end_of-Item, more_of-Item, items-the_row-Item}
use Rattle.scad_ast.specs.declared.statement.Item.TheViews.{the_lemmas}
use Rattle.scad_ast.specs.declared.statement.StmtBody.{Call, If}
use Rattle.scad_ast.specs.Tree.{entry, assignment, module_of, function_of, call_of, choice}
use Rattle.scad_ast.specs.Text.{has_items}
use Rattle.scad_ast.specs.View.{expression_of, arguments}
use Rattle.scad_ast.specs.Scope.{item_of, items_of, body_of, items, parameter}

pub items_rows : (m : _) (r : Row_of-Item m) → items_of r ≡ items (items-the_row-Item m r)
items_rows m end_of-Item = refl
items_rows m (more_of-Item i rest) = ap (entry (item_of i)) (items_rows _ rest)

pub module_view : (name : List ℕ) (params : Vec Param Global) (scope : Vec Item Global) (at : Place)
    → item_of (Module name params scope at) ≡ module_of at name (map parameter params.items) (items scope.items)
module_view name params scope at = search (rules, the_lemmas, items_rows)

pub call_view : (at : Place) (percent hash : Bool) (name : List ℕ) (args : Vec Arg Global) (children : Vec Item Global)
    → body_of at percent hash (Call name args children) ≡ call_of at percent hash name (arguments args.items)
    (items children.items)
call_view at percent hash name args children = search (rules, the_lemmas, items_rows)

pub choice_view : (at : Place) (percent hash : Bool) (test : Expr) (held other : Vec Item Global)
    → body_of at percent hash (If test held other) ≡ choice at percent hash (expression_of test) (items held.items)
    (items other.items)
choice_view at percent hash test held other = search (rules, the_lemmas, items_rows)

pub assign_view : (name : List ℕ) (value : Expr) (at : Place) → item_of (Assign name value at)
    ≡ assignment at name (expression_of value)
assign_view name value at = refl

pub function_view : (name : List ℕ) (params : Vec Param Global) (value : Expr) (at : Place)
    → item_of (Function name params value at) ≡ function_of at name (map parameter params.items) (expression_of value)
function_view name params value at = refl

-- ---- whether a scope has items
some_of : (all : List Item) (n : ℕ) → n ≡ length all → (n ≡ 0 → ⊥) → has_items (items all) ≡ true
some_of [] n long some = absurd (some long)
some_of (i ∷ all) n long some = refl

none_of : (all : List Item) (n : ℕ) → n ≡ length all → n ≡ 0 → has_items (items all) ≡ false
none_of [] n long none = refl
none_of (i ∷ all) n long none = absurd (omega (arith, long, none))

pub some_items : (scope : Vec Item Global) {b : Bool} → b ≡ (vec_len scope == 0) → b ≡ false
    → has_items (items scope.items) ≡ true
some_items scope tested some =
    some_of scope.items (vec_len scope) scope.ok.0 (eqb-false (vec_len scope) 0 (sym tested ∙ some))

pub no_items : (scope : Vec Item Global) {b : Bool} → b ≡ (vec_len scope == 0) → b ≡ true
    → has_items (items scope.items) ≡ false
no_items scope tested none =
    none_of scope.items (vec_len scope) scope.ok.0 (eqb-true (vec_len scope) 0 (sym tested ∙ none))
