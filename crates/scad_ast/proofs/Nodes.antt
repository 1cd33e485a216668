-- The text of a tree is that of the form which it has.
use Rattle.std.proofs.Common.{◌≡◌, Bool, sym, ap, ◌∙◌}
use Rattle.std.specs.Prelude.{if◌then◌else◌}
use Rattle.scad_fault.specs.declared.place.Place.{Place}
use Rattle.scad_ast.specs.declared.expression.Expr.{Expr}
use Rattle.scad_ast.specs.declared.expression.Node.{Node}
use Rattle.scad_ast.specs.declared.expression.Elem.{Elem}
use Rattle.scad_ast.specs.declared.statement.Item.{Item}
use Rattle.scad_ast.specs.declared.statement.StmtBody.{StmtBody}
use Rattle.scad_ast.specs.Tree.{Expression, Element}
use Rattle.scad_ast.specs.Tree.{Item as TreeItem}
use Rattle.scad_ast.specs.View.{expression_at, expression_of, element_of}
use Rattle.scad_ast.specs.Scope.{item_of, body_of}
use Rattle.scad_ast.specs.Text.{expression_text, element_text, item_text, stands_alone, in_parentheses, enclosed}
use Rattle.text_scan.specs.Printing.{Printed, Adds}
use Rattle.text_scan.proofs.Printed.{that}

pub expression_is : (e : Expr) {n : Node} {tree : Expression} {o1 o2 : Printed} → e.node ≡ n
    → expression_at e.at n ≡ tree → Adds (expression_text tree) o1 o2 → Adds (expression_text (expression_of e)) o1 o2
expression_is e is view x = that (ap expression_text (sym (ap (expression_at e.at) is ∙ view))) x

pub element_is : {e n : Elem} {tree : Element} {o1 o2 : Printed} → e ≡ n → element_of n ≡ tree
    → Adds (element_text tree) o1 o2 → Adds (element_text (element_of e)) o1 o2
element_is is view x = that (ap element_text (sym (ap element_of is ∙ view))) x

-- where the form has no parts that are trees, its text is that of what it holds
pub leaf_is : (e : Expr) {n : Node} {o1 o2 : Printed} → e.node ≡ n → Adds (expression_text (expression_at e.at n)) o1 o2
    → Adds (expression_text (expression_of e)) o1 o2
leaf_is e is x = that (ap (λ (n : Node). expression_text (expression_at e.at n)) (sym is)) x

pub element_leaf_is : {e n : Elem} {o1 o2 : Printed} → e ≡ n → Adds (element_text (element_of n)) o1 o2
    → Adds (element_text (element_of e)) o1 o2
element_leaf_is is x = that (ap (λ (n : Elem). element_text (element_of n)) (sym is)) x

-- an operand that stands alone is printed as it is, and any other one in parentheses
pub enclosed_is : (e : Expression) {alone : Bool} {o1 o2 : Printed} → alone ≡ stands_alone e
    → Adds (if alone then expression_text e else in_parentheses (expression_text e)) o1 o2
    → Adds (enclosed e (expression_text e)) o1 o2
enclosed_is e is x =
    that (ap (λ (b : Bool). if b then expression_text e else in_parentheses (expression_text e)) is) x

pub item_is : {i n : Item} {tree : TreeItem} {o1 o2 : Printed} → i ≡ n → item_of n ≡ tree
    → Adds (item_text tree) o1 o2 → Adds (item_text (item_of i)) o1 o2
item_is is view x = that (ap item_text (sym (ap item_of is ∙ view))) x

pub body_is : (at : Place) (percent hash : Bool) {b n : StmtBody} {tree : TreeItem} {o1 o2 : Printed} → b ≡ n
    → body_of at percent hash n ≡ tree → Adds (item_text tree) o1 o2
    → Adds (item_text (body_of at percent hash b)) o1 o2
body_is at percent hash is view x = that (ap item_text (sym (ap (body_of at percent hash) is ∙ view))) x
