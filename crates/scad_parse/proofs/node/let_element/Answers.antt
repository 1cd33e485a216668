use Rattle.std.proofs.Common.{◌≡◌, ap, refl, ◌∙◌}
use Rattle.scad_fault.specs.declared.place.Place.{Place}
use Rattle.scad_ast.specs.declared.expression.Expr.{Expr}
use Rattle.scad_ast.specs.declared.expression.Elem.{Elem, Item, Item', Each', For', Loop', Let', If', Elem-If-2-None'}
use Rattle.scad_ast.specs.declared.expression.Elem.{Elem-If-2-Some'}
use Rattle.scad_ast.specs.Tree.{Arguments, let_element}
use Rattle.scad_ast.specs.View.{arguments, element_of}
use Rattle.scad_ast.proofs.Rows.{let_element_view}
use Rattle.scad_grammar.specs.Lists.{let_of}
use Rattle.scad_parse.proofs.rules.Steps.{boxed_some, boxed_none}
use Rattle.scad_parse.proofs.node.let_element.Goals as goal

-- an element that is no expression
no_item : (e : Elem) (at : Place) (all : Arguments) → ((x : Expr) → e ≡ Item x → ⊥) →
    let_element at all (element_of e) ≡ let_of at all (element_of e)
no_item (Item' a n) at all h = absurd (h (record { at = a; node = n }) refl)
no_item (Each' p e at') at all h = refl
no_item (For' shape row p e at') at all h = refl
no_item (Loop' s starts a n t steps p e at') at all h = refl
no_item (Let' shape row p e at') at all h = refl
no_item (If' a n p e Elem-If-2-None' at') at all h = refl
no_item (If' a n p e (Elem-If-2-Some' q o) at') at all h = refl

pub returns-in_default-boxed : goal.returns-in_default-boxed
returns-in_default-boxed c = boxed_none c.in_default-boxed.is c.boxed.ensures.kept

pub returns-in-Some : goal.returns-in-Some
returns-in-Some c = boxed_some c.in-Some.is c.boxed.ensures.kept
    (let_element_view c.args.args c.in-Some.e c.args.at
    ∙ (ap (λ x. let_element c.args.at (arguments c.args.args.items) (element_of x)) c.in-Some.ensures.tree
    ∙ no_item c.args.e c.args.at (arguments c.args.args.items) c.in_default.not-Item))
