-- The child that the next value names, or none is left.
use Rattle.std.proofs.Common.{◌≡◌, [], ◌∷◌, Option, Some, None, subst, sym, ap, ◌∙◌}
use Rattle.std.specs.Prelude.{MatchOption}
use Rattle.scad_ast.specs.Scope.{item_of, items}
use Rattle.scad_tree.specs.Solid.{Solid}
use Rattle.scad_value.specs.View.{datum_of}
use Rattle.scad_value.specs.declared.value.Value.{Value}
use Rattle.scad_expr.specs.Machine.{env_in, along_in}
use Rattle.scad_expr.specs.Runs.{left_in}
use Rattle.scad_expr.proofs.Loops.{twice}
use Rattle.scad_members.specs.Frames.{below_of}
use Rattle.scad_members.specs.Meaning.{member, child, children_by}
use Rattle.scad_members.specs.Stack.{rest, made_in, listed, goes_on}
use Rattle.scad_members.proofs.Onward.{children-next, children-end}
use Rattle.scad_members.proofs.chosen_children.children_by.Goals as goal

pub returns-in-Some-child_named-clause-goes : goal.returns-in-Some-child_named-clause-goes
unfolding child goes_on
returns-in-Some-child_named-clause-goes c = λ h s.
    let scope = items c.args.scope.now.items in
    let others = left_in c.next_value.new.left in
    let next : left_in c.args.more ≡ datum_of c.in-Some.value ∷ others =
    subst (λ (o : Option Value). MatchOption o (left_in c.args.more ≡ []) (λ v. left_in c.args.more
    ≡ datum_of v ∷ others)) c.in-Some.is c.in_ok-value.ensures in
    c.member.ensures.goes h s _
    (children-next h c.args.stack.now.stands scope (left_in c.args.more) (rest c.args.stack.now)
    (made_in c.args.stack.now) s
    (datum_of c.in-Some.value) (Some (item_of c.in-Some-child_named.item.now)) others next c.in-Some-child_named.ensures
    ∙ twice (member (below_of h) c.args.stack.now.stands (env_in h) (along_in h)
    (item_of c.in-Some-child_named.item.now) (made_in c.args.stack.now) s)
    (children_by (below_of h) c.args.stack.now.stands (env_in h) (along_in h) scope others)
    (listed (rest c.args.stack.now) c.args.stack.now.stands h))

pub returns-in-Some-clause-goes : goal.returns-in-Some-clause-goes
unfolding child goes_on
returns-in-Some-clause-goes c = λ h s.
    let others = left_in c.next_value.new.left in
    let next : left_in c.args.more ≡ datum_of c.in-Some.value ∷ others =
    subst (λ (o : Option Value). MatchOption o (left_in c.args.more ≡ []) (λ v. left_in c.args.more
    ≡ datum_of v ∷ others)) c.in-Some.is c.in_ok-value.ensures in
    children-next h c.args.stack.now.stands (items c.args.scope.now.items) (left_in c.args.more) (rest c.args.stack.now)
    (made_in c.args.stack.now) s (datum_of c.in-Some.value) None others next c.in-None-child_named.ensures

pub returns-clause-goes : goal.returns-clause-goes
unfolding goes_on
returns-clause-goes c = λ h s.
    let none : left_in c.args.more ≡ [] =
    subst (λ (o : Option Value). MatchOption o (left_in c.args.more ≡ []) (λ v. left_in c.args.more
    ≡ datum_of v ∷ left_in c.next_value.new.left)) c.in-None.is c.in_ok-value.ensures in
    children-end h c.args.stack.now.stands (items c.args.scope.now.items) (left_in c.args.more) (rest c.args.stack.now)
    (made_in c.args.stack.now) s none
    ∙ ap (λ (t : Solid). rest c.args.stack.now c.args.stack.now.stands h (made_in c.args.stack.now) t s)
    (sym c.empty.ensures)
