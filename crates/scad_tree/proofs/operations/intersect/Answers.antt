-- One member more that isn't empty, an empty one, and the end of them.
use Rattle.std.proofs.Common.{◌≡◌, ◌∙◌, ◌&&◌, ◌||◌, true, false, List, [], ◌∷◌, ◌++◌, refl, ap, ap₂, sym, subst}
use Rattle.std.proofs.lemmas.List.{map-id}
use Rattle.std.proofs.lemmas.List.Folds.{list_all-append, list_any-append}
use Rattle.std.specs.List.{list_all, list_any}
use Rattle.std.proofs.lemmas.Iterator.Consumers.{YieldsList-end, YieldsList-turn}
use Rattle.std.proofs.lemmas.Iterator.Adapters.{YieldsList-from_vec}
use Rattle.scad_tree.specs.View.{solid_of, solids}
use Rattle.scad_tree.specs.Normal.{is_nothing, is_kept, is_normal, intersection_of, intersected}
use Rattle.scad_tree.specs.Solid.{Solid}
use Rattle.scad_tree.specs.declared.node.Node.{Node}
use Rattle.scad_tree.proofs.NormalForm.{normal_kept, intersection_normal}
use Rattle.scad_tree.proofs.NormalForm.{intersected_empty, intersected_full, found_empty}
use Rattle.scad_tree.proofs.Rows.{both}
use Rattle.scad_tree.proofs.operations.intersect.Goals as goal

pub returns-then-is_empty : goal.returns-then-is_empty
returns-then-is_empty c =
    let turn = YieldsList-turn (YieldsList-from_vec c.args.members.items (cc) (cc)) c.loop-member.yielded
    c.loop-member.member-iterator c.loop-member.yielded_by c.next.result c.next.new.self c.in-Some.member
    c.in-Some.is c.next.ensures.steps in
    let empty : is_nothing (solid_of c.in-Some.member) ≡ true = ap (λ n. is_nothing (solid_of n))
    (sym c.into_node-node.ensures.same) ∙ sym c.is_empty.ensures ∙ c.if-is_empty.true in
    c.empty.ensures ∙ sym (intersected_empty (solids c.args.members.items) (found_empty c.args.members.items _
    c.in-Some.member turn.0 turn.1 empty))

pub from_normal-requires : goal.from_normal-requires
from_normal-requires c = subst (λ s. is_normal s ≡ true) (sym c.intersection_of.ensures)
    (intersection_normal (solids c.loop-member.nodes.items) c.loop-member.invariant.1)

pub returns : goal.returns
returns c =
    let ended = YieldsList-end (YieldsList-from_vec c.args.members.items (cc) (cc)) c.loop-member.yielded
    c.loop-member.member-iterator c.loop-member.yielded_by c.next.result c.next.new.self c.in-None.is
    c.next.ensures.steps in
    let all : c.loop-member.yielded ≡ c.args.members.items = sym (map-id c.loop-member.yielded) ∙ ended.0 in
    ap solid_of c.from_normal.ensures ∙ c.intersection_of.ensures ∙ ap intersection_of c.loop-member.invariant.0
    ∙ sym (intersected_full (solids c.loop-member.yielded) c.loop-member.invariant.2) ∙ ap
    (λ ns. intersected (solids ns)) all

pub loop-member-init : goal.loop-member-init
loop-member-init c =
    let none = c.new-nodes.ensures.items in (ap solids none, ap (λ ns. list_all is_kept (solids ns)) none, refl)

pub loop-member-preserved : goal.loop-member-preserved
loop-member-preserved c =
    let member : Node = c.in-Some.member in
    let seen : List Node = c.loop-member.yielded in
    let here : List Solid = solid_of member ∷ [] in
    let before : List Solid = solids c.loop-member.nodes.items in
    let some : is_nothing (solid_of member) ≡ false =
    ap (λ n. is_nothing (solid_of n)) (sym c.into_node-node.ensures.same) ∙ sym c.is_empty.ensures
    ∙ c.if-is_empty.false in
    let grown : solids c.push.new.self.items ≡ before ++ here =
    ap solids c.in_ok-push.ensures.items ∙ both c.loop-member.nodes.items (c.into_node-node.result ∷ [])
    ∙ ap (λ n. before ++ solid_of n ∷ []) c.into_node-node.ensures.same in (
      grown ∙ ap (λ (ss : List Solid). ss ++ here) c.loop-member.invariant.0 ∙ sym (both seen (member ∷ [])),
      ap (list_all is_kept) grown ∙ list_all-append is_kept before here
          ∙ ap₂ (λ a b. a && (b && true)) c.loop-member.invariant.1
          (normal_kept (solid_of member) c.into_node-node.ensures.normal some),
      ap (list_any is_nothing) (both seen (member ∷ [])) ∙ list_any-append is_nothing (solids seen) here
          ∙ ap₂ (λ a b. a || (b || false)) c.loop-member.invariant.2 some,
    )
