use Rattle.std.proofs.Common.{◌≡◌, ◌++◌, ◌∙◌, true, ap, ap₂, sym, subst}
use Rattle.std.proofs.lemmas.List.{map-id}
use Rattle.std.proofs.lemmas.Iterator.Consumers.{YieldsList-end}
use Rattle.std.proofs.lemmas.Iterator.Adapters.{YieldsList-from_vec}
use Rattle.std.specs.List.{flat_map, list_all}
use Rattle.scad_tree.specs.View.{solid_of, solids}
use Rattle.scad_tree.specs.Normal.{parts, is_apart, is_normal, union_of, united}
use Rattle.scad_tree.proofs.NormalForm.{union_normal, parts_more, parts_apart, all_more}
use Rattle.scad_tree.proofs.operations.unite.Goals as goal

pub from_normal-requires : goal.from_normal-requires
from_normal-requires c = subst (λ s. is_normal s ≡ true) (sym c.union_of.ensures)
    (union_normal (solids c.loop-member.parts.items) c.loop-member.invariant.1)

pub loop-member-preserved : goal.loop-member-preserved
loop-member-preserved c =
    let added = c.in_ok-push_parts.ensures in
    let node = c.into_node.result in
    let normal = ap (λ n. is_normal (solid_of n)) c.into_node.ensures.same ∙ c.into_node.ensures.normal in (
      added ∙ ap₂ (λ ss n. ss ++ parts (solid_of n)) c.loop-member.invariant.0 c.into_node.ensures.same ∙ sym
          (parts_more c.loop-member.yielded c.in-Some.member),
      subst (λ ss. list_all is_apart ss ≡ true) (sym added) (all_more is_apart (solids c.loop-member.parts.items)
          (parts (solid_of node)) c.loop-member.invariant.1 (parts_apart (solid_of node) normal)),
    )

pub returns : goal.returns
unfolding united
returns c =
    let ended = YieldsList-end (YieldsList-from_vec c.args.members.items (cc) (cc)) c.loop-member.yielded
    c.loop-member.member-iterator c.loop-member.yielded_by c.next.result c.next.new.self c.in-None.is
    c.next.ensures.steps in
    let all : c.loop-member.yielded ≡ c.args.members.items = sym (map-id c.loop-member.yielded) ∙ ended.0 in
    ap solid_of c.from_normal.ensures ∙ c.union_of.ensures ∙ ap union_of (c.loop-member.invariant.0 ∙ ap
    (λ ns. flat_map parts (solids ns)) all)
