-- An empty member is skipped, another is kept, and at the end all members were seen.
use Rattle.std.proofs.Common.{◌≡◌, ◌∙◌, ◌&&◌, Bool, true, false, List, [], ◌∷◌, ◌++◌, ap, ap₂, sym}
use Rattle.std.proofs.lemmas.List.{map-id}
use Rattle.std.proofs.lemmas.List.Folds.{list_all-append}
use Rattle.std.specs.List.{list_all}
use Rattle.std.proofs.lemmas.Iterator.Consumers.{YieldsList-end}
use Rattle.std.proofs.lemmas.Iterator.Adapters.{YieldsList-from_vec}
use Rattle.scad_tree.specs.View.{solid_of, solids}
use Rattle.scad_tree.specs.Normal.{is_nothing, is_kept, not_empty}
use Rattle.scad_tree.specs.Solid.{Solid}
use Rattle.scad_tree.specs.declared.node.Node.{Node}
use Rattle.scad_tree.proofs.NormalForm.{normal_kept, not_empty_skips, not_empty_keeps}
use Rattle.scad_tree.proofs.Rows.{both}
use Rattle.scad_tree.proofs.operations.full.Goals as goal

-- an empty member
skipped : (nodes : List Solid) (seen : List Node) (member node : Node) (empty : Bool) → node ≡ member
    → empty ≡ is_nothing (solid_of node) → empty ≡ true
    → (nodes ≡ not_empty (solids seen)) × (list_all is_kept nodes ≡ true)
    → (nodes ≡ not_empty (solids (seen ++ member ∷ []))) × (list_all is_kept nodes ≡ true)
skipped nodes seen member node empty same is said so_far = (
  so_far.0 ∙ sym (not_empty_skips seen member (ap (λ n. is_nothing (solid_of n)) (sym same) ∙ sym is ∙ said)),
  so_far.1,
)

pub loop-member-init : goal.loop-member-init
loop-member-init c =
    let none = c.new-nodes.ensures.items in (ap solids none, ap (λ ns. list_all is_kept (solids ns)) none)

pub loop-member-preserved : goal.loop-member-preserved
loop-member-preserved c =
    skipped (solids c.loop-member.nodes.items) c.loop-member.yielded c.in-Some.member c.into_node-node.result
    c.is_empty.result c.into_node-node.ensures.same c.is_empty.ensures c.if-not-is_empty.false c.loop-member.invariant

pub loop-member-preserved-else-not-is_empty : goal.loop-member-preserved-else-not-is_empty
loop-member-preserved-else-not-is_empty c =
    skipped (solids c.loop-member.nodes.items) c.loop-member.yielded c.in-Some.member c.into_node-node.result
    c.is_empty.result c.into_node-node.ensures.same c.is_empty.ensures c.if-not-is_empty.false c.loop-member.invariant

pub loop-member-preserved-else-not-is_empty-2 : goal.loop-member-preserved-else-not-is_empty-2
loop-member-preserved-else-not-is_empty-2 c =
    skipped (solids c.loop-member.nodes.items) c.loop-member.yielded c.in-Some.member c.into_node-node.result
    c.is_empty.result c.into_node-node.ensures.same c.is_empty.ensures c.if-not-is_empty.false c.loop-member.invariant

pub loop-member-preserved-else-not-is_empty-3 : goal.loop-member-preserved-else-not-is_empty-3
loop-member-preserved-else-not-is_empty-3 c =
    skipped (solids c.loop-member.nodes.items) c.loop-member.yielded c.in-Some.member c.into_node-node.result
    c.is_empty.result c.into_node-node.ensures.same c.is_empty.ensures c.if-not-is_empty.false c.loop-member.invariant

pub loop-member-preserved-else-not-is_empty-4 : goal.loop-member-preserved-else-not-is_empty-4
loop-member-preserved-else-not-is_empty-4 c =
    skipped (solids c.loop-member.nodes.items) c.loop-member.yielded c.in-Some.member c.into_node-node.result
    c.is_empty.result c.into_node-node.ensures.same c.is_empty.ensures c.if-not-is_empty.false c.loop-member.invariant

pub returns : goal.returns
returns c =
    let ended = YieldsList-end (YieldsList-from_vec c.args.members.items (cc) (cc)) c.loop-member.yielded
    c.loop-member.member-iterator c.loop-member.yielded_by c.next.result c.next.new.self c.in-None.is
    c.next.ensures.steps in
    let all : c.loop-member.yielded ≡ c.args.members.items = sym (map-id c.loop-member.yielded) ∙ ended.0 in
    record {
      full = c.loop-member.invariant.0 ∙ ap (λ ns. not_empty (solids ns)) all;
      kept = c.loop-member.invariant.1;
    }

pub loop-member-preserved-in-Continue-1 : goal.loop-member-preserved-in-Continue-1
loop-member-preserved-in-Continue-1 c =
    let member : Node = c.in-Some.member in
    let here : List Solid = solid_of member ∷ [] in
    let before : List Solid = solids c.loop-member.nodes.items in
    let some : is_nothing (solid_of member) ≡ false =
    ap (λ n. is_nothing (solid_of n)) (sym c.into_node-node.ensures.same) ∙ sym c.is_empty.ensures
    ∙ c.if-not-is_empty.true in
    let grown : solids c.push.new.self.items ≡ before ++ here =
    ap solids c.in_ok-push.ensures.items ∙ both c.loop-member.nodes.items (c.into_node-node.result ∷ [])
    ∙ ap (λ n. before ++ solid_of n ∷ []) c.into_node-node.ensures.same in (
      grown ∙ ap (λ (ss : List Solid). ss ++ here) c.loop-member.invariant.0
          ∙ sym (not_empty_keeps c.loop-member.yielded member some),
      ap (list_all is_kept) grown ∙ list_all-append is_kept before here
          ∙ ap₂ (λ a b. a && (b && true)) c.loop-member.invariant.1
          (normal_kept (solid_of member) c.into_node-node.ensures.normal some),
    )
