-- The edges of an operation are those of its parts, one part after another, and so are the numbers of its leaves.
use Rattle.std.proofs.Common.{◌≡◌, ℕ, ◌+◌, List, ◌++◌, refl, ap, sym, ◌∙◌, arith}
use Rattle.std.proofs.lemmas.List.{append-nil}
use Rattle.std.proofs.lemmas.Result.{IfOk-weaker}
use Rattle.scad_geom.specs.declared.level.LeafEdge.{LeafEdge}
use Rattle.scad_solid.specs.declared.triangle.Triangle.{Triangle}
use Rattle.scad_tree.specs.declared.node.Node.{Node, Empty}
use Rattle.scad_tree.specs.Order.{surfaces, all_surfaces, leaves, all_leaves}
use Rattle.scad_tree.specs.Solid.{members, surface}
use Rattle.scad_tree.specs.Sections.{leaf_section, sections_from}
use Rattle.scad_tree.specs.View.{solid_of, solids}
use Rattle.scad_tree.proofs.LeafSections.{sections_append, cut_more, cut_end}
use Rattle.scad_tree.proofs.Lines.{pieces, behind, numbered_more, numbered_end}
use Rattle.scad_tree.proofs.Rows.{at_union, at_inter, at_diff}
use Rattle.scad_tree.proofs.sections.+edges.Goals as goal

pub push_node-returns-in_ok-after-in-Diff-clause-edges : goal.push_node-returns-in_ok-after-in-Diff-clause-edges
push_node-returns-in_ok-after-in-Diff-clause-edges t c =
    let a = c.args in
    let first = solid_of c.in-Diff.first.value in
    let rest = members (solids c.in-Diff.rest.items) in
    let same_first : first ≡ solid_of c.deref-in-Diff.result.now = ap solid_of (sym c.deref-in-Diff.ensures) in
    let same_rest : rest ≡ members (solids c.deref-in-Diff-2.result.now) = ap (λ ns. members (solids ns))
    (sym c.deref-in-Diff-2.ensures.value) in
    let leaf : a.leaf + leaves first ≡ c.in_ok-leaf-in-Diff.leaf = ap (λ s. a.leaf + leaves s) same_first ∙ sym
    c.in_ok-leaf-in-Diff.ensures.next in
    let parts : sections_from a.at.number a.at.height a.leaf (surfaces first) ++ sections_from a.at.number a.at.height
    (a.leaf + leaves first) (all_surfaces rest) ≡ sections_from a.at.number a.at.height a.leaf
    (surfaces (solid_of c.deref-in-Diff.result.now)) ++ sections_from a.at.number a.at.height
    c.in_ok-leaf-in-Diff.leaf (all_surfaces (members (solids c.deref-in-Diff-2.result.now))) =
    (λ i. sections_from a.at.number a.at.height a.leaf (surfaces (same_first i)) ++ sections_from a.at.number
    a.at.height (leaf i) (all_surfaces (same_rest i))) in
    pieces a.out.now.items _ _ (sections_from a.at.number a.at.height a.leaf
    (surfaces (solid_of c.deref-in-Diff.result.now))) (sections_from a.at.number a.at.height
    c.in_ok-leaf-in-Diff.leaf (all_surfaces (members (solids c.deref-in-Diff-2.result.now)))) _
    c.in_ok-leaf-in-Diff.ensures.edges c.in_ok-after-in-Diff.ensures.edges
    (ap (λ s. sections_from a.at.number a.at.height a.leaf (surfaces s)) (at_diff a.node.now c.in-Diff.first
    c.in-Diff.rest c.in-Diff.is)
    ∙ sections_append a.at.number a.at.height a.leaf (surfaces first) (all_surfaces rest) ∙ parts)

pub push_node-returns-in_ok-after-in-Diff-clause-next : goal.push_node-returns-in_ok-after-in-Diff-clause-next
push_node-returns-in_ok-after-in-Diff-clause-next t c =
    let a = c.args in
    let first = solid_of c.in-Diff.first.value in
    let rest = members (solids c.in-Diff.rest.items) in
    behind a.leaf c.in_ok-leaf-in-Diff.leaf c.in_ok-after-in-Diff.after first rest
    (c.in_ok-leaf-in-Diff.ensures.next ∙ ap (λ n. a.leaf + leaves (solid_of n)) c.deref-in-Diff.ensures)
    (c.in_ok-after-in-Diff.ensures.next ∙ ap (λ ns. c.in_ok-leaf-in-Diff.leaf + all_leaves (members (solids ns)))
    c.deref-in-Diff-2.ensures.value)
    ∙ ap (λ s. a.leaf + leaves s) (sym (at_diff a.node.now c.in-Diff.first c.in-Diff.rest c.in-Diff.is))

pub push_members-loop-node-preserved : goal.push_members-loop-node-preserved
push_members-loop-node-preserved t c = record {
  cut = cut_more c.args.at.number c.args.at.height c.loop-node.leaf c.in_ok-after.after c.loop-node.out.items
      c.push_node.new.out.items _ c.args.nodes.now c.loop-node.node-index c.node-item.result c.loop-node-test.true
      c.node-item.is c.in_ok-after.ensures.edges c.in_ok-after.ensures.next c.loop-node.invariant.cut;
  balanced = λ b. c.in_ok-after.ensures.balanced (c.loop-node.invariant.balanced b);
  numbered = numbered_more c.loop-node.leaf c.in_ok-after.after _ c.args.nodes.now c.loop-node.node-index
      c.node-item.result c.loop-node-test.true c.node-item.is c.in_ok-after.ensures.next c.loop-node.invariant.numbered;
}

pub push_node-returns-in_ok-after-in-Union-clause-edges : goal.push_node-returns-in_ok-after-in-Union-clause-edges
push_node-returns-in_ok-after-in-Union-clause-edges t c =
    let a = c.args in
    c.in_ok-after-in-Union.ensures.edges
    ∙ ap (λ ns. a.out.now.items ++ sections_from a.at.number a.at.height a.leaf (all_surfaces (members (solids ns))))
    c.deref.ensures.value
    ∙ ap (λ s. a.out.now.items ++ sections_from a.at.number a.at.height a.leaf (surfaces s))
    (sym (at_union a.node.now c.in-Union.members c.in-Union.is))

pub push_node-returns-in_ok-after-in-Union-clause-next : goal.push_node-returns-in_ok-after-in-Union-clause-next
push_node-returns-in_ok-after-in-Union-clause-next t c =
    let a = c.args in
    c.in_ok-after-in-Union.ensures.next
    ∙ ap (λ ns. a.leaf + all_leaves (members (solids ns))) c.deref.ensures.value
    ∙ ap (λ s. a.leaf + leaves s) (sym (at_union a.node.now c.in-Union.members c.in-Union.is))

pub push_node-returns-in_ok-after-in-Inter-clause-edges : goal.push_node-returns-in_ok-after-in-Inter-clause-edges
push_node-returns-in_ok-after-in-Inter-clause-edges t c =
    let a = c.args in
    c.in_ok-after-in-Inter.ensures.edges
    ∙ ap (λ ns. a.out.now.items ++ sections_from a.at.number a.at.height a.leaf (all_surfaces (members (solids ns))))
    c.deref-in-Inter.ensures.value
    ∙ ap (λ s. a.out.now.items ++ sections_from a.at.number a.at.height a.leaf (surfaces s))
    (sym (at_inter a.node.now c.in-Inter.members c.in-Inter.is))

pub push_node-returns-in_ok-after-in-Inter-clause-next : goal.push_node-returns-in_ok-after-in-Inter-clause-next
push_node-returns-in_ok-after-in-Inter-clause-next t c =
    let a = c.args in
    c.in_ok-after-in-Inter.ensures.next
    ∙ ap (λ ns. a.leaf + all_leaves (members (solids ns))) c.deref-in-Inter.ensures.value
    ∙ ap (λ s. a.leaf + leaves s) (sym (at_inter a.node.now c.in-Inter.members c.in-Inter.is))

pub push_members-returns-clause-edges : goal.push_members-returns-clause-edges
push_members-returns-clause-edges t c = cut_end c.args.at.number c.args.at.height c.loop-node.leaf
    c.loop-node.out.items _ c.args.nodes.now c.loop-node.node-index c.loop-node-test.false c.loop-node.invariant.cut

pub push_members-returns-clause-balanced : goal.push_members-returns-clause-balanced
push_members-returns-clause-balanced t c = c.loop-node.invariant.balanced

pub push_members-returns-clause-next : goal.push_members-returns-clause-next
push_members-returns-clause-next t c = numbered_end c.loop-node.leaf _ c.args.nodes.now c.loop-node.node-index
    c.loop-node-test.false c.loop-node.invariant.numbered

pub push_node-returns-in_ok-after-in-Union-clause-balanced : goal.push_node-returns-in_ok-after-in-Union-clause-balanced
push_node-returns-in_ok-after-in-Union-clause-balanced t c = c.in_ok-after-in-Union.ensures.balanced

pub push_node-returns-in_ok-after-in-Inter-clause-balanced : goal.push_node-returns-in_ok-after-in-Inter-clause-balanced
push_node-returns-in_ok-after-in-Inter-clause-balanced t c = c.in_ok-after-in-Inter.ensures.balanced

pub push_node-returns-in_ok-after-in-Diff-clause-balanced : goal.push_node-returns-in_ok-after-in-Diff-clause-balanced
push_node-returns-in_ok-after-in-Diff-clause-balanced t c = λ so_far.
    c.in_ok-after-in-Diff.ensures.balanced (c.in_ok-leaf-in-Diff.ensures.balanced so_far)

-- a node that is known to be empty or a leaf
no_edges : (layer h leaf : ℕ) (out : List LeafEdge) (n : Node) → n ≡ Empty
    → out ≡ out ++ sections_from layer h leaf (surfaces (solid_of n))
no_edges layer h leaf out n is =
    sym (append-nil out) ∙ ap (λ m. out ++ sections_from layer h leaf (surfaces (solid_of m))) (sym is)

one_leaf : (layer h leaf : ℕ) (old new : List LeafEdge) (n : Node) (ts : List Triangle) → solid_of n ≡ surface ts
    → new ≡ old ++ leaf_section layer h leaf ts → new ≡ old ++ sections_from layer h leaf (surfaces (solid_of n))
one_leaf layer h leaf old new n ts is cut =
    cut ∙ ap (λ es. old ++ es) (sym (append-nil (leaf_section layer h leaf ts)))
    ∙ ap (λ s. old ++ sections_from layer h leaf (surfaces s)) (sym is)

pub push_node-returns-in-Empty-clause-edges : goal.push_node-returns-in-Empty-clause-edges
push_node-returns-in-Empty-clause-edges t c =
    no_edges c.args.at.number c.args.at.height c.args.leaf c.args.out.now.items c.args.node.now c.in-Empty.is

pub push_node-returns-in-Empty-clause-next : goal.push_node-returns-in-Empty-clause-next
push_node-returns-in-Empty-clause-next t c =
    omega (arith, ap (λ n. leaves (solid_of n)) c.in-Empty.is)

pub push_node-returns-in_ok-push_leaf-in-Leaf-clause-edges : goal.push_node-returns-in_ok-push_leaf-in-Leaf-clause-edges
push_node-returns-in_ok-push_leaf-in-Leaf-clause-edges t c =
    let a = c.args in
    IfOk-weaker c.next.result (λ n. n ≡ a.leaf + 1) _
    (λ n after. one_leaf a.at.number a.at.height a.leaf a.out.now.items c.push_leaf.new.out.items a.node.now
    c.in-Leaf.triangles (ap solid_of c.in-Leaf.is) c.in_ok-push_leaf-in-Leaf.ensures.edges) c.next.ensures

pub push_node-returns-in-Empty-clause-balanced : goal.push_node-returns-in-Empty-clause-balanced
push_node-returns-in-Empty-clause-balanced t c = λ so_far. so_far

pub push_node-returns-in_ok-push_leaf-in-Leaf-clause-balanced :
    goal.push_node-returns-in_ok-push_leaf-in-Leaf-clause-balanced
push_node-returns-in_ok-push_leaf-in-Leaf-clause-balanced t c =
    IfOk-weaker c.next.result (λ n. n ≡ c.args.leaf + 1) _ (λ n after. c.in_ok-push_leaf-in-Leaf.ensures.balanced)
    c.next.ensures

pub push_node-returns-in_ok-push_leaf-in-Leaf-clause-next : goal.push_node-returns-in_ok-push_leaf-in-Leaf-clause-next
push_node-returns-in_ok-push_leaf-in-Leaf-clause-next t c =
    IfOk-weaker c.next.result (λ n. n ≡ c.args.leaf + 1) _
    (λ n after. after ∙ ap (λ n. c.args.leaf + leaves (solid_of n)) (sym c.in-Leaf.is)) c.next.ensures

pub push_members-loop-node-init : goal.push_members-loop-node-init
push_members-loop-node-init t c = record { cut = refl; balanced = λ so_far. so_far; numbered = refl }
