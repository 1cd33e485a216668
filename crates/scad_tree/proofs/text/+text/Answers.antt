-- The lines of an operation stand below its own, and its leaves are those of its parts.
use Rattle.std.proofs.Common.{◌≡◌, ◌+◌, ◌++◌, ap, ap₂, sym, ◌∙◌}
use Rattle.scad_tree.specs.Order.{leaves, all_leaves}
use Rattle.scad_tree.specs.Solid.{members, difference}
use Rattle.scad_tree.specs.Text.{line, lines, all_lines, union_name, intersection_name, difference_name}
use Rattle.scad_tree.specs.View.{solid_of, solids}
use Rattle.scad_tree.proofs.Lines.{pieces, three_pieces, behind, numbered_more, numbered_end, written_more, written_end}
use Rattle.scad_tree.proofs.Rows.{at_union, at_inter, at_diff}
use Rattle.scad_tree.proofs.text.+text.Goals as goal

pub push_node-returns-in_ok-after-in-Union-clause-text : goal.push_node-returns-in_ok-after-in-Union-clause-text
push_node-returns-in_ok-after-in-Union-clause-text t c =
    let a = c.args in
    pieces a.out.now.items _ _ _ _ _ c.in_ok-push_union-in-Union.ensures c.in_ok-after-in-Union.ensures.text
    (ap (lines a.level a.leaf) (at_union a.node.now c.in-Union.members c.in-Union.is)
    ∙ ap₂ (λ k ns. line a.level union_name ++ all_lines k a.leaf (members (solids ns)))
    (sym c.in_ok-next-in-Union.ensures) (sym c.deref.ensures.value))

pub push_node-returns-in_ok-after-in-Inter-clause-text : goal.push_node-returns-in_ok-after-in-Inter-clause-text
push_node-returns-in_ok-after-in-Inter-clause-text t c =
    let a = c.args in
    pieces a.out.now.items _ _ _ _ _ c.in_ok-push_intersection-in-Inter.ensures c.in_ok-after-in-Inter.ensures.text
    (ap (lines a.level a.leaf) (at_inter a.node.now c.in-Inter.members c.in-Inter.is)
    ∙ ap₂ (λ k ns. line a.level intersection_name ++ all_lines k a.leaf (members (solids ns)))
    (sym c.in_ok-next-in-Inter.ensures) (sym c.deref-in-Inter.ensures.value))

pub push_node-returns-in_ok-after-in-Diff-clause-text : goal.push_node-returns-in_ok-after-in-Diff-clause-text
push_node-returns-in_ok-after-in-Diff-clause-text t c =
    let a = c.args in
    let name = line a.level difference_name in
    let first = solid_of c.in-Diff.first.value in
    let rest = members (solids c.in-Diff.rest.items) in
    let inner : a.level + 1 ≡ c.in_ok-inner-in-Diff.inner = sym c.in_ok-inner-in-Diff.ensures in
    let same_first : first ≡ solid_of c.deref-in-Diff.result.now = ap solid_of (sym c.deref-in-Diff.ensures) in
    let same_rest : rest ≡ members (solids c.deref-in-Diff-2.result.now) = ap (λ ns. members (solids ns))
    (sym c.deref-in-Diff-2.ensures.value) in
    let leaf : a.leaf + leaves first ≡ c.in_ok-leaf-in-Diff.leaf = ap (λ s. a.leaf + leaves s) same_first ∙ sym
    c.in_ok-leaf-in-Diff.ensures.next in
    let whole : lines a.level a.leaf (difference first rest) ≡ name ++ lines c.in_ok-inner-in-Diff.inner a.leaf
    (solid_of c.deref-in-Diff.result.now) ++ all_lines c.in_ok-inner-in-Diff.inner c.in_ok-leaf-in-Diff.leaf
    (members (solids c.deref-in-Diff-2.result.now)) =
    (λ i. name ++ lines (inner i) a.leaf (same_first i) ++ all_lines (inner i) (leaf i) (same_rest i)) in
    three_pieces a.out.now.items _ _ _ name (lines c.in_ok-inner-in-Diff.inner a.leaf
    (solid_of c.deref-in-Diff.result.now)) (all_lines c.in_ok-inner-in-Diff.inner c.in_ok-leaf-in-Diff.leaf
    (members (solids c.deref-in-Diff-2.result.now))) _
    c.in_ok-push_difference-in-Diff.ensures c.in_ok-leaf-in-Diff.ensures.text c.in_ok-after-in-Diff.ensures.text
    (ap (lines a.level a.leaf) (at_diff a.node.now c.in-Diff.first c.in-Diff.rest c.in-Diff.is) ∙ whole)

pub push_node-returns-in_ok-after-in-Diff-clause-next : goal.push_node-returns-in_ok-after-in-Diff-clause-next
push_node-returns-in_ok-after-in-Diff-clause-next t c =
    let a = c.args in
    let first = solid_of c.in-Diff.first.value in
    let rest = members (solids c.in-Diff.rest.items) in
    behind a.leaf c.in_ok-leaf-in-Diff.leaf c.in_ok-after-in-Diff.after first rest
    (c.in_ok-leaf-in-Diff.ensures.next ∙ ap (λ n. a.leaf + leaves (solid_of n)) c.deref-in-Diff.ensures)
    (c.in_ok-after-in-Diff.ensures.next ∙ ap (λ ns. c.in_ok-leaf-in-Diff.leaf + all_leaves (members (solids ns)))
    c.deref-in-Diff-2.ensures.value)
    ∙ ap (λ s. a.leaf + leaves s) (sym (at_diff a.node.now c.in-Diff.first c.in-Diff.rest c.in-Diff.is))

pub push_node-returns-in_ok-after-in-Union-clause-next : goal.push_node-returns-in_ok-after-in-Union-clause-next
push_node-returns-in_ok-after-in-Union-clause-next t c =
    let a = c.args in
    c.in_ok-after-in-Union.ensures.next
    ∙ ap (λ ns. a.leaf + all_leaves (members (solids ns))) c.deref.ensures.value
    ∙ ap (λ s. a.leaf + leaves s) (sym (at_union a.node.now c.in-Union.members c.in-Union.is))

pub push_node-returns-in_ok-after-in-Inter-clause-next : goal.push_node-returns-in_ok-after-in-Inter-clause-next
push_node-returns-in_ok-after-in-Inter-clause-next t c =
    let a = c.args in
    c.in_ok-after-in-Inter.ensures.next
    ∙ ap (λ ns. a.leaf + all_leaves (members (solids ns))) c.deref-in-Inter.ensures.value
    ∙ ap (λ s. a.leaf + leaves s) (sym (at_inter a.node.now c.in-Inter.members c.in-Inter.is))

pub push_members-loop-node-preserved : goal.push_members-loop-node-preserved
push_members-loop-node-preserved t c = record {
  written = written_more c.args.level c.loop-node.leaf c.in_ok-leaf.leaf c.loop-node.out.items
      c.push_node.new.out.items _ c.args.nodes.now c.loop-node.node-index c.node-item.result c.loop-node-test.true
      c.node-item.is c.in_ok-leaf.ensures.text c.in_ok-leaf.ensures.next c.loop-node.invariant.written;
  numbered = numbered_more c.loop-node.leaf c.in_ok-leaf.leaf _ c.args.nodes.now c.loop-node.node-index
      c.node-item.result c.loop-node-test.true c.node-item.is c.in_ok-leaf.ensures.next c.loop-node.invariant.numbered;
}

pub push_members-returns-clause-text : goal.push_members-returns-clause-text
push_members-returns-clause-text t c = written_end c.args.level c.loop-node.leaf c.loop-node.out.items _
    c.args.nodes.now c.loop-node.node-index c.loop-node-test.false c.loop-node.invariant.written

pub push_members-returns-clause-next : goal.push_members-returns-clause-next
push_members-returns-clause-next t c = numbered_end c.loop-node.leaf _ c.args.nodes.now c.loop-node.node-index
    c.loop-node-test.false c.loop-node.invariant.numbered
