-- The shape of an operation is made of those of its parts, one part after another.
use Rattle.std.proofs.Common.{◌≡◌, ◌+◌, ap, ap₂, sym, ◌∙◌}
use Rattle.scad_tree.specs.LeafNumbers.{join, meet, minus, numbered_of, numbered_from, all_numbered, shapes_onto}
use Rattle.scad_tree.specs.Order.{leaves, all_leaves}
use Rattle.scad_tree.specs.Solid.{members}
use Rattle.scad_tree.specs.View.{solid_of, solids}
use Rattle.scad_tree.proofs.Lines.{behind, numbered_more, numbered_end}
use Rattle.scad_tree.proofs.Numbering.{union_shape, inter_shape, diff_shape, shapes_more}
use Rattle.scad_tree.proofs.Rows.{at_union, at_inter, at_diff, left-none}
use Rattle.scad_tree.proofs.shape.+shape.Goals as goal

pub shape_from-returns-in_ok-new-in-Diff-clause-next : goal.shape_from-returns-in_ok-new-in-Diff-clause-next
shape_from-returns-in_ok-new-in-Diff-clause-next t c =
    let a = c.args in
    let first = solid_of c.in-Diff.first.value in
    let rest = members (solids c.in-Diff.rest.items) in
    behind a.leaf c.in_ok-base-in-Diff.leaf c.in_ok-shapes-in-Diff.after first rest
    (c.in_ok-base-in-Diff.ensures.next ∙ ap (λ n. a.leaf + leaves (solid_of n)) c.deref-in-Diff.ensures)
    (c.in_ok-shapes-in-Diff.ensures.next ∙ ap (λ ns. c.in_ok-base-in-Diff.leaf + all_leaves (members (solids ns)))
    c.deref-in-Diff-2.ensures.value)
    ∙ ap (λ s. a.leaf + leaves s) (sym (at_diff a.node.now c.in-Diff.first c.in-Diff.rest c.in-Diff.is))

pub shapes_from-loop-node-preserved : goal.shapes_from-loop-node-preserved
shapes_from-loop-node-preserved t c = record {
  made = shapes_more c.loop-node.shapes.items c.push.new.self.items c.in_ok-shape.shape c.args.nodes.now
      c.loop-node.node-index c.node-item.result c.loop-node.leaf c.in_ok-shape.after _ c.loop-node-test.true
      c.node-item.is c.in_ok-push.ensures.items c.in_ok-shape.ensures.shape c.in_ok-shape.ensures.next
      c.loop-node.invariant.made;
  numbered = numbered_more c.loop-node.leaf c.in_ok-shape.after _ c.args.nodes.now c.loop-node.node-index
      c.node-item.result c.loop-node-test.true c.node-item.is c.in_ok-shape.ensures.next c.loop-node.invariant.numbered;
}

pub shape_from-returns-in_ok-shapes-in-Union-clause-shape : goal.shape_from-returns-in_ok-shapes-in-Union-clause-shape
shape_from-returns-in_ok-shapes-in-Union-clause-shape t c =
    let a = c.args in
    union_shape c.in_ok-shapes-in-Union.shapes
    ∙ ap join (c.in_ok-shapes-in-Union.ensures.shapes
    ∙ ap (λ ns. all_numbered a.leaf (members (solids ns))) c.deref.ensures.value)
    ∙ ap (numbered_from a.leaf) (sym (at_union a.node.now c.in-Union.members c.in-Union.is))

pub shape_from-returns-in_ok-shapes-in-Union-clause-next : goal.shape_from-returns-in_ok-shapes-in-Union-clause-next
shape_from-returns-in_ok-shapes-in-Union-clause-next t c =
    let a = c.args in
    c.in_ok-shapes-in-Union.ensures.next
    ∙ ap (λ ns. a.leaf + all_leaves (members (solids ns))) c.deref.ensures.value
    ∙ ap (λ s. a.leaf + leaves s) (sym (at_union a.node.now c.in-Union.members c.in-Union.is))

pub shape_from-returns-in_ok-shapes-in-Inter-clause-shape : goal.shape_from-returns-in_ok-shapes-in-Inter-clause-shape
shape_from-returns-in_ok-shapes-in-Inter-clause-shape t c =
    let a = c.args in
    inter_shape c.in_ok-shapes-in-Inter.shapes
    ∙ ap meet (c.in_ok-shapes-in-Inter.ensures.shapes
    ∙ ap (λ ns. all_numbered a.leaf (members (solids ns))) c.deref-in-Inter.ensures.value)
    ∙ ap (numbered_from a.leaf) (sym (at_inter a.node.now c.in-Inter.members c.in-Inter.is))

pub shape_from-returns-in_ok-shapes-in-Inter-clause-next : goal.shape_from-returns-in_ok-shapes-in-Inter-clause-next
shape_from-returns-in_ok-shapes-in-Inter-clause-next t c =
    let a = c.args in
    c.in_ok-shapes-in-Inter.ensures.next
    ∙ ap (λ ns. a.leaf + all_leaves (members (solids ns))) c.deref-in-Inter.ensures.value
    ∙ ap (λ s. a.leaf + leaves s) (sym (at_inter a.node.now c.in-Inter.members c.in-Inter.is))

pub shape_from-returns-in_ok-new-in-Diff-clause-shape : goal.shape_from-returns-in_ok-new-in-Diff-clause-shape
shape_from-returns-in_ok-new-in-Diff-clause-shape t c =
    let a = c.args in
    let rest = members (solids c.in-Diff.rest.items) in
    let leaf : c.in_ok-base-in-Diff.leaf ≡ a.leaf + leaves (solid_of c.in-Diff.first.value) =
    c.in_ok-base-in-Diff.ensures.next ∙ ap (λ n. a.leaf + leaves (solid_of n)) c.deref-in-Diff.ensures in
    diff_shape c.in_ok-new-in-Diff.field-0 c.in_ok-shapes-in-Diff.shapes
    ∙ ap₂ minus
    (ap numbered_of c.in_ok-new-in-Diff.ensures.ok ∙ c.in_ok-base-in-Diff.ensures.shape
    ∙ ap (λ n. numbered_from a.leaf (solid_of n)) c.deref-in-Diff.ensures)
    (c.in_ok-shapes-in-Diff.ensures.shapes
    ∙ ap (λ ns. all_numbered c.in_ok-base-in-Diff.leaf (members (solids ns))) c.deref-in-Diff-2.ensures.value
    ∙ ap (λ n. all_numbered n rest) leaf)
    ∙ ap (numbered_from a.leaf) (sym (at_diff a.node.now c.in-Diff.first c.in-Diff.rest c.in-Diff.is))

pub shapes_from-returns-clause-shapes : goal.shapes_from-returns-clause-shapes
shapes_from-returns-clause-shapes t c =
    ap (λ ms. shapes_onto c.loop-node.shapes.items (all_numbered c.loop-node.leaf ms))
    (sym (left-none c.args.nodes.now c.loop-node.node-index c.loop-node-test.false))
    ∙ c.loop-node.invariant.made

pub shapes_from-returns-clause-next : goal.shapes_from-returns-clause-next
shapes_from-returns-clause-next t c = numbered_end c.loop-node.leaf _ c.args.nodes.now c.loop-node.node-index
    c.loop-node-test.false c.loop-node.invariant.numbered
