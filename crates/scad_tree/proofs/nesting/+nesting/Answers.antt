-- How deep a node's parts lie is one more than the deepest of them, and the deepest of nodes is found one by one.
use Rattle.std.proofs.Common.{◌≡◌, ℕ, ◌+◌, ◌-◌, ◌<◌, ◌^◌, min, max, ap, ap₂, sym, ◌∙◌, arith}
use Rattle.scad_tree.specs.Nesting.{nesting, deepest}
use Rattle.scad_tree.specs.Solid.{members}
use Rattle.scad_tree.specs.View.{solid_of, solids}
use Rattle.scad_tree.proofs.Rows.{at_union, at_inter, at_diff, left-more, left-none}
use Rattle.scad_tree.proofs.nesting.+nesting.Goals as goal

deeper : (depth found after n rest whole : ℕ) → depth < 2 ^ 32 → found ≡ min n (2 ^ 32 - 1) → after ≡ max depth found
    → min (max depth (max n rest)) (2 ^ 32 - 1) ≡ whole → min (max after rest) (2 ^ 32 - 1) ≡ whole
deeper depth found after n rest whole below e is so_far = omega arith

one_more : (found more inner outer : ℕ) → found ≡ min inner (2 ^ 32 - 1) → more ≡ min (found + 1) (2 ^ 32 - 1)
    → outer ≡ 1 + inner → more ≡ min outer (2 ^ 32 - 1)
one_more found more inner outer e is all = omega arith

either : (left right both m n : ℕ) → left ≡ min m (2 ^ 32 - 1) → right ≡ min n (2 ^ 32 - 1) → both ≡ max left right
    → both ≡ min (max m n) (2 ^ 32 - 1)
either left right both m n e is all = omega arith

pub deepest-loop-node-init : goal.deepest-loop-node-init
deepest-loop-node-init t c = record { in_range = omega arith; reached = omega arith }

pub deepest-loop-node-preserved : goal.deepest-loop-node-preserved
deepest-loop-node-preserved t c =
    let nodes = c.args.nodes.now in
    let i = c.loop-node.node-index in
    let n = c.node-item.result in
    let depth = c.loop-node.depth in
    record {
      in_range = c.max-depth.type_inv;
      reached = deeper depth c.nesting.result c.max-depth.result (nesting (solid_of n)) _ _
          c.loop-node.invariant.in_range c.nesting.ensures c.max-depth.ensures
          (ap (λ ms. min (max depth (deepest ms)) (2 ^ 32 - 1))
          (sym (left-more nodes i n c.loop-node-test.true c.node-item.is))
          ∙ c.loop-node.invariant.reached);
    }

pub deepest-returns : goal.deepest-returns
deepest-returns t c =
    let past = ap deepest (left-none c.args.nodes.now c.loop-node.node-index c.loop-node-test.false) in
    omega (arith, past)

pub nesting-returns-in-Empty : goal.nesting-returns-in-Empty
nesting-returns-in-Empty t c = omega (arith, ap (λ n. nesting (solid_of n)) c.in-Empty.is)

pub nesting-returns-in-Leaf : goal.nesting-returns-in-Leaf
nesting-returns-in-Leaf t c = omega (arith, ap (λ n. nesting (solid_of n)) c.in-Leaf.is)

pub nesting-returns-in-Union : goal.nesting-returns-in-Union
nesting-returns-in-Union t c =
    one_more c.deepest.result c.saturating_add.result _ _ c.deepest.ensures c.saturating_add.ensures
    (ap nesting (at_union c.args.node.now c.in-Union.members c.in-Union.is)
    ∙ ap (λ ns. 1 + deepest (members (solids ns))) (sym c.deref.ensures.value))

pub nesting-returns-in-Inter : goal.nesting-returns-in-Inter
nesting-returns-in-Inter t c =
    one_more c.deepest-in-Inter.result c.saturating_add-in-Inter.result _ _ c.deepest-in-Inter.ensures
    c.saturating_add-in-Inter.ensures
    (ap nesting (at_inter c.args.node.now c.in-Inter.members c.in-Inter.is)
    ∙ ap (λ ns. 1 + deepest (members (solids ns))) (sym c.deref-in-Inter.ensures.value))

pub nesting-returns-in-Diff : goal.nesting-returns-in-Diff
nesting-returns-in-Diff t c =
    one_more c.max.result c.saturating_add-in-Diff.result _ _
    (either c.nesting.result c.deepest-in-Diff.result c.max.result _ _ c.nesting.ensures c.deepest-in-Diff.ensures
    c.max.ensures)
    c.saturating_add-in-Diff.ensures
    (ap nesting (at_diff c.args.node.now c.in-Diff.first c.in-Diff.rest c.in-Diff.is)
    ∙ ap₂ (λ n ns. 1 + max (nesting (solid_of n)) (deepest (members (solids ns)))) (sym c.deref-in-Diff.ensures)
    (sym c.deref-in-Diff-2.ensures.value))
