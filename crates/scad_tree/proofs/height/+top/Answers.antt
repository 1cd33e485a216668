-- The height of a node from those of its parts, and the greatest and the least of nodes, found one by one.
use Rattle.std.proofs.Common.{◌≡◌, ◌+◌, Option, Some, None, ℤ, drop, refl, ap, sym, ◌∙◌, arith}
use Rattle.std.proofs.lemmas.Int.{ints, clamps}
use Rattle.std.specs.Int.{int_min}
use Rattle.scad_solid.specs.Height.{higher_of}
use Rattle.scad_solid.proofs.Heights.{higher_of_assoc}
use Rattle.scad_tree.specs.Height.{lower_of, top_of, greatest, least}
use Rattle.scad_tree.specs.Solid.{members}
use Rattle.scad_tree.specs.View.{solid_of, solids}
use Rattle.scad_tree.proofs.Rows.{at_union, at_inter, at_diff, left-more, left-none}
use Rattle.scad_tree.proofs.height.+top.Goals as goal

fewest : (x y z : ℤ) → int_min (int_min x y) z ≡ int_min x (int_min y z)
fewest x y z = omega (arith, ints, clamps)

lower_on : (a b c : Option ℤ) → lower_of (lower_of a b) c ≡ lower_of a (lower_of b c)
lower_on None b c = refl
lower_on (Some x) None c = refl
lower_on (Some x) (Some y) None = refl
lower_on (Some x) (Some y) (Some z) = ap Some (fewest x y z)

higher_end : (a : Option ℤ) → higher_of a None ≡ a
higher_end None = refl
higher_end (Some x) = refl

lower_end : (a : Option ℤ) → lower_of a None ≡ a
lower_end None = refl
lower_end (Some x) = refl

pub greatest-loop-node-init : goal.greatest-loop-node-init
greatest-loop-node-init t c = refl

pub greatest-loop-node-preserved : goal.greatest-loop-node-preserved
greatest-loop-node-preserved t c =
    let all = c.args.nodes.now in
    let i = c.loop-node.node-index in
    let n = c.node-item.result in
    let height = c.loop-node.height in
    let rest = greatest (members (solids (drop (i + 1) all))) in
    ap (λ h. higher_of h rest) (c.higher-height.ensures ∙ ap (higher_of height) c.top.ensures)
    ∙ higher_of_assoc height (top_of (solid_of n)) rest
    ∙ ap (λ ms. higher_of height (greatest ms)) (sym (left-more all i n c.loop-node-test.true c.node-item.is))
    ∙ c.loop-node.invariant

pub greatest-returns : goal.greatest-returns
greatest-returns t c =
    sym (higher_end c.loop-node.height)
    ∙ ap (λ ms. higher_of c.loop-node.height (greatest ms))
    (sym (left-none c.args.nodes.now c.loop-node.node-index c.loop-node-test.false))
    ∙ c.loop-node.invariant

pub least-loop-node-init : goal.least-loop-node-init
least-loop-node-init t c = refl

pub least-loop-node-preserved : goal.least-loop-node-preserved
least-loop-node-preserved t c =
    let all = c.args.nodes.now in
    let i = c.loop-node.node-index in
    let n = c.node-item.result in
    let height = c.loop-node.height in
    let rest = least (members (solids (drop (i + 1) all))) in
    ap (λ h. lower_of h rest) (c.lower-height.ensures ∙ ap (lower_of height) c.top.ensures)
    ∙ lower_on height (top_of (solid_of n)) rest
    ∙ ap (λ ms. lower_of height (least ms)) (sym (left-more all i n c.loop-node-test.true c.node-item.is))
    ∙ c.loop-node.invariant

pub least-returns : goal.least-returns
least-returns t c =
    sym (lower_end c.loop-node.height)
    ∙ ap (λ ms. lower_of c.loop-node.height (least ms))
    (sym (left-none c.args.nodes.now c.loop-node.node-index c.loop-node-test.false))
    ∙ c.loop-node.invariant

pub top-returns-in-Empty : goal.top-returns-in-Empty
top-returns-in-Empty t c = ap (λ n. top_of (solid_of n)) (sym c.in-Empty.is)

pub top-returns-in-Leaf : goal.top-returns-in-Leaf
top-returns-in-Leaf t c = c.highest.ensures ∙ ap (λ n. top_of (solid_of n)) (sym c.in-Leaf.is)

pub top-returns-in-Union : goal.top-returns-in-Union
top-returns-in-Union t c =
    c.greatest.ensures ∙ ap (λ ns. greatest (members (solids ns))) c.deref.ensures.value
    ∙ ap top_of (sym (at_union c.args.node.now c.in-Union.members c.in-Union.is))

pub top-returns-in-Inter : goal.top-returns-in-Inter
top-returns-in-Inter t c =
    c.least.ensures ∙ ap (λ ns. least (members (solids ns))) c.deref-in-Inter.ensures.value
    ∙ ap top_of (sym (at_inter c.args.node.now c.in-Inter.members c.in-Inter.is))

pub top-returns-in-Diff : goal.top-returns-in-Diff
top-returns-in-Diff t c =
    c.top.ensures ∙ ap (λ n. top_of (solid_of n)) c.deref-in-Diff.ensures
    ∙ ap top_of (sym (at_diff c.args.node.now c.in-Diff.first c.in-Diff.field-1 c.in-Diff.is))
