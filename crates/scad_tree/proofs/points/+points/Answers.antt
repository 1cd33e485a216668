-- The points of one node more.
use Rattle.std.proofs.Common.{◌≡◌, ◌++◌, ◌∙◌, ap, ap₂, sym}
use Rattle.std.proofs.lemmas.Result.{on_ok_weaker}
use Rattle.scad_tree.specs.Points.{points_of, all_points}
use Rattle.scad_tree.specs.Solid.{members}
use Rattle.scad_tree.specs.View.{solid_of, solids}
use Rattle.scad_tree.proofs.Lines.{pieces}
use Rattle.scad_tree.proofs.Rows.{at_diff}
use Rattle.scad_tree.proofs.TreePoints.{points-more, points-end, points-difference}
use Rattle.scad_tree.proofs.points.+points.Goals as goal

pub push_members-nodes-preserved : goal.push_members-nodes-preserved
push_members-nodes-preserved t c = record {
  reached = points-more c.args.nodes.now c.nodes.node-index c.node-item.result c.nodes.out.items c.push_node.new.out.items
      _ c.nodes-test.true c.node-item.is c.in_ok-push_node.ensures.all c.nodes.invariant.reached;
  range = c.in_ok-push_node.ensures.range;
}

pub push_node-returns-in_ok-push_node-in-Diff-clause-all :
    goal.push_node-returns-in_ok-push_node-in-Diff-clause-all
push_node-returns-in_ok-push_node-in-Diff-clause-all t c =
    let old = c.args.out.now.items in
    let mid = c.push_node.new.out.items in
    let new = c.push_members-in-Diff.new.out.items in
    let first = solid_of c.in-Diff.first.value in
    let rest = members (solids c.in-Diff.rest.items) in
    let head = points_of (solid_of c.deref-in-Diff.result.now) in
    let tail = all_points (members (solids c.deref-in-Diff-2.result.now)) in
    let whole = points_of (solid_of c.args.node.now) in
    let parts : whole ≡ head ++ tail =
    ap points_of (at_diff c.args.node.now c.in-Diff.first c.in-Diff.rest c.in-Diff.is) ∙ points-difference first rest
    ∙ ap₂ (λ n ns. points_of (solid_of n) ++ all_points (members (solids ns))) (sym c.deref-in-Diff.ensures)
    (sym c.deref-in-Diff-2.ensures.value) in
    on_ok_weaker c.push_members-in-Diff.result
    (λ pushed. pieces old mid new head tail whole c.in_ok-push_node-in-Diff.ensures.all pushed parts)
    c.push_members-in-Diff.ensures.all

pub push_members-returns-clause-all : goal.push_members-returns-clause-all
push_members-returns-clause-all t c = points-end c.args.nodes.now c.nodes.node-index c.nodes.out.items _
    c.nodes-test.false c.nodes.invariant.reached
