-- What is left of the merged edges, where opposite ones cancel, makes the outlines.
use Rattle.std.proofs.Common.{List, sym, subst}
use Rattle.std.proofs.lemmas.Result.{IfOk-weaker}
use Rattle.scad_geom.specs.declared.point.Edge.{Edge}
use Rattle.scad_geom.specs.Segment.{segments}
use Rattle.scad_geom.specs.Balance.{IsBalanced}
use Rattle.slice_pieces.specs.Cancelling.{AreCancelled}
use Rattle.slice_loops.specs.Outlines.{AreOutlines}
use Rattle.slice_border.specs.Outlines.{AreOutlinesOf}
use Rattle.sweep_laws.proofs.ClosedEdges.{merged_edges_are_balanced}
use Rattle.sweep_laws.proofs.Sweeping.{merged_edges_make_outlines}
use Rattle.slice_outlines.proofs.outlining.joined.Goals as goal

pub join-requires : goal.join-requires
join-requires c =
    let given = merged_edges_are_balanced c.args.edges.now c.args.shape.now c.in_ok-given.given.items
    c.requires.balanced c.in_ok-given.ensures in
    record {
      balanced = subst (λ (es : List Edge). IsBalanced (segments es)) (sym c.deref-2.ensures.value)
          (c.in_ok-left.ensures.balanced (subst (λ (es : List Edge). IsBalanced (segments es))
          (sym c.deref.ensures.value) given));
    }

pub returns : goal.returns
returns c =
    let cancelled = subst (λ (es : List Edge). AreCancelled es c.in_ok-left.left.items) c.deref.ensures.value
    c.in_ok-left.ensures.left in
    IfOk-weaker c.join.result (λ v. AreOutlines c.deref-2.result.now v.items)
    (λ v. AreOutlinesOf c.args.edges.now c.args.shape.now v.items)
    (λ v h. merged_edges_make_outlines c.args.edges.now c.args.shape.now c.in_ok-given.given.items
    c.in_ok-left.left.items
    v.items c.in_ok-given.ensures cancelled
    (subst (λ (es : List Edge). AreOutlines es v.items) c.deref-2.ensures.value h))
    c.join.ensures
