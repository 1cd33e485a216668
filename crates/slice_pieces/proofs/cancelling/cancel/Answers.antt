-- What is left of the edges in order is left of the edges.
use Rattle.std.proofs.Common.{List, subst}
use Rattle.std.specs.Prelude.{IsPermutation}
use Rattle.std.proofs.lemmas.Result.{IfOk-weaker}
use Rattle.scad_geom.specs.declared.point.Edge.{Edge}
use Rattle.scad_geom.specs.Segment.{segments}
use Rattle.scad_geom.specs.Balance.{IsBalanced}
use Rattle.slice_pieces.specs.Cancelling.{AreCancelled}
use Rattle.slice_pieces.proofs.Balance.{left_balanced}
use Rattle.slice_pieces.proofs.SideBySide.{left_in_order}
use Rattle.slice_pieces.proofs.cancelling.cancel.Goals as goal

pub returns-clause-left : goal.returns-clause-left
returns-clause-left c =
    let es : List Edge = c.args.edges.now in
    let sorted : List Edge = c.sort.new.edges.items in
    let order : IsPermutation es sorted = subst (λ (fs : List Edge). IsPermutation fs sorted) c.in_ok-sorted.ensures.items c.sort.ensures.permutation in
    IfOk-weaker c.cancel_sorted.result (λ v. AreCancelled c.deref.result.now v.items) (λ v. AreCancelled es v.items)
    (λ v h. left_in_order es sorted c.deref.result.now v.items order c.deref.ensures.value h) c.cancel_sorted.ensures

pub returns-clause-balanced : goal.returns-clause-balanced
returns-clause-balanced c =
    let es : List Edge = c.args.edges.now in
    IfOk-weaker c.cancel_sorted.result (λ v. AreCancelled es v.items)
    (λ v. IsBalanced (segments es) → IsBalanced (segments v.items))
    (λ v h. left_balanced es v.items h) (returns-clause-left c)
