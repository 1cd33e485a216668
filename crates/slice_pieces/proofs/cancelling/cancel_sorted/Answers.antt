-- Each edge goes with its opposite, or stays.
use Rattle.std.proofs.Common.{ap, ◌∙◌, true≢false, sym, arith}
use Rattle.slice_pieces.proofs.SideBySide.{none_left, goes, stays, all_left}
use Rattle.slice_pieces.proofs.cancelling.cancel_sorted.Goals as goal
use Rattle.slice_pieces.proofs.cancelling.cancel_sorted.Goals.{then-ends_in_opposite, else-ends_in_opposite+in_ok-push}

pub edges-init : goal.edges-init
edges-init c = none_left c.args.edges.now c.new-left.result.items c.new-left.ensures.items c.requires

pub edges-preserved : goal.edges-preserved
edges-preserved c =
    let es = c.args.edges.now in
    let i = c.edges.edge-index in
    let left = c.edges.left in
    let seen = c.deref.result.now in
    elim c.if-ends_in_opposite.branch [
      | then-ends_in_opposite w ↦
          goes es i _ left.items seen c.if-ends_in_opposite.left.items left.len c.edges-test.true c.edges.invariant
          c.deref.ensures.value
          (c.ends_in_opposite.ensures.0 w.if-ends_in_opposite.true) (omega (arith, c.edges.left.ok.0))
          (ap (λ v. v.items) w.left-is ∙ w.pop.ensures.rest)
      | else-ends_in_opposite+in_ok-push w ↦
          stays es i _ left.items seen c.if-ends_in_opposite.left.items c.edges-test.true c.edges.invariant
          c.deref.ensures.value
          (λ h. true≢false (sym (c.ends_in_opposite.ensures.1 h) ∙ w.if-ends_in_opposite.false))
          (ap (λ v. v.items) w.left-is ∙ w.in_ok-push.ensures.items)
    ]

pub returns : goal.returns
returns c = all_left c.args.edges.now c.edges.left.items c.edges.edge-index c.edges.invariant c.edges-test.false
