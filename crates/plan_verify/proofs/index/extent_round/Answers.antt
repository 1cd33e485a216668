use Rattle.plan_verify.specs.Extent.{IsIn}
use Rattle.plan_verify.proofs.Searches.{round_more, all_taken}
use Rattle.plan_verify.proofs.index.extent_round.Goals as goal

pub sides-preserved : goal.sides-preserved
sides-preserved c = round_more c.sides.extent c.around.result c.round-extent.result c.args.sides.now c.sides.side-index
    _
    c.sides-test.true c.round-extent.ensures.first c.round-extent.ensures.second c.around.ensures c.sides.invariant

pub returns : goal.returns
returns c = all_taken (IsIn c.sides.extent) c.args.sides.now c.sides.side-index c.sides-test.false c.sides.invariant
