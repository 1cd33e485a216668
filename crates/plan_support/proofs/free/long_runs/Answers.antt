use Rattle.std.proofs.Common.{pos, ap, ◌∙◌}
use Rattle.std.proofs.lemmas.List.{take_all}
use Rattle.plan_support.specs.Free.{at_least}
use Rattle.plan_support.proofs.HoleRests.{at_least_more}
use Rattle.plan_support.proofs.free.long_runs.Goals as goal

pub runs-init : goal.runs-init
runs-init c = c.new-out.ensures.items

pub runs-preserved : goal.runs-preserved
runs-preserved c =
    at_least_more c.args.least c.args.runs.now c.runs.out.items c.push_long.new.out.items c.runs.run-index
    (record { from = pos 0; to = pos 0 }) c.runs-test.true c.runs.invariant c.in_ok-push_long.ensures

pub returns : goal.returns
returns c = c.runs.invariant ∙ ap (at_least c.args.least) (take_all c.runs.run-index c.args.runs.now c.runs-test.false)
