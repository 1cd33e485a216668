use Rattle.std.proofs.Common.{pos}
use Rattle.plan_support.proofs.HoleRests.{without_more, place_at, are_left}
use Rattle.plan_support.proofs.free.without.Goals as goal

pub push_free-requires-clause-place : goal.push_free-requires-clause-place
push_free-requires-clause-place c =
    place_at c.args.runs.now c.runs.run-index (record { from = pos 0; to = pos 0 }) c.requires.runs c.runs-test.true

pub runs-preserved : goal.runs-preserved
runs-preserved c = without_more c.args.runs.now c.args.holes.now c.runs.run-index c.runs.next c.in_ok-next.next
    c.runs.out.items c.push_free.new.out.items (record { from = pos 0; to = pos 0 }) c.requires.runs c.runs-test.true
    c.runs.invariant c.in_ok-next.ensures

pub returns : goal.returns
returns c = are_left c.args.runs.now c.args.holes.now c.runs.run-index c.runs.next c.runs.out.items c.runs-test.false
    c.runs.invariant
