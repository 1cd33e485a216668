use Rattle.plan_verify.proofs.Indexes.{many_boxed}
use Rattle.plan_verify.proofs.index.many.Goals as goal

pub returns-clause-boxed : goal.returns-clause-boxed
returns-clause-boxed c = many_boxed c.round-extent.result c.extent_in.result c.extent_in-2.result c.in_ok-first.first
    c.in_ok-second.second c.args.first c.args.second c.round-extent.ensures.first c.round-extent.ensures.second
    c.extent_in.ensures c.extent_in-2.ensures c.in_ok-first.ensures.ok c.in_ok-second.ensures.ok c.requires.first
    c.requires.second
