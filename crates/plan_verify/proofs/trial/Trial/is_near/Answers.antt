use Rattle.plan_verify.proofs.Searches.{one_apart}
use Rattle.plan_verify.proofs.trial.Trial.is_near.Goals as goal

pub returns-then-is_beyond-clause-apart : goal.returns-then-is_beyond-clause-apart
returns-then-is_beyond-clause-apart c = λ _. one_apart c.args.self.now c.around.result c.args.side.now
    c.is_beyond.result
    c.requires.trial c.around.ensures c.is_beyond.ensures c.if-is_beyond.true
