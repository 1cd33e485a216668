use Rattle.plan_verify.proofs.Lines.{line_there}
use Rattle.plan_verify.proofs.line.first_line.Goals as goal

pub returns-then-at-text-clause-line : goal.returns-then-at-text-clause-line
returns-then-at-text-clause-line c =
    line_there c.first_at-at.result c.args.text.now c.first_at-at.ensures.value c.if-at-text.true
