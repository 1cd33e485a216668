use Rattle.verdict_laws.proofs.Outside as lemma
use Rattle.verdict_laws.proofs.laws.prints_are_answered_outside.Goals as goal

pub returns : goal.returns
returns c = lemma.prints_are_answered_outside c.verdicts_are_opinions.ensures c.supports_go_outside.ensures
