use Rattle.verdict_laws.proofs.Opinions as lemma
use Rattle.verdict_laws.proofs.laws.verdicts_are_opinions.Goals as goal

pub returns : goal.returns
returns c = lemma.answers_opinion
