use Rattle.verdict_laws.proofs.Opinions as lemma
use Rattle.verdict_laws.proofs.laws.opinions_are_one.Goals as goal

pub returns : goal.returns
returns c = lemma.opinions_are_one
