use Rattle.verdict_laws.proofs.Deciding as lemma
use Rattle.verdict_laws.proofs.laws.opinions_are_there.Goals as goal

pub returns : goal.returns
returns c = lemma.opinions_are_there
