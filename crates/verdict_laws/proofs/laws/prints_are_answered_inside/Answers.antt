use Rattle.verdict_laws.proofs.OwnOutlines as lemma
use Rattle.verdict_laws.proofs.laws.prints_are_answered_inside.Goals as goal

pub returns : goal.returns
returns c = lemma.prints_are_answered c.verdicts_are_opinions.ensures c.prints_stay_inside.ensures
