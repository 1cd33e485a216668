use Rattle.verdict_laws.proofs.Readings as lemma
use Rattle.verdict_laws.proofs.laws.outlines_want_no_memory.Goals as goal

pub returns : goal.returns
returns c = lemma.reading_wants_no_memory
