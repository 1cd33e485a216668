use Rattle.meaning_laws.proofs.Programs.{programs_want_no_memory}
use Rattle.meaning_laws.proofs.laws.programs_want_no_memory.Goals as goal

pub returns : goal.returns
returns c = programs_want_no_memory
