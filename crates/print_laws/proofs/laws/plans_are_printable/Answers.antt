use Rattle.print_laws.proofs.Printable.{plans_are_printable}
use Rattle.print_laws.proofs.laws.plans_are_printable.Goals as goal

pub returns : goal.returns
returns c = plans_are_printable c.plans_keep_clear.ensures
