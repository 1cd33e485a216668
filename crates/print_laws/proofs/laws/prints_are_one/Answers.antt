use Rattle.print_laws.proofs.Prints.{prints_are_one}
use Rattle.print_laws.proofs.laws.prints_are_one.Goals as goal

pub returns : goal.returns
returns c = prints_are_one
