use Rattle.winding_laws.proofs.Farness.{parts_are_far, parts_are_clear}
use Rattle.winding_laws.proofs.laws.parts_are_far.Goals as goal

pub returns : goal.returns
returns c = record { far = parts_are_far; clear = parts_are_clear }
