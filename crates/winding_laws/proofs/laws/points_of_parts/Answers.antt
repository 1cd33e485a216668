use Rattle.winding_laws.proofs.Between.{between_is_on}
use Rattle.winding_laws.proofs.Parts.{parts_are_on, parts_are_all}
use Rattle.winding_laws.proofs.laws.points_of_parts.Goals as goal

pub returns : goal.returns
returns c = record { between = between_is_on; on = parts_are_on; all = parts_are_all }
