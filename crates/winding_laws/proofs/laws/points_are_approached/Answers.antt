use Rattle.winding_laws.proofs.Approach.{amid_is_anywhere}
use Rattle.winding_laws.proofs.Amid.{amid_is_between}
use Rattle.winding_laws.proofs.Lines.{lines_are_all}
use Rattle.winding_laws.proofs.laws.points_are_approached.Goals as goal

pub returns : goal.returns
returns c = record { anywhere = amid_is_anywhere; between = amid_is_between; lines = lines_are_all }
