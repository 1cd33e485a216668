use Rattle.support_laws.proofs.Shelter.{covers_are_overhung, runs_are_supports}
use Rattle.support_laws.proofs.laws.runs_are_supports.Goals as goal

pub returns : goal.returns
returns c = record { covers = covers_are_overhung; supports = runs_are_supports }
