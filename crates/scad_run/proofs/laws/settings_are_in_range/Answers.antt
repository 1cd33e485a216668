use Rattle.scad_run.proofs.Heights as heights
use Rattle.scad_run.proofs.laws.settings_are_in_range.Goals as goal

pub returns : goal.returns
returns c = heights.found_in_range
