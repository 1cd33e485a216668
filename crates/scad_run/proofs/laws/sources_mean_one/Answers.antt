use Rattle.scad_run.proofs.Sources as sources
use Rattle.scad_run.proofs.laws.sources_mean_one.Goals as goal

pub returns : goal.returns
returns c = sources.sources_mean_one
