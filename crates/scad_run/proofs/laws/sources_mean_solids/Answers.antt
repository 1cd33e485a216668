use Rattle.scad_run.proofs.Sources as sources
use Rattle.scad_run.proofs.laws.sources_mean_solids.Goals as goal

pub returns-clause-solids : goal.returns-clause-solids
returns-clause-solids c = sources.sources_mean_solids

pub returns-clause-no_want : goal.returns-clause-no_want
returns-clause-no_want c = sources.sources_want_no_memory
