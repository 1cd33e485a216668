use Rattle.sweep_laws.proofs.ClosedEdges.{merged_edges_are_balanced}
use Rattle.sweep_laws.proofs.Sweeping.{sweeps_merge, merged_edges_make_outlines}
use Rattle.sweep_laws.proofs.laws.sweeps_merge.Goals as goal

pub returns : goal.returns
returns c = record { merge = sweeps_merge; outlines = merged_edges_make_outlines; balanced = merged_edges_are_balanced }
