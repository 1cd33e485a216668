-- The edge is there, and rises.
use Rattle.slice_bundles.specs.Bundles.{edge_at}
use Rattle.slice_outlines.proofs.EndPoints.{passes_then_rises, passes_there}
use Rattle.slice_outlines.proofs.stops.stop_of.Goals as goal

pub bounds-edges-mark : goal.bounds-edges-mark
bounds-edges-mark c = passes_there c.args.edges.now c.args.mark.now.name c.args.at.now c.requires.passes

pub spot_on-requires-clause-rises : goal.spot_on-requires-clause-rises
spot_on-requires-clause-rises c =
    passes_then_rises (edge_at c.args.edges.now c.args.mark.now.name) c.args.at.now c.requires.passes
