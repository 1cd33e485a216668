use Rattle.slice_border.proofs.OnEdges.{pieces_lie_on_edges}
use Rattle.slice_border.proofs.laws.pieces_lie_on_edges.Goals as goal

pub returns : goal.returns
returns c = pieces_lie_on_edges
