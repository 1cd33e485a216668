use Rattle.sweep_laws.proofs.Edges.{ways_give_edges, same_spots_round_alike}
use Rattle.sweep_laws.proofs.laws.ways_give_edges.Goals as goal

pub returns : goal.returns
returns c = record { edges = ways_give_edges; alike = same_spots_round_alike }
