use Rattle.std.proofs.Common.{◌≡◌, take, All}
use Rattle.scad_geom.specs.Limits.{coordinate_limit}
use Rattle.scad_geom.specs.Within.{IsEdgeWithin}
use Rattle.slice_pieces.specs.Rounding.{rounded_edges}
use Rattle.slice_snap.proofs.rounding.round.Given as goal

abbrev pub invariant-pieces : goal.invariant-pieces
invariant-pieces l = record {
  edges : l.edges.items ≡ rounded_edges (take l.piece-index l.pieces);
  within
      : All (IsEdgeWithin coordinate_limit) l.edges.items;
}
