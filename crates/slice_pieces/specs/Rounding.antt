-- Pieces with rounded ends: edges between whole points.
use Rattle.std.specs.Prelude.{List, map, filter}
use Rattle.scad_geom.specs.declared.point.Edge.{Edge}
use Rattle.winding_laws.specs.Edges.{rounded_edge, has_length}
use Rattle.slice_pieces.specs.declared.piece.Piece.{Piece}
use Rattle.slice_pieces.specs.Pieces.{ways_of}

-- the edges between the rounded ends of pieces, in order, without those whose ends coincide
abbrev pub rounded_edges : List Piece → List Edge
rounded_edges pieces = filter has_length (map rounded_edge (ways_of pieces))
