-- The shape's values along a level, at its stops.
use Rattle.std.specs.Prelude.{Bool, true, false, List, [], ◌∷◌, ℕ, ◌<◌, ◌≡◌, ⊤, length, slice_index_or, Option, None, Some}
use Rattle.scad_geom.specs.declared.level.LeafEdge.{LeafEdge}
use Rattle.scad_geom.specs.declared.shape.Shape.{Shape}
use Rattle.scad_geom.specs.Shape.{is_in_by}
use Rattle.slice_pieces.specs.declared.piece.Spot.{Spot}
use Rattle.slice_pieces.specs.declared.piece.Piece.{Piece}
use Rattle.slice_pieces.specs.Spots.{point_of}
use Rattle.slice_border.specs.declared.stop.Stop.{Stop}
use Rattle.slice_border.specs.Pieces.{IsLeft, piece_between}
use Rattle.slice_border.specs.Beside.{left_value, passing}

-- spots of one level from left to right
abbrev pub GoAlong : List Spot → Type 0
GoAlong [] = ⊤
GoAlong (s ∷ []) = ⊤
GoAlong (s ∷ (t ∷ ss)) = (s.at ≡ t.at) × IsLeft s t × GoAlong (t ∷ ss)

-- the values to the left of the bundles that lie to the right of each stop
pub record AreBeside (edges : List LeafEdge) (shape : Shape) (bundles : List (List ℕ)) (stops : List Stop) (vs : List Bool) : Type 0 where
  pub size : length vs ≡ length stops
  pub each : (k : ℕ) (d : Stop) → k < length stops
      → slice_index_or vs k false ≡ left_value edges shape
      (passing edges true (point_of (slice_index_or stops k d).spot) bundles)

-- what the shape holds hard by each stop to its right, just above the level or just below
pub record AreAlong (above : Bool) (edges : List LeafEdge) (shape : Shape) (stops : List Stop) (vs : List Bool) : Type 0 where
  pub size : length vs ≡ length stops
  pub each : (k : ℕ) (d : Stop) → k < length stops
      → slice_index_or vs k false ≡ is_in_by above true edges shape (point_of (slice_index_or stops k d).spot)

-- the piece of a stretch with these values just above and just below, where an edge covers it
abbrev pub covered_piece : Bool → Bool → Spot → Spot → Option ℕ → List Piece
covered_piece above below s t None = []
covered_piece above below s t (Some name) = piece_between above below s t name
