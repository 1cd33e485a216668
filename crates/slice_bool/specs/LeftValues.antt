-- The shape's values to the left of bundles, and the pieces by them.
use Rattle.std.specs.Prelude.{Bool, false, List, [], ◌∷◌, ℕ, ◌+◌, ◌-◌, ◌≤◌, ◌≡◌, length, drop, slice_index_or}
use Rattle.scad_geom.specs.declared.level.Level.{Level}
use Rattle.scad_geom.specs.declared.level.LeafEdge.{LeafEdge}
use Rattle.scad_geom.specs.declared.shape.Shape.{Shape}
use Rattle.slice_bundles.specs.Bundles.{edge_at}
use Rattle.slice_pieces.specs.declared.piece.Piece.{Piece}
use Rattle.slice_border.specs.Pieces.{spot_on, piece_between}
use Rattle.slice_border.specs.Beside.{left_value}

-- the shape's values to the left of the bundles, from right to left, and first of all that at the right end
pub record AreLeftValues (edges : List LeafEdge) (shape : Shape) (bundles : List (List ℕ)) (values : List Bool) : Type 0 where
  pub size : length values ≡ length bundles + 1
  pub each : (k : ℕ) → k ≤ length bundles
      → slice_index_or values k false ≡ left_value edges shape (drop (length bundles - k) bundles)

-- the piece of a bundle with these values to its left and to its right
abbrev pub piece_of : List LeafEdge → Level → Level → Bool → Bool → List ℕ → List Piece
piece_of edges l u left right [] = []
piece_of edges l u left right (k ∷ ks) = piece_between left right (spot_on (edge_at edges k) l)
    (spot_on (edge_at edges k) u) k
