-- Pieces of a border: their ends, and their winding and balance, which are those of segments.
use Rattle.std.specs.Prelude.{Bool, List, [], ◌∷◌, map, ℕ, ℤ, ◌≡◌, All}
use Rattle.scad_geom.specs.Point.{Point}
use Rattle.scad_geom.specs.Segment.{Segment}
use Rattle.scad_geom.specs.Winding.{wind_by}
use Rattle.scad_geom.specs.Balance.{IsBalanced}
use Rattle.scad_geom.specs.Level.{IsSameHeight}
use Rattle.slice_pieces.specs.declared.piece.Spot.{Spot}
use Rattle.slice_pieces.specs.declared.piece.Piece.{Piece}
use Rattle.slice_pieces.specs.Spots.{point_of, IsSpotWithin}

-- ---- the ends
-- where pieces start and end
abbrev pub ends_of : List Piece → List Spot
ends_of [] = []
ends_of (q ∷ qs) = q.from ∷ (q.to ∷ ends_of qs)

-- ends of equal height have the same level, over the same divisor
pub record HaveOneLevel (pieces : List Piece) : Type 0 where
  pub each : All (λ s. All (λ t. IsSameHeight s.at t.at → s.at ≡ t.at) (ends_of pieces)) (ends_of pieces)

-- a piece with both ends within the limit
pub record IsPieceWithin (limit : ℕ) (q : Piece) : Type 0 where
  pub from : IsSpotWithin limit q.from
  pub to : IsSpotWithin limit q.to

-- ---- winding and balance
-- the way of a piece, from its start to its end
abbrev pub way_of : Piece → Segment
way_of q = record { from = point_of q.from; to = point_of q.to }

abbrev pub ways_of : List Piece → List Segment
ways_of pieces = map way_of pieces

-- the winding number of pieces hard by a point
abbrev pub wind_pieces : Bool → Bool → Point → List Piece → ℤ
wind_pieces above right p pieces = wind_by above right p (ways_of pieces)

-- at each point as many pieces start as end
abbrev pub ArePiecesBalanced : List Piece → Type 0
ArePiecesBalanced pieces = IsBalanced (ways_of pieces)
