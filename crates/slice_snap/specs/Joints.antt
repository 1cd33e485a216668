-- What tells where a piece goes on: ends whose heights can be compared, and the place of the piece that goes on.
use Rattle.std.specs.Prelude.{◌≡◌, List, ℕ, ◌<◌, length, slice_index_or}
use Rattle.scad_geom.specs.Limits.{coordinate_limit}
use Rattle.scad_geom.specs.Level.{IsSameHeight}
use Rattle.slice_pieces.specs.declared.piece.Spot.{Spot}
use Rattle.slice_pieces.specs.declared.piece.Piece.{Piece}
use Rattle.slice_pieces.specs.Pieces.{IsPieceWithin}
use Rattle.slice_pieces.specs.Joining.{GoesOn}

-- two spots of equal height have the same level
abbrev pub AreOfOneLevel : Spot → Spot → Type 0
AreOfOneLevel s t = IsSameHeight s.at t.at → s.at ≡ t.at

-- a piece in range whose ends have the level of a spot where their heights are equal
pub record IsComparable (s : Spot) (q : Piece) : Type 0 where
  pub within : IsPieceWithin coordinate_limit q
  pub from : AreOfOneLevel s q.from
  pub to : AreOfOneLevel s q.to

-- at a place of a list stands a piece that goes on from another
pub record IsNext (q : Piece) (pieces : List Piece) (j : ℕ) : Type 0 where
  pub there : j < length pieces
  pub on : (d : Piece) → GoesOn q (slice_index_or pieces j d)
