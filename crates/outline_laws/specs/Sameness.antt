-- Pieces that are the same, over whatever divisors their ends are written; shapes that hold alike.
use Rattle.std.specs.Prelude.{◌≡◌, true, Bool, List, pos, ◌<ℤ◌}
use Rattle.std.specs.List.{AllZip}
use Rattle.scad_geom.specs.declared.level.LeafEdge.{LeafEdge}
use Rattle.scad_geom.specs.declared.shape.Shape.{Shape}
use Rattle.scad_geom.specs.Point.{Point}
use Rattle.scad_geom.specs.Shape.{is_in_by}
use Rattle.slice_pieces.specs.declared.piece.Spot.{Spot}
use Rattle.slice_pieces.specs.declared.piece.Piece.{Piece}
use Rattle.slice_pieces.specs.Spots.{point_of, is_same_spot}

-- two spots with divisors above 0 that stand for one point
pub record AreSameSpot (s t : Spot) : Type 0 where
  pub first : pos 0 <ℤ (point_of s).d
  pub second : pos 0 <ℤ (point_of t).d
  pub same : is_same_spot s t ≡ true

-- two pieces of one name, from one point to one point
pub record AreSamePiece (q r : Piece) : Type 0 where
  pub name : q.edge ≡ r.edge
  pub from : AreSameSpot q.from r.from
  pub to : AreSameSpot q.to r.to

-- two lists of pieces that are the same one by one
abbrev pub ArePiecesSame : List Piece → List Piece → Type 0
ArePiecesSame qs rs = AllZip AreSamePiece qs rs

-- two shapes over one list of edges that hold the same, hard by each point
abbrev pub HoldAlike : List LeafEdge → Shape → Shape → Type 0
HoldAlike es s t =
    (above right : Bool) (p : Point) → pos 0 <ℤ p.d → is_in_by above right es s p ≡ is_in_by above right es t p
