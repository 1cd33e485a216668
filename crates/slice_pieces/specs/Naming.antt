-- What the names of pieces say: pieces of one name are parts of one line, and no two of them overlap. Merging goes by
-- it.
use Rattle.std.specs.Prelude.{List, [], ◌∷◌, ℕ, ◌<◌, ⊤, ◌≡◌, true, false, pos, ◌<ℤ◌, All}
use Rattle.std.specs.List.{AllByRecursion}
use Rattle.scad_geom.specs.declared.point.Edge.{Edge}
use Rattle.scad_geom.specs.Point.{Point, whole, is_same_point}
use Rattle.scad_geom.specs.Line.{left_of}
use Rattle.slice_pieces.specs.declared.piece.Piece.{Piece}
use Rattle.slice_pieces.specs.Spots.{point_of, is_same_spot}
use Rattle.slice_pieces.specs.Inside.{IsInside}
use Rattle.slice_pieces.specs.Pieces.{IsPieceWithin}

-- a point on the line of an edge
abbrev pub IsOnLine : Edge → Point → Type 0
IsOnLine e p = left_of e p.x p.y p.d ≡ pos 0

-- a piece with both ends on the line of an edge, which has a length
pub record LiesAlong (e : Edge) (q : Piece) : Type 0 where
  pub length : is_same_point (whole e.a) (whole e.b) ≡ false
  pub from : IsOnLine e (point_of q.from)
  pub to : IsOnLine e (point_of q.to)

-- a piece isn't empty: its ends differ
abbrev pub HasLength : Piece → Type 0
HasLength q = is_same_spot q.from q.to ≡ false

-- two pieces don't overlap: no point lies inside both
abbrev pub AreApart : Piece → Piece → Type 0
AreApart q r = (p : Point) → pos 0 <ℤ p.d → IsInside (point_of q.from) (point_of q.to) p
    → IsInside (point_of r.from) (point_of r.to) p → ⊥

-- pieces of one name don't overlap
abbrev pub AreApartByName : Piece → Piece → Type 0
AreApartByName q r = q.edge ≡ r.edge → AreApart q r

-- each two pieces of a list, an earlier and a later one, stand in a relation
abbrev pub AllPairs : (Piece → Piece → Type 0) → List Piece → Type 0
AllPairs R [] = ⊤
AllPairs R (q ∷ qs) = AllByRecursion (R q) qs × AllPairs R qs

-- pieces named by the numbers of edges, of which there are so many: each has a length and lies along the edge of its
-- name,
-- and those of one name don't overlap
pub record AreNamed (count : ℕ) (edge : ℕ → Edge) (pieces : List Piece) : Type 0 where
  pub there : All (λ q. q.edge < count) pieces
  pub lengths : All HasLength pieces
  pub lines : All (λ q. LiesAlong (edge q.edge) q) pieces
  pub apart : AllPairs AreApartByName pieces

-- ---- the law
-- Two pieces along one edge that don't overlap, the first ending where the second starts, go on in one direction: their
-- common
-- end lies inside the way from the first one's start to the second one's end.
abbrev pub PiecesGoOn : Type 0
PiecesGoOn =
    (limit : ℕ) (e : Edge) (q r : Piece) → IsPieceWithin limit q → IsPieceWithin limit r → LiesAlong e q
    → LiesAlong e r → HasLength q → HasLength r
    → AreApart q r → is_same_spot q.to r.from ≡ true
    → IsInside (point_of q.from) (point_of r.to) (point_of q.to)
