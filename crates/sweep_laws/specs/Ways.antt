-- Pieces as a sweep comes to them: first to their near end, then to their far one.
use Rattle.std.specs.Prelude.{Bool, true, false, cond, ◌≡◌, ⊤, List, [], ◌∷◌, map, ℕ}
use Rattle.std.specs.List.{AllByRecursion}
use Rattle.scad_geom.specs.Point.{Point, is_same_point}
use Rattle.slice_pieces.specs.declared.piece.Spot.{Spot}
use Rattle.slice_pieces.specs.declared.piece.Piece.{Piece}
use Rattle.slice_pieces.specs.Spots.{point_of}

-- a piece's two ends, in the order in which the sweep comes to them, its name, and whether it runs
-- from the near one to the far one
pub record Way : Type 0 where
  pub near : Spot
  pub far : Spot
  pub edge : ℕ
  pub forward : Bool

abbrev pub piece_of : Way → Piece
piece_of w = record { from = cond w.forward w.near w.far; to = cond w.forward w.far w.near; edge = w.edge }

abbrev pub pieces_of : List Way → List Piece
pieces_of ws = map piece_of ws

-- the way between two spots, where the values on its left (on the way from s to t) and on its right
-- differ: forward with the inside on its left
abbrev pub way_between : Bool → Bool → Spot → Spot → ℕ → List Way
way_between true true s t name = []
way_between true false s t name = record { near = s; far = t; edge = name; forward = true } ∷ []
way_between false true s t name = record { near = s; far = t; edge = name; forward = false } ∷ []
way_between false false s t name = []

-- ---- places
-- a spot stands for a point; it doesn't
abbrev pub IsAt : Point → Spot → Type 0
IsAt p s = is_same_point p (point_of s) ≡ true

abbrev pub IsAway : Point → Spot → Type 0
IsAway p s = is_same_point p (point_of s) ≡ false

-- ---- names
abbrev pub AreOfDifferentNames : List Way → Type 0
AreOfDifferentNames [] = ⊤
AreOfDifferentNames (w ∷ ws) = AllByRecursion (λ v. w.edge ≡ v.edge → ⊥) ws × AreOfDifferentNames ws
