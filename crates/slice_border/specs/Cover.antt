-- That no stretch of a level is left out: the shape's values just above and just below differ only where a flat edge
-- covers it.
use Rattle.std.specs.Prelude.{true, false, List, [], ◌∷◌, ⊤, None, ◌≡◌, pos, ◌<ℤ◌}
use Rattle.std.specs.List.{position}
use Rattle.scad_geom.specs.declared.level.Level.{Level}
use Rattle.scad_geom.specs.declared.level.LeafEdge.{LeafEdge}
use Rattle.scad_geom.specs.declared.shape.Shape.{Shape}
use Rattle.scad_geom.specs.Shape.{is_in_by}
use Rattle.slice_pieces.specs.declared.piece.Spot.{Spot}
use Rattle.slice_pieces.specs.Spots.{point_of}
use Rattle.slice_border.specs.Pieces.{AreStops, covers}
use Rattle.scad_geom.specs.Leaves.{AreLeavesBalanced}

-- on each stretch between neighbouring stops that no flat edge covers, the values just above and just below are the
-- same
abbrev pub AreChangesCovered : List LeafEdge → Shape → List Spot → Type 0
AreChangesCovered edges shape [] = ⊤
AreChangesCovered edges shape (s ∷ []) = ⊤
AreChangesCovered edges shape (s ∷ (t ∷ ss)) =
    (position (covers s t) edges ≡ None → is_in_by true true edges shape (point_of s)
    ≡ is_in_by false true edges shape (point_of s)) × AreChangesCovered edges shape (t ∷ ss)

-- ---- the law
-- Where the edges of each leaf are balanced, the values just above and just below a stretch between neighbouring stops
-- of a level differ only where a flat edge covers it.
abbrev pub StretchesAreCovered : Type 0
StretchesAreCovered =
    (es : List LeafEdge) (shape : Shape) → AreLeavesBalanced es → (l : Level) → pos 0 <ℤ l.d
    → (stops : List Spot) → AreStops es l stops → AreChangesCovered es shape stops
