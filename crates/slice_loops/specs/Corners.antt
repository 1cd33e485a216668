-- The corners of a closed outline: its vertices but those strictly between their neighbours on one line.
use Rattle.std.specs.Prelude.{Bool, cond, ◌&&◌, List, [], ◌∷◌, ℤ, pos, ◌+ℤ◌, ◌-ℤ◌, ◌*ℤ◌, int_lt}
use Rattle.std.specs.Ordering.{int_eq}
use Rattle.scad_geom.specs.declared.point.Pt.{Pt}

-- the cross product of the way from a to p and the way from p to b: 0 where the three lie on one line
unfoldable pub bend : Pt → Pt → Pt → ℤ
bend a p b = (p.x -ℤ a.x) *ℤ (b.y -ℤ p.y) -ℤ (p.y -ℤ a.y) *ℤ (b.x -ℤ p.x)

-- the dot product of these ways: on one line, above 0 where p lies strictly between a and b
unfoldable pub advance : Pt → Pt → Pt → ℤ
advance a p b = (p.x -ℤ a.x) *ℤ (b.x -ℤ p.x) +ℤ (p.y -ℤ a.y) *ℤ (b.y -ℤ p.y)

-- p lies on one line with a and b, strictly between them
abbrev pub is_between : Pt → Pt → Pt → Bool
is_between a p b = int_eq (bend a p b) (pos 0) && int_lt (pos 0) (advance a p b)

-- the last of a vertex and those that follow it
abbrev pub last : Pt → List Pt → Pt
last p [] = p
last p (q ∷ qs) = last q qs

-- the corners among a vertex and those that follow it, between a vertex before and one after them
abbrev pub corners_between : Pt → Pt → List Pt → Pt → List Pt
corners_between before p [] after = cond (is_between before p after) [] (p ∷ [])
corners_between before p (q ∷ qs) after = cond (is_between before p q) (corners_between p q qs after)
    (p ∷ corners_between p q qs after)

-- the corners of a closed outline, in order: the last vertex comes before the first
abbrev pub corners : List Pt → List Pt
corners [] = []
corners (p ∷ ps) = corners_between (last p ps) p ps p
