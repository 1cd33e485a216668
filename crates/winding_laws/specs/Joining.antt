-- Segments put in another order, joined end to end, or left out with their opposites.
use Rattle.std.specs.Prelude.{◌≡◌, true, Bool, List, ◌∷◌, ◌++◌, map, pos}
use Rattle.std.specs.List.Sorted.{IsPermutation}
use Rattle.scad_geom.specs.declared.point.Edge.{Edge}
use Rattle.scad_geom.specs.Point.{Point, is_same_point}
use Rattle.scad_geom.specs.Segment.{Segment, segments}
use Rattle.scad_geom.specs.Winding.{wind_by, side_by}
use Rattle.scad_geom.specs.Balance.{IsBalanced}
use Rattle.winding_laws.specs.Nearness.{IsPoint, IsProper}
use Rattle.winding_laws.specs.Edges.{joined, turned}

-- ---- the laws
-- The order of segments matters neither for balance nor for winding.
abbrev pub OrderKeepsBalance : Type 0
OrderKeepsBalance = (ss ts : List Segment) → IsPermutation ss ts → IsBalanced ss → IsBalanced ts

abbrev pub OrderKeepsWinding : Type 0
OrderKeepsWinding = (ss ts : List Segment) → IsPermutation ss ts → (above right : Bool) (q : Point)
    → wind_by above right q ts ≡ wind_by above right q ss

-- Of two segments, the second starting where the first ends, one may be made.
abbrev pub JoiningKeepsBalance : Type 0
JoiningKeepsBalance =
    (s t : Segment) (ss : List Segment) → IsProper s → IsProper t → is_same_point s.to t.from ≡ true
    → IsBalanced (s ∷ (t ∷ ss)) → IsBalanced (joined s t ∷ ss)

-- Where they lie on one line it winds as the two, hard by each point.
abbrev pub JoiningKeepsWinding : Type 0
JoiningKeepsWinding =
    (s t : Segment) (ss : List Segment) → IsProper s → IsProper t → is_same_point s.to t.from ≡ true
    → side_by s.to s.from t.to ≡ pos 0
    → (above right : Bool) (q : Point) → IsPoint q
    → wind_by above right q (joined s t ∷ ss) ≡ wind_by above right q (s ∷ (t ∷ ss))

-- Edges and their opposites may be left out together.
abbrev pub CancellingKeepsBalance : Type 0
CancellingKeepsBalance =
    (edges left pairs : List Edge) → IsPermutation edges (left ++ (pairs ++ map turned pairs))
    → IsBalanced (segments edges) → IsBalanced (segments left)

abbrev pub CancellingKeepsWinding : Type 0
CancellingKeepsWinding =
    (edges left pairs : List Edge) → IsPermutation edges (left ++ (pairs ++ map turned pairs))
    → (above right : Bool) (q : Point) → IsPoint q
    → wind_by above right q (segments left) ≡ wind_by above right q (segments edges)
