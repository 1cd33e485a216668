-- The convex ring of an edge widened by an octagon: the outline of the points that differ from some point of the edge
-- by a point of the octagon.
use Rattle.std.specs.Prelude.{◌≡◌, ◌↔◌, ◌⊎◌, ℕ, List, [], ◌∷◌, ◌++◌, pos, ◌<ℤ◌, ◌≤ℤ◌, All}
use Rattle.scad_geom.specs.declared.point.Pt.{Pt}
use Rattle.scad_geom.specs.declared.point.Edge.{Edge}
use Rattle.scad_geom.specs.Point.{Point, whole}
use Rattle.scad_geom.specs.Segment.{Segment, segments}
use Rattle.scad_geom.specs.Loop.{sides}
use Rattle.scad_geom.specs.Winding.{side_by}
use Rattle.scad_ring.specs.Octagon.{octagon_of}
use Rattle.scad_ring.specs.Nearness.{Closed, Meets}

-- some point of the edge differs from q by a point of the octagon of c
abbrev pub IsNearEdge : ℕ → Edge → Point → Type 0
IsNearEdge c e q = Meets Closed (octagon_of c) q (whole e.a) (whole e.b)

-- q doesn't lie to the right of a segment
abbrev pub IsLeftOf : Point → Segment → Type 0
IsLeftOf q s = pos 0 ≤ℤ side_by q s.from s.to

-- the way from o to p turns left towards n
abbrev pub TurnsLeft : Pt → Pt → Pt → Type 0
TurnsLeft o p n = pos 0 <ℤ side_by (whole n) (whole o) (whole p)

-- a way turns left at each point between its first and its last
abbrev pub AllTurnLeft : List Pt → Type 0
AllTurnLeft [] = Unit {0}
AllTurnLeft (o ∷ []) = Unit {0}
AllTurnLeft (o ∷ p ∷ []) = Unit {0}
AllTurnLeft (o ∷ p ∷ n ∷ ps) = TurnsLeft o p n × AllTurnLeft (p ∷ n ∷ ps)

-- p lies below q, or at its height to its left
abbrev pub IsBefore : Pt → Pt → Type 0
IsBefore p q = (p.y <ℤ q.y) ⊎ ((p.y ≡ q.y) × (p.x <ℤ q.x))

-- the way round the corners, on to the second
abbrev pub round : List Pt → List Pt
round [] = []
round (p ∷ []) = p ∷ p ∷ []
round (p ∷ q ∷ ps) = p ∷ q ∷ (ps ++ p ∷ q ∷ [])

-- the first of the corners lies before each other
abbrev pub StartsLowest : List Pt → Type 0
StartsLowest [] = ⊥
StartsLowest (p ∷ ps) = All (IsBefore p) ps

-- these are the corners of the ring, counter-clockwise from the lowest and then leftmost
pub record IsRing (c : ℕ) (e : Edge) (corners : List Pt) : Type 0 where
  -- what the ring holds is what is near
  pub holds : (q : Point) → pos 0 <ℤ q.d → IsNearEdge c e q ↔ All (IsLeftOf q) (segments (sides corners))
  pub near : All (λ p. IsNearEdge c e (whole p)) corners
  pub turns : AllTurnLeft (round corners)
  pub starts : StartsLowest corners
