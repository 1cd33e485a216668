-- The ring round an edge winds round each point that the edge comes near to by the octagon without its border.
use Rattle.std.proofs.Common.{ℕ, ◌≤◌, Bool, List, [], ◌∷◌, ◌++◌, length, arith, ℤ, pos, negsuc, ◌+ℤ◌, ◌*ℤ◌, ◌<ℤ◌}
use Rattle.std.specs.List.{AllByRecursion}
use Rattle.std.proofs.lemmas.Int.{ints}
use Rattle.std.proofs.lemmas.List.Elements.{recursion_from_All, All-from_recursion}
use Rattle.scad_base.proofs.Products.{positive_product}
use Rattle.scad_geom.specs.declared.point.Pt.{Pt}
use Rattle.scad_geom.specs.declared.point.Edge.{Edge}
use Rattle.scad_geom.specs.Point.{Point, whole}
use Rattle.scad_geom.specs.Near.{mean}
use Rattle.scad_geom.specs.Segment.{segments}
use Rattle.scad_geom.specs.Loop.{path, sides}
use Rattle.scad_geom.specs.Winding.{wind_by}
use Rattle.scad_ring.specs.Octagon.{reach, octagon_of}
use Rattle.scad_ring.specs.Nearness.{Open, Meets}
use Rattle.scad_ring.specs.Ring.{IsLeftOf, AllTurnLeft, IsRing}
use Rattle.scad_ring.specs.Corners.{corners_of}
use Rattle.scad_ring.proofs.OpenNearness.{shifted, IsStep, near_shifted}
use Rattle.scad_ring.proofs.Shapes.{corners_of-several}
use Rattle.scad_ring.proofs.Ways.{ring_is}
use Rattle.plan_walls.specs.Rings.{IsStrictlyLeftOf}
use Rattle.plan_walls.proofs.Rings.{left_is_wound}
use Rattle.plan_walls.proofs.Strictly.{TurnsAfter, strictly_left}

-- along a way that turns left at each point, on to a next one, each side is followed by a turn
all_turn : (from last next : Pt) (ps : List Pt) → AllTurnLeft (from ∷ (ps ++ last ∷ next ∷ []))
    → AllByRecursion TurnsAfter (path from ps last)
all_turn from last next [] h = (record { next = next; left = h.0 }, tt)
all_turn from last next (p ∷ []) h = (record { next = last; left = h.0 }, all_turn p last next [] h.1)
all_turn from last next (p ∷ r ∷ ps) h = (record { next = r; left = h.0 }, all_turn p last next (r ∷ ps) h.1)

module _ (q : Point) (k : ℤ) (some : pos 0 <ℤ k) where
  abbrev AllLeft : ℤ → ℤ → List Edge → Type 0
  AllLeft u v es = AllByRecursion (IsLeftOf (shifted k u v q)) (segments es)

  all_strictly : (es : List Edge) → AllByRecursion TurnsAfter es → AllLeft (pos 1) (pos 0) es
      → AllLeft (negsuc 0) (pos 0) es → AllLeft (pos 0) (pos 1) es → AllLeft (pos 0) (negsuc 0) es
      → AllByRecursion (IsStrictlyLeftOf q) (segments es)
  all_strictly [] t r l u d = tt
  all_strictly (e ∷ es) t r l u d = (
    strictly_left q k some e t.0 (record { right = r.0; left = l.0; up = u.0; down = d.0 }),
    all_strictly es t.1 r.1 l.1 u.1 d.1,
  )

-- ---- two corners at least
abbrev HasTwo : List Pt → Type 0
HasTwo [] = ⊥
HasTwo (p ∷ []) = ⊥
HasTwo (p ∷ r ∷ ps) = Unit {0}

several_two : (l : List Pt) → 3 ≤ length l → HasTwo l
several_two [] h = omega (arith, h)
several_two (p ∷ []) h = omega (arith, h)
several_two (p ∷ r ∷ ps) h = tt

two_corners : (c : ℕ) (e : Edge) → HasTwo (corners_of c e)
two_corners c e = several_two (corners_of c e) (corners_of-several c e)

-- ---- steps by one along an axis
to_right : IsStep (pos 1) (pos 0)
to_right = record {
  sum = record { least = omega (arith, ints); most = omega (arith, ints) };
  difference = record { least = omega (arith, ints); most = omega (arith, ints) };
}

to_left : IsStep (negsuc 0) (pos 0)
to_left = record {
  sum = record { least = omega (arith, ints); most = omega (arith, ints) };
  difference = record { least = omega (arith, ints); most = omega (arith, ints) };
}

upwards : IsStep (pos 0) (pos 1)
upwards = record {
  sum = record { least = omega (arith, ints); most = omega (arith, ints) };
  difference = record { least = omega (arith, ints); most = omega (arith, ints) };
}

downwards : IsStep (pos 0) (negsuc 0)
downwards = record {
  sum = record { least = omega (arith, ints); most = omega (arith, ints) };
  difference = record { least = omega (arith, ints); most = omega (arith, ints) };
}

-- ---- the ring
-- the divisor of the point of an edge by these weights
abbrev pub weight : (s t : ℤ) → ℤ
weight s t = s *ℤ pos 1 +ℤ t *ℤ pos 1

pub weight_positive : (s t : ℤ) → pos 0 <ℤ (s +ℤ t) → pos 0 <ℤ weight s t
weight_positive s t h = omega (arith, ints, h)

-- some point of an edge is near to q by the octagon of c without its border
abbrev pub ComesNear : ℕ → Point → Edge → Type 0
ComesNear c q e = Meets Open (octagon_of c) q (whole e.a) (whole e.b)

shifted_positive : (k u v : ℤ) (q : Point) → pos 0 <ℤ k → pos 0 <ℤ q.d → pos 0 <ℤ (shifted k u v q).d
shifted_positive k u v q h d = positive_product q.d k d h

wound : (c : ℕ) (e : Edge) (corners : List Pt) → IsRing c e corners → HasTwo corners → (q : Point)
    → pos 0 <ℤ q.d → ComesNear c q e
    → (above right : Bool) → pos 0 <ℤ wind_by above right q (segments (sides corners))
wound c e [] ring two q d h above right = absurd two
wound c e (p ∷ []) ring two q d h above right = absurd two
wound c e (p ∷ r ∷ ps) ring two q d h above right =
    let k : ℤ = weight h.s h.t in
    let some : pos 0 <ℤ k = weight_positive h.s h.t h.some in
    let es : List Edge = sides (p ∷ r ∷ ps) in
    let stays : (u v : ℤ) → IsStep u v → AllByRecursion (IsLeftOf (shifted k u v q)) (segments es) =
    λ u v step. recursion_from_All (IsLeftOf (shifted k u v q)) (segments es)
    ((ring.holds (shifted k u v q) (shifted_positive k u v q some d)).0 (record {
      s = h.s;
      t = h.t;
      from = h.from;
      to = h.to;
      some = h.some;
      near = near_shifted (pos c) (pos (reach c)) u v q (mean h.s h.t (whole e.a) (whole e.b))
          (omega (arith, ints, some)) step h.near;
    })) in
    left_is_wound p (r ∷ ps) q d
    (All-from_recursion (IsStrictlyLeftOf q) (segments es)
    (all_strictly q k some es (all_turn p p r (r ∷ ps) ring.turns)
    (stays (pos 1) (pos 0) to_right) (stays (negsuc 0) (pos 0) to_left)
    (stays (pos 0) (pos 1) upwards) (stays (pos 0) (negsuc 0) downwards)))
    above right

pub ring_winds : (c : ℕ) → 1 ≤ c → (e : Edge) (q : Point) → pos 0 <ℤ q.d → ComesNear c q e
    → (above right : Bool) → pos 0 <ℤ wind_by above right q (segments (sides (corners_of c e)))
ring_winds c some e q d h above right = wound c e (corners_of c e) (ring_is c some e) (two_corners c e) q d
    h above right
