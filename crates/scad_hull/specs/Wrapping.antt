-- What wrapping has found: faces, the corners along them three by three, and their sides.
use Rattle.std.specs.Prelude.{◌≡◌, List, [], ◌∷◌, ◌++◌, map}
use Rattle.std.specs.List.{AllByRecursion, flat_map}
use Rattle.std.specs.Ordering.{int_cmp, ordering_then}
use Rattle.std.specs.declared.cmp.Ordering.{Ordering}
use Rattle.scad_geom.specs.declared.point3.Pt3.{Pt3}
use Rattle.scad_solid.specs.declared.side.Side.{Side}
use Rattle.scad_hull.specs.declared.faces.Face.{Face}
use Rattle.scad_hull.specs.declared.wrapping.Bend.{Bend}
use Rattle.scad_hull.specs.Ring.{round}
use Rattle.scad_hull.specs.Faces.{IsRing, GoesOn, In, HasBacks}

abbrev pub rings_of : List Face → List (List Pt3)
rings_of faces = map (λ f. f.ring.items) faces

-- the corners of a way, three by three
abbrev pub bends_of : List Pt3 → List Bend
bends_of [] = []
bends_of (a ∷ []) = []
bends_of (a ∷ b ∷ []) = []
bends_of (a ∷ b ∷ c ∷ way) = record { from = a; at = b; to = c } ∷ bends_of (b ∷ c ∷ way)

abbrev point_cmp : Pt3 → Pt3 → Ordering
point_cmp p q = ordering_then (int_cmp p.x q.x) (ordering_then (int_cmp p.y q.y) (int_cmp p.z q.z))

-- the order of sides
abbrev pub side_cmp : Side → Side → Ordering
side_cmp s t = ordering_then (point_cmp s.from t.from) (point_cmp s.to t.to)

-- a face goes on from a to b
abbrev pub HasSide : List (List Pt3) → Pt3 → Pt3 → Type 0
HasSide rings a b = (ring : List Pt3) × In ring rings × GoesOn ring a b

-- a face lies behind the side from a bend's first corner to its middle one
abbrev pub HasBack : List (List Pt3) → Bend → Type 0
HasBack rings bend = HasSide rings bend.at bend.from

-- the second list begins with the first
abbrev pub Extends : {X : Type 0} → List X → List X → Type 0
Extends {X} xs ys = (more : List X) × (ys ≡ xs ++ more)

-- faces, all their bends, and sides of them
pub record IsFound (ps : List Pt3) (rings : List (List Pt3)) (bs : List Bend) (keys : List Side) : Type 0 where
  pub faces : AllByRecursion (IsRing ps) rings
  pub bends : bs ≡ flat_map (λ ring. bends_of (round ring)) rings
  pub sides : AllByRecursion (λ s. HasSide rings s.from s.to) keys

-- faces with one behind each side
pub record IsWrapped (ps : List Pt3) (rings : List (List Pt3)) : Type 0 where
  pub faces : AllByRecursion (IsRing ps) rings
  pub backs : HasBacks rings
  pub first : List Pt3
  pub has_first : In first rings
