-- The faces of the convex hull of points: the planes through three of the points that have none outside, each with the
-- ring of the points in it.
use Rattle.std.specs.Prelude.{◌≡◌, ◌⊎◌, true, false, [], ◌<ℤ◌, ◌≤ℤ◌, All, List, ◌∷◌, ◌++◌, length, map, Bool, ◌||◌, Option, Some, None, Result, Ok, Err, if◌then◌else◌, nat_lt, int_lt, pos}
use Rattle.std.specs.List.{Contains, list_all, list_any, filter, filter_map, flat_map}
use Rattle.std.specs.Cmp.Lexicographic.{slice_cmp}
use Rattle.std.specs.declared.cmp.Ordering.{Ordering}
use Rattle.scad_geom.specs.Sign.{is_zero}
use Rattle.scad_geom.specs.declared.point3.Pt3.{Pt3}
use Rattle.scad_solid.specs.declared.triangle.Triangle.{Triangle}
use Rattle.scad_solid.specs.Solid.{fans}
use Rattle.scad_hull.specs.declared.fault.HullFault.{HullFault}
use Rattle.scad_hull.specs.declared.fault.HullFault.TheVariants.{Points}
use Rattle.scad_hull.specs.declared.turning.Normal.{Normal}
use Rattle.scad_hull.specs.declared.faces.Face.{Face}
use Rattle.scad_hull.specs.Chain.{ring_round}
use Rattle.scad_hull.specs.Ring.{round, IsConvexRing}
use Rattle.scad_hull.specs.Distinct.{distinct}
use Rattle.scad_hull.specs.Flat.{point_count_limit}
use Rattle.scad_hull.specs.Space.{space_cmp, IsSpaceBefore, normal_of, depth_of, beside, inner, dot_of, square_of, is_none, face_left}

-- the points in the plane through a with this normal
abbrev pub in_plane : List Pt3 → Pt3 → Normal → List Pt3
in_plane ps a n = filter (λ p. is_zero (depth_of n a p)) ps

-- the ring of those points, clockwise as seen from outside
abbrev pub face_in : List Pt3 → Pt3 → Normal → List Pt3
face_in ps a n = ring_round (face_left n) (in_plane ps a n)

-- the face in the plane through a with this normal, unless a point lies outside of it
abbrev pub face_by : List Pt3 → Pt3 → Normal → Option (List Pt3)
face_by ps a n = if is_none n || list_any (λ p. int_lt (depth_of n a p) (pos 0)) ps then None else Some
    (face_in ps a n)

-- the face in the plane through three points
abbrev pub face_through : List Pt3 → Pt3 × Pt3 × Pt3 → Option (List Pt3)
face_through ps t = face_by ps t.0 (normal_of t.0 t.1 t.2)

-- all choices of three points
abbrev pub triples : List Pt3 → List (Pt3 × Pt3 × Pt3)
triples ps = flat_map (λ a. flat_map (λ b. map (λ c. (a, b, c)) ps) ps) ps

-- the plane through a with an inward normal is that of a face: three of the points in it don't lie on one line, and
-- none of all lies outside of it
pub record IsFacePlane (ps : List Pt3) (a : Pt3) (n : Normal) : Type 0 where
  pub some : pos 0 <ℤ square_of n
  pub inward : All (λ p. pos 0 ≤ℤ depth_of n a p) ps
  pub first : Pt3
  pub second : Pt3
  pub third : Pt3
  pub has_first : Contains ps first
  pub has_second : Contains ps second
  pub has_third : Contains ps third
  pub flat_first : depth_of n a first ≡ pos 0
  pub flat_second : depth_of n a second ≡ pos 0
  pub flat_third : depth_of n a third ≡ pos 0
  pub round : pos 0 <ℤ dot_of n (normal_of first second third)

-- a face of points: there is a plane with none of them outside, and the face is the convex ring round those in it. It
-- has three or more of them as its corners, holds all of them, goes clockwise as seen from outside, none of its corners
-- lies on the line through its neighbours, and it starts with its least corner by z, y, x.
pub record IsFace (ps face : List Pt3) : Type 0 where
  pub base : Pt3
  pub normal : Normal
  pub some : pos 0 <ℤ square_of normal
  pub inward : All (λ p. pos 0 ≤ℤ depth_of normal base p) ps
  pub ring : IsConvexRing (face_left normal) IsSpaceBefore (in_plane ps base normal) face

-- a face as its normal and its ring
pub record IsFaceOf (ps : List Pt3) (f : Face) : Type 0 where
  pub base : Pt3
  pub plane : IsFacePlane ps base f.normal
  pub ring : f.ring.items ≡ face_in ps base f.normal

-- a ring that is the face in a plane
pub record IsRing (ps ring : List Pt3) : Type 0 where
  pub base : Pt3
  pub normal : Normal
  pub plane : IsFacePlane ps base normal
  pub is : ring ≡ face_in ps base normal

-- the way from a to b is a side of a face, the next goes on to c, and one comes before: of the points in its plane none
-- lies outside of these sides
pub record IsSideOf (ps : List Pt3) (a b c : Pt3) : Type 0 where
  pub normal : Normal
  pub some : pos 0 <ℤ square_of normal
  pub inward : All (λ p. pos 0 ≤ℤ depth_of normal a p) ps
  pub left : All (λ p. depth_of normal a p ≡ pos 0 → pos 0 ≤ℤ face_left normal a b p) ps
  pub flat : depth_of normal a b ≡ pos 0
  pub flat_c : depth_of normal a c ≡ pos 0
  pub turns : pos 0 <ℤ face_left normal a b c
  pub left_behind : All (λ p. depth_of normal a p ≡ pos 0 → pos 0 ≤ℤ face_left normal b c p) ps
  pub before : Pt3
  pub left_before : All (λ p. depth_of normal a p ≡ pos 0 → pos 0 ≤ℤ face_left normal before a p) ps
  pub turns_before : pos 0 <ℤ face_left normal before a b
  pub has_a : Contains ps a
  pub has_b : Contains ps b
  pub has_c : Contains ps c

-- the way round a ring goes from a on to b
abbrev pub GoesOn : List Pt3 → Pt3 → Pt3 → Type 0
GoesOn ring a b = (before : List Pt3) × (after : List Pt3) × (round ring ≡ before ++ a ∷ b ∷ after)

-- and from there on to c
abbrev pub GoesOnTo : List Pt3 → Pt3 → Pt3 → Pt3 → Type 0
GoesOnTo ring a b c = (before : List Pt3) × (after : List Pt3) × (round ring ≡ before ++ a ∷ b ∷ c ∷ after)

-- x is one of a list
abbrev pub In : {X : Type 0} → X → List X → Type 0
In x [] = ⊥
In x (y ∷ ys) = (x ≡ y) ⊎ In x ys

-- behind each side of the faces, that side run the other way is one of a face of them
abbrev pub HasBacks : List (List Pt3) → Type 0
HasBacks rings = (ring : List Pt3) → In ring rings → (a b c : Pt3) → GoesOnTo ring a b c
    → (back : List Pt3) × In back rings × GoesOn back b a

-- all points that a plane through a and d meets lie on their line, and none of all lies outside of it
pub record IsEdge (ps : List Pt3) (a d : Pt3) : Type 0 where
  pub normal : Normal
  pub some : pos 0 <ℤ square_of normal
  pub flat : depth_of normal a d ≡ pos 0
  pub inward : All (λ p. pos 0 ≤ℤ depth_of normal a p) ps
  pub line : All (λ p. depth_of normal a p ≡ pos 0 → is_none (normal_of a d p) ≡ true) ps
  pub apart : is_none (normal_of a (beside a) d) ≡ false

-- four of the points don't lie in one plane
pub record IsSpread (ps : List Pt3) : Type 0 where
  pub first : Pt3
  pub second : Pt3
  pub third : Pt3
  pub fourth : Pt3
  pub has_first : Contains ps first
  pub has_second : Contains ps second
  pub has_third : Contains ps third
  pub has_fourth : Contains ps fourth
  pub off : inner first second third fourth ≡ pos 0 → ⊥

-- the order of faces by their lists of points
abbrev pub face_cmp : List Pt3 → List Pt3 → Ordering
face_cmp = slice_cmp space_cmp

-- the faces of distinct points in order
abbrev pub faces_of : List Pt3 → List (List Pt3)
faces_of ps = distinct face_cmp (filter_map (face_through ps) (triples ps))

-- any four of the points lie in one plane
abbrev pub are_flat : List Pt3 → Bool
are_flat ps = list_all (λ a. list_all (λ b. list_all (λ c. list_all (λ p. is_zero (inner a b c p)) ps) ps) ps) ps

-- the hull of distinct points: refused past the limit, none where they lie in one plane
abbrev pub solid_of_distinct : List Pt3 → Result (Option (List Triangle)) HullFault
solid_of_distinct ps =
    if nat_lt point_count_limit (length ps) then Err (Points (length ps))
    else Ok (if are_flat ps then None else Some (fans (faces_of ps)))

abbrev pub hull_of : List Pt3 → Result (Option (List Triangle)) HullFault
hull_of points = solid_of_distinct (distinct space_cmp points)
