-- A face in the words of the definition is one of the listed faces: it is the one ring round the points of its plane.
use Rattle.std.proofs.Common.{◌≡◌, ◌⊎◌, inl, inr, List, [], ◌∷◌, refl, sym, arith, subst, All}
use lib.IntN.{ℤ, pos, ◌-ℤ◌}
use lib.Signed.{◌<ℤ◌, ◌≤ℤ◌}
use Rattle.std.specs.List.{AllByRecursion, Contains}
use Rattle.std.specs.List.Sorted.{IsStrictlySortedBy}
use Rattle.std.proofs.lemmas.List.Elements.{All-from_recursion, All-contains, All-contains_itself, All-filter}
use Rattle.scad_geom.specs.Sign.{is_zero}
use Rattle.scad_geom.specs.declared.point3.Pt3.{Pt3}
use Rattle.scad_geom.proofs.Ring.{ring, num, var, ◌⊖◌, ◌⊗◌}
use Rattle.scad_geom.proofs.Signs.{climbs}
use Rattle.scad_hull.specs.declared.turning.Normal.{Normal}
use Rattle.scad_hull.specs.Plane.{left, IsBefore}
use Rattle.scad_hull.specs.Ring.{IsConvexRing, StartsFirst}
use Rattle.scad_hull.specs.Space.{space_cmp, normal_of, depth_of, face_left, dot_of, square_of, IsSpaceBefore}
use Rattle.scad_hull.specs.Faces.{in_plane, face_in, IsFacePlane}
use Rattle.scad_hull.proofs.FacePlanes.{ring_there}
use Rattle.scad_hull.proofs.Mirror.{mirrored}
use Rattle.scad_hull.proofs.OneRing.{far, one_ring, onward_ahead}
use Rattle.scad_hull.proofs.Planar.{Same, plane}
use Rattle.scad_hull.proofs.PlaneRings.{InPlaneOrder, all_flat, flat_between, exchanged, other_zero}
use Rattle.scad_hull.proofs.ViewAlong.{seen}
use Rattle.scad_hull.proofs.Whole.{recursion_of}

-- a way to whose left two points on a line lie, with the coordinates exchanged
mirrored_ahead : (f g : Pt3 → ℤ) (m b o : Pt3) → IsBefore f g m b → IsBefore f g m o
    → left g f m b o ≡ pos 0
    → (zx : ℤ) × (zy : ℤ) × (pos 0 <ℤ far g f m zx zy b) × (pos 0 <ℤ far g f m zx zy o)
mirrored_ahead f g m b o hb ho flat =
    let (zx, zy, kb, ko) = onward_ahead f g m b o hb ho (other_zero (left g f m b o) (left f g m b o) (exchanged f g m b o) flat) in (
      pos 0 -ℤ zy,
      pos 0 -ℤ zx,
      subst (λ (z : ℤ). pos 0 <ℤ z) (same zx zy b) kb,
      subst (λ (z : ℤ). pos 0 <ℤ z) (same zx zy o) ko,
    )
  where
    same : (zx zy : ℤ) (p : Pt3) → far f g m zx zy p ≡ far g f m (pos 0 -ℤ zy) (pos 0 -ℤ zx) p
    same zx zy p =
        ring (f m ∷ g m ∷ f p ∷ g p ∷ zx ∷ zy ∷ [])
        (var 4 ⊗ (var 3 ⊖ var 1) ⊖ var 5 ⊗ (var 2 ⊖ var 0))
        ((num (pos 0) ⊖ var 5) ⊗ (var 2 ⊖ var 0) ⊖ (num (pos 0) ⊖ var 4) ⊗ (var 3 ⊖ var 1)) refl

module _ (ps : List Pt3) (sorted : IsStrictlySortedBy space_cmp ps) (a : Pt3) (n : Normal) (plane_is : IsFacePlane ps a n) where
  abbrev Q : List Pt3
  Q = in_plane ps a n

  some : pos 0 <ℤ square_of n
  some = plane_is.some

  abbrev Before : Pt3 → Pt3 → Type 0
  Before = InPlaneOrder ps sorted a n plane_is.some

  flat_at : (q : Pt3) → Contains Q q → depth_of n a q ≡ pos 0
  flat_at q i = All-contains (λ p. depth_of n a p ≡ pos 0) Q q
      (All-from_recursion (λ p. depth_of n a p ≡ pos 0) Q (all_flat ps sorted a n plane_is.some)) i

  exact_at : (p q : Pt3) → Contains Q p → Contains Q q
      → Same (seen n plane_is.some).f (seen n plane_is.some).g p q → p ≡ q
  exact_at p q i j s = (seen n plane_is.some).exact p q
      (flat_between ps sorted a n plane_is.some p q (flat_at p i) (flat_at q j)) s

  abbrev Determined : (Pt3 → Pt3 → Pt3 → ℤ) → Type 0
  Determined turn = (r s : List Pt3) → IsConvexRing turn Before Q r → IsConvexRing turn Before Q s → r ≡ s

  by_order : (face_left n ≡ left (seen n plane_is.some).f (seen n plane_is.some).g)
      ⊎ (face_left n ≡ left (seen n plane_is.some).g (seen n plane_is.some).f) → Determined (face_left n)
  by_order (inl e) = subst Determined (sym e)
      (one_ring (seen n plane_is.some).f (seen n plane_is.some).g Before
      (Same (seen n plane_is.some).f (seen n plane_is.some).g)
      (plane (seen n plane_is.some).f (seen n plane_is.some).g) Q exact_at exact_at
      (onward_ahead (seen n plane_is.some).f (seen n plane_is.some).g))
  by_order (inr e) = subst Determined (sym e)
      (one_ring (seen n plane_is.some).g (seen n plane_is.some).f Before
      (Same (seen n plane_is.some).f (seen n plane_is.some).g)
      (mirrored (seen n plane_is.some).f (seen n plane_is.some).g) Q (λ p q i j s. exact_at p q i j (s.1, s.0))
      exact_at
      (mirrored_ahead (seen n plane_is.some).f (seen n plane_is.some).g))

  first_in : (ring : List Pt3) → AllByRecursion (Contains Q) ring → StartsFirst (face_left n) IsSpaceBefore ring
      → StartsFirst (face_left n) Before ring
  first_in [] i h = h
  first_in (p ∷ ring) i h = All-from_recursion (Before p) ring (each ring i.1 (recursion_of (IsSpaceBefore p) ring h))
    where
      each : (qs : List Pt3) → AllByRecursion (Contains Q) qs → AllByRecursion (IsSpaceBefore p) qs
          → AllByRecursion (Before p) qs
      each [] j k = tt
      each (q ∷ qs) j k = (
        (seen n plane_is.some).ordered p q
            (flat_between ps sorted a n plane_is.some p q (flat_at p i.0) (flat_at q j.0)) k.0,
        each qs j.1 k.1,
      )

  -- the ring round the points of the plane is the one that the definition computes
  pub only_ring : (face : List Pt3) → IsConvexRing (face_left n) IsSpaceBefore Q face → face ≡ face_in ps a n
  only_ring face h =
      by_order (seen n plane_is.some).straight face (face_in ps a n) (record {
        three = h.three;
        corners = h.corners;
        holds = h.holds;
        turns = h.turns;
        starts = first_in face (recursion_of (Contains Q) face h.corners) h.starts;
      }) (ring_there ps sorted a n plane_is)

-- ---- the plane of a face
module _ (ps : List Pt3) (sorted : IsStrictlySortedBy space_cmp ps) where
  module _ (a : Pt3) (n : Normal) (some : pos 0 <ℤ square_of n) (inward : All (λ p. pos 0 ≤ℤ depth_of n a p) ps) where
    in_points : (q : Pt3) → Contains (in_plane ps a n) q → Contains ps q
    in_points q i = All-contains (Contains ps) (in_plane ps a n) q
        (All-filter (λ p. is_zero (depth_of n a p)) (Contains ps) ps (All-contains_itself ps)) i

    in_it : (q : Pt3) → Contains (in_plane ps a n) q → depth_of n a q ≡ pos 0
    in_it q i = All-contains (λ p. depth_of n a p ≡ pos 0) (in_plane ps a n) q
        (All-from_recursion (λ p. depth_of n a p ≡ pos 0) (in_plane ps a n) (all_flat ps sorted a n some)) i

    pub plane_of : (face : List Pt3) → IsConvexRing (face_left n) IsSpaceBefore (in_plane ps a n) face
        → IsFacePlane ps a n
    plane_of [] h = absurd h.starts
    plane_of (r0 ∷ []) h = let l = h.three in absurd (omega arith)
    plane_of (r0 ∷ (r1 ∷ [])) h = let l = h.three in absurd (omega arith)
    plane_of (r0 ∷ (r1 ∷ (r2 ∷ rs))) h =
        let i = recursion_of (Contains (in_plane ps a n)) (r0 ∷ (r1 ∷ (r2 ∷ rs))) h.corners in
        let e0 = in_it r0 i.0 in
        let e1 = in_it r1 i.1.0 in
        let e2 = in_it r2 i.1.1.0 in
        record {
          some = some;
          inward = inward;
          first = r0;
          second = r1;
          third = r2;
          has_first = in_points r0 i.0;
          has_second = in_points r1 i.1.0;
          has_third = in_points r2 i.1.1.0;
          flat_first = e0;
          flat_second = e1;
          flat_third = e2;
          round = climbs (seen n some).scale (square_of n) (dot_of n (normal_of r0 r1 r2)) (face_left n r0 r1 r2)
              (seen n some).positive some
              ((seen n some).scaled r0 r1 r2 (flat_between ps sorted a n some r0 r1 e0 e1)
              (flat_between ps sorted a n some r0 r2 e0 e2))
              h.turns.0;
        }
