-- Two faces that have a side in common, run the same way, are one; and so are two that have three points in common that
-- turn the same way in both.
use Rattle.std.proofs.Common.{◌≡◌, ◌⊎◌, inl, inr, ◌≤◌, length, List, [], ◌∷◌, refl, sym, ap, ◌∙◌, arith, subst, Option, Some, None}
use lib.IntN.{ℤ, pos, ◌+ℤ◌, ◌-ℤ◌, ◌*ℤ◌}
use lib.Signed.{◌<ℤ◌, ◌≤ℤ◌}
use Rattle.std.specs.List.{AllByRecursion, Contains}
use Rattle.std.specs.List.Sorted.{IsStrictlySortedBy}
use Rattle.std.proofs.lemmas.Int.{ints, by_lt_z}
use Rattle.std.proofs.lemmas.List.Elements.{All-contains}
use Rattle.scad_geom.specs.declared.point3.Pt3.{Pt3}
use Rattle.scad_geom.proofs.Ring.{ring, num, var, ◌⊕◌, ◌⊖◌, ◌⊗◌}
use Rattle.scad_geom.proofs.Signs.{at_least_left, at_least_mul, climbs}
use Rattle.scad_hull.specs.declared.turning.Normal.{Normal}
use Rattle.scad_hull.specs.Ring.{round, IsConvexRing}
use Rattle.scad_hull.specs.Space.{space_cmp, normal_of, depth_of, face_left, dot_of, square_of}
use Rattle.scad_hull.specs.Faces.{in_plane, face_in, face_through, IsFacePlane, IsSideOf, IsRing}
use Rattle.scad_hull.specs.Plane.{left, IsBefore}
use Rattle.scad_hull.proofs.FacePlanes.{ring_there, all_changed}
use Rattle.scad_hull.proofs.Fans.{HasSums, sums_of, RingTurns, Differ, fan_of}
use Rattle.scad_hull.proofs.Planar.{Same}
use Rattle.scad_hull.proofs.Lines.{nought_right}
use Rattle.scad_hull.proofs.PlaneRings.{InPlaneOrder, from_other}
use Rattle.scad_hull.proofs.SamePlanes.{face_found}
use Rattle.scad_hull.proofs.ViewAlong.{seen, scaled_x, scaled_y, scaled_z}
use Rattle.scad_hull.proofs.SharedSides.{AreInTurn}
use Rattle.scad_hull.proofs.SidesOf.{IsSideIn, of_ring, member, flat_at}
use Rattle.scad_hull.proofs.Whole.{recursion_of}

weak : (z : ℤ) → pos 0 <ℤ z → pos 0 ≤ℤ z
weak z h = omega (arith, ints)

not_none : (z : ℤ) → pos 0 <ℤ z → z ≡ pos 0 → ⊥
not_none z h e = omega (arith, ints)

flip : (a b : ℤ) → a *ℤ b ≡ b *ℤ a
flip a b = ring (a ∷ b ∷ []) (var 0 ⊗ var 1) (var 1 ⊗ var 0) refl

no_times : (k z : ℤ) → z ≡ pos 0 → k *ℤ z ≡ pos 0
no_times k z e = ap (λ (s : ℤ). k *ℤ s) e ∙ ring (k ∷ []) (var 0 ⊗ num (pos 0)) (num (pos 0)) refl

-- of positive multiples that are equal both are above 0 or none
pub up_on : (k l x y : ℤ) → pos 0 <ℤ k → pos 0 ≤ℤ l → k *ℤ x ≡ l *ℤ y → pos 0 ≤ℤ y
    → pos 0 ≤ℤ x
up_on k l x y hk hl e h =
    at_least_left x k hk (subst (λ (z : ℤ). pos 0 ≤ℤ z) (sym e ∙ flip k x) (at_least_mul l y hl h))

-- ---- points of a plane
module _ (n : Normal) (p q r : Pt3) (hq : depth_of n p q ≡ pos 0) (hr : depth_of n p r ≡ pos 0) where
  abbrev m : Normal
  m = normal_of p q r

  -- the plane through three of its points is it
  pub parallel : (s : Pt3) → square_of n *ℤ depth_of m p s ≡ dot_of n m *ℤ depth_of n p s
  parallel s =
      let N = square_of n in
      let d = dot_of n m in
      let X = s.x -ℤ p.x in
      let Y = s.y -ℤ p.y in
      let Z = s.z -ℤ p.z in
      ring (N ∷ m.x ∷ m.y ∷ m.z ∷ X ∷ Y ∷ Z ∷ [])
      (var 0 ⊗ (var 1 ⊗ var 4 ⊕ (var 2 ⊗ var 5 ⊕ var 3 ⊗ var 6)))
      ((var 0 ⊗ var 1) ⊗ var 4 ⊕ ((var 0 ⊗ var 2) ⊗ var 5 ⊕ (var 0 ⊗ var 3) ⊗ var 6)) refl
      ∙ (λ i. sym (scaled_x n p q r hq hr) i *ℤ X +ℤ
      (sym (scaled_y n p q r hq hr) i *ℤ Y +ℤ sym (scaled_z n p q r hq hr) i *ℤ Z))
      ∙ ring (d ∷ n.x ∷ n.y ∷ n.z ∷ X ∷ Y ∷ Z ∷ [])
      ((var 1 ⊗ var 0) ⊗ var 4 ⊕ ((var 2 ⊗ var 0) ⊗ var 5 ⊕ (var 3 ⊗ var 0) ⊗ var 6))
      (var 0 ⊗ (var 1 ⊗ var 4 ⊕ (var 2 ⊗ var 5 ⊕ var 3 ⊗ var 6))) refl

  -- as another normal sees it
  pub by_other : (g : Normal) → square_of n *ℤ dot_of g m ≡ dot_of n m *ℤ dot_of g n
  by_other g =
      let N = square_of n in
      let d = dot_of n m in
      ring (N ∷ g.x ∷ g.y ∷ g.z ∷ m.x ∷ m.y ∷ m.z ∷ [])
      (var 0 ⊗ (var 1 ⊗ var 4 ⊕ (var 2 ⊗ var 5 ⊕ var 3 ⊗ var 6)))
      (var 1 ⊗ (var 0 ⊗ var 4) ⊕ (var 2 ⊗ (var 0 ⊗ var 5) ⊕ var 3 ⊗ (var 0 ⊗ var 6))) refl
      ∙ (λ i. g.x *ℤ sym (scaled_x n p q r hq hr) i +ℤ
      (g.y *ℤ sym (scaled_y n p q r hq hr) i +ℤ g.z *ℤ sym (scaled_z n p q r hq hr) i))
      ∙ ring (d ∷ g.x ∷ g.y ∷ g.z ∷ n.x ∷ n.y ∷ n.z ∷ [])
      (var 1 ⊗ (var 4 ⊗ var 0) ⊕ (var 2 ⊗ (var 5 ⊗ var 0) ⊕ var 3 ⊗ (var 6 ⊗ var 0)))
      (var 0 ⊗ (var 1 ⊗ var 4 ⊕ (var 2 ⊗ var 5 ⊕ var 3 ⊗ var 6))) refl

pub exchanged : (a b c r : Pt3) → depth_of (normal_of a b r) a c ≡ pos 0 -ℤ depth_of (normal_of a b c) a r
exchanged a b c r =
    ring ((b.x -ℤ a.x) ∷ (b.y -ℤ a.y) ∷ (b.z -ℤ a.z) ∷ (c.x -ℤ a.x) ∷ (c.y -ℤ a.y) ∷ (c.z -ℤ a.z)
    ∷ (r.x -ℤ a.x) ∷ (r.y -ℤ a.y) ∷ (r.z -ℤ a.z) ∷ [])
    ((var 1 ⊗ var 8 ⊖ var 2 ⊗ var 7) ⊗ var 3
    ⊕ ((var 2 ⊗ var 6 ⊖ var 0 ⊗ var 8) ⊗ var 4 ⊕ (var 0 ⊗ var 7 ⊖ var 1 ⊗ var 6) ⊗ var 5))
    (num (pos 0) ⊖ ((var 1 ⊗ var 5 ⊖ var 2 ⊗ var 4) ⊗ var 6
    ⊕ ((var 2 ⊗ var 3 ⊖ var 0 ⊗ var 5) ⊗ var 7 ⊕ (var 0 ⊗ var 4 ⊖ var 1 ⊗ var 3) ⊗ var 8))) refl

some_is : (x y : List Pt3) → Some x ≡ Some y → x ≡ y
some_is x y e = ap value e
  where
    value : Option (List Pt3) → List Pt3
    value None = x
    value (Some z) = z

-- the depth as from another point of the plane
pub as_from : (n : Normal) (base a p : Pt3) → depth_of n base a ≡ pos 0 → depth_of n base p ≡ depth_of n a p
as_from n base a p e = same (depth_of n base a) (depth_of n base p) (depth_of n a p) e (from_other n base a p)
  where
    same : (u v w : ℤ) → u ≡ pos 0 → w ≡ v -ℤ u → v ≡ w
    same u v w e f = omega (arith, ints)

pub sums_in : (n : Normal) (some : pos 0 <ℤ square_of n) → HasSums (face_left n)
sums_in n some = by_order (seen n some).straight
  where
    by_order : (face_left n ≡ left (seen n some).f (seen n some).g)
        ⊎ (face_left n ≡ left (seen n some).g (seen n some).f)
        → HasSums (face_left n)
    by_order (inl e) = subst HasSums (sym e) (sums_of (seen n some).f (seen n some).g)
    by_order (inr e) = subst HasSums (sym e) (sums_of (seen n some).g (seen n some).f)

module _ (ps : List Pt3) where
  -- ---- three points in common
  module _ (a : Pt3) (n : Normal) (plane : IsFacePlane ps a n) (b : Pt3) (m : Normal) (other : IsFacePlane ps b m)
      (p q r : Pt3) (ip : Contains ps p) (iq : Contains ps q) (ir : Contains ps r) where
    through : (c : Pt3) (k : Normal) → IsFacePlane ps c k → depth_of k c p ≡ pos 0 → depth_of k c q ≡ pos 0
        → depth_of k c r ≡ pos 0
        → pos 0 <ℤ dot_of k (normal_of p q r) → face_through ps (p, q, r) ≡ Some (face_in ps c k)
    through c k plane_is hp hq hr h = face_found ps c k (record {
      some = plane_is.some;
      inward = plane_is.inward;
      first = p;
      second = q;
      third = r;
      has_first = ip;
      has_second = iq;
      has_third = ir;
      flat_first = hp;
      flat_second = hq;
      flat_third = hr;
      round = h;
    })

    pub one_face : depth_of n a p ≡ pos 0 → depth_of n a q ≡ pos 0 → depth_of n a r ≡ pos 0
        → pos 0 <ℤ dot_of n (normal_of p q r)
        → depth_of m b p ≡ pos 0 → depth_of m b q ≡ pos 0 → depth_of m b r ≡ pos 0
        → pos 0 <ℤ dot_of m (normal_of p q r) → face_in ps a n ≡ face_in ps b m
    one_face np nq nr nd mp mq mr md =
        some_is (face_in ps a n) (face_in ps b m)
        (sym (through a n plane np nq nr nd) ∙ through b m other mp mq mr md)

  -- ---- a side in common
  turns_up : (a b c : Pt3) (side : IsSideOf ps a b c) → pos 0 <ℤ dot_of side.normal (normal_of a b c)
  turns_up a b c side =
      let v = seen side.normal side.some in
      climbs v.scale (square_of side.normal) (dot_of side.normal (normal_of a b c)) (face_left side.normal a b c)
      v.positive side.some
      (v.scaled a b c side.flat side.flat_c) side.turns

  -- the third point of the other lies inside
  inside : (a b c d : Pt3) (side : IsSideOf ps a b c) → Contains ps d → pos 0 ≤ℤ depth_of (normal_of a b c) a d
  inside a b c d side i =
      up_on (square_of side.normal) (dot_of side.normal (normal_of a b c)) (depth_of (normal_of a b c) a d)
      (depth_of side.normal a d)
      side.some (weak (dot_of side.normal (normal_of a b c)) (turns_up a b c side))
      (parallel side.normal a b c side.flat side.flat_c d)
      (All-contains (λ p. pos 0 ≤ℤ depth_of side.normal a p) ps d side.inward i)

  module _ (a b c d : Pt3) (first : IsSideOf ps a b c) (second : IsSideOf ps a b d) where
    abbrev n : Normal
    n = first.normal

    no_depth : (x y : ℤ) → y ≡ pos 0 -ℤ x → pos 0 ≤ℤ x → pos 0 ≤ℤ y → x ≡ pos 0
    no_depth x y e h k = omega (arith, ints)

    pub third_flat : depth_of n a d ≡ pos 0
    third_flat =
        let x = depth_of (normal_of a b c) a d in
        let none : x ≡ pos 0 = no_depth x (depth_of (normal_of a b d) a c) (exchanged a b c d) (inside a b c d first second.has_c)
        (inside a b d c second first.has_c) in
        nought_right (dot_of n (normal_of a b c)) (depth_of n a d)
        (sym (parallel n a b c first.flat first.flat_c d) ∙ no_times (square_of n) x none)
        (not_none (dot_of n (normal_of a b c)) (turns_up a b c first))

    pub third_up : pos 0 <ℤ dot_of n (normal_of a b d)
    third_up = by_lt_z (pos 0) (dot_of n (normal_of a b d)) (λ h. h)
        (λ h. absurd (none (level (dot_of n (normal_of a b d)) not_below h)))
      where
        level : (z : ℤ) → pos 0 ≤ℤ z → z ≤ℤ pos 0 → z ≡ pos 0
        level z h k = omega (arith, ints)

        not_below : pos 0 ≤ℤ dot_of n (normal_of a b d)
        not_below =
            let v = seen n first.some in
            up_on v.scale (square_of n) (dot_of n (normal_of a b d)) (face_left n a b d) v.positive
            (weak (square_of n) first.some)
            (v.scaled a b d first.flat third_flat)
            (All-contains (λ p. depth_of n a p ≡ pos 0 → pos 0 ≤ℤ face_left n a b p) ps d first.left
            second.has_c third_flat)

        none : dot_of n (normal_of a b d) ≡ pos 0 → ⊥
        none e =
            not_none (dot_of second.normal (normal_of a b d)) (turns_up a b d second)
            (nought_right (square_of n) (dot_of second.normal (normal_of a b d))
            (by_other n a b d first.flat third_flat second.normal
            ∙ flip (dot_of n (normal_of a b d)) (dot_of second.normal n)
            ∙ no_times (dot_of second.normal n) (dot_of n (normal_of a b d)) e)
            (not_none (square_of n) first.some))

  module _ (sorted : IsStrictlySortedBy space_cmp ps) where
    convex_of : (r : List Pt3) (is : IsRing ps r)
        → IsConvexRing (face_left is.normal) (InPlaneOrder ps sorted is.base is.normal is.plane.some)
        (in_plane ps is.base is.normal) r
    convex_of r is = subst (IsConvexRing (face_left is.normal) (InPlaneOrder ps sorted is.base is.normal is.plane.some)
        (in_plane ps is.base is.normal))
        (sym is.is) (ring_there ps sorted is.base is.normal is.plane)

    -- it has corners, which differ, and the triangles of its fan turn its way
    pub ring_facts : (r : List Pt3) (is : IsRing ps r)
        → (3 ≤ length r) × RingTurns (face_left is.normal)
        (IsBefore (seen is.normal is.plane.some).f (seen is.normal is.plane.some).g)
        (Same (seen is.normal is.plane.some).f (seen is.normal is.plane.some).g) (seen is.normal is.plane.some).there
        (sums_in is.normal is.plane.some) r × Differ r
    ring_facts r is =
        let convex = convex_of r is in
        let v = seen is.normal is.plane.some in
        let fan = fan_of (face_left is.normal) (IsBefore v.f v.g) (Same v.f v.g) v.there (sums_in is.normal is.plane.some) (in_plane ps is.base is.normal) r convex in
        (convex.three, fan.0, fan.1)

    -- its corners are points of its plane
    pub corners_of : (r : List Pt3) (is : IsRing ps r)
        → AllByRecursion (λ q. Contains ps q × (depth_of is.normal is.base q ≡ pos 0)) r
    corners_of r is = all_changed (λ q i. (
      member ps sorted is.base is.normal is.plane q i,
      flat_at ps sorted is.base is.normal is.plane q i,
    )) r
        (recursion_of (Contains (in_plane ps is.base is.normal)) r (convex_of r is).corners)

    pub side_of : (r : List Pt3) (is : IsRing ps r) (a b c : Pt3) → AreInTurn (face_left is.normal) (round r) a b c
        → IsSideIn ps is.base is.normal a b c
    side_of r is a b c t = of_ring ps sorted is.base is.normal is.plane r (convex_of r is) a b c t

    pub one_side : (r s : List Pt3) (is : IsRing ps r) (too : IsRing ps s) (a b c d : Pt3)
        → AreInTurn (face_left is.normal) (round r) a b c → AreInTurn (face_left too.normal) (round s) a b d
        → r ≡ s
    one_side r s is too a b c d t u =
        let f = side_of r is a b c t in
        let g = side_of s too a b d u in
        is.is
        ∙ one_face is.base is.normal is.plane too.base too.normal too.plane a b d f.side.has_a f.side.has_b
        g.side.has_c
        f.flat_a f.flat_b
        (as_from is.normal is.base a d f.flat_a
        ∙ subst (λ k. depth_of k a d ≡ pos 0) f.same (third_flat a b c d f.side g.side))
        (subst (λ k. pos 0 <ℤ dot_of k (normal_of a b d)) f.same (third_up a b c d f.side g.side))
        g.flat_a g.flat_b g.flat_c
        (subst (λ k. pos 0 <ℤ dot_of k (normal_of a b d)) g.same (turns_up a b d g.side))
        ∙ sym too.is
