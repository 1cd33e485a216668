-- The face that is found beyond a side of a face has that side, turned round.
use Rattle.std.proofs.Common.{true, ◌≡◌, ◌⊎◌, inl, inr, List, [], ◌∷◌, ◌++◌, length, refl, sym, ap, ap₂, ◌∙◌, arith, subst}
use lib.IntN.{ℤ, pos, ◌+ℤ◌, ◌-ℤ◌, ◌*ℤ◌}
use lib.Signed.{◌<ℤ◌, ◌≤ℤ◌}
use Rattle.std.specs.List.{Contains}
use Rattle.std.specs.List.Sorted.{IsStrictlySortedBy}
use Rattle.std.proofs.lemmas.Int.{ints}
use Rattle.std.proofs.lemmas.List.Elements.{All-from_recursion, All-contains, All-contains_itself, All-filter}
use Rattle.scad_base.proofs.Products.{positive_product}
use Rattle.scad_geom.specs.Sign.{is_zero}
use Rattle.scad_geom.specs.declared.point3.Pt3.{Pt3}
use Rattle.scad_geom.proofs.Ring.{ring, num, var, ◌⊕◌, ◌⊖◌, ◌⊗◌}
use Rattle.scad_geom.proofs.Signs.{at_least_left, at_least_mul, pos_left, climbs}
use Rattle.scad_hull.specs.declared.faces.Face.{Face}
use Rattle.scad_hull.specs.declared.turning.Normal.{Normal}
use Rattle.scad_hull.specs.Plane.{left, IsOnward}
use Rattle.scad_hull.specs.Ring.{round, IsConvexRing}
use Rattle.scad_hull.specs.Space.{space_cmp, normal_of, depth_of, face_left, dot_of, square_of, IsOnLine, IsInFront, IsTurned}
use Rattle.scad_hull.specs.Faces.{in_plane, face_in, IsFacePlane, IsSideOf, GoesOn}
use Rattle.scad_hull.proofs.Lines.{nought_right}
use Rattle.scad_hull.proofs.Planar.{Same}
use Rattle.scad_hull.proofs.NextPlanes.{itself_in, on_side}
use Rattle.scad_hull.proofs.PlaneRings.{InPlaneOrder, Contains-filter, all_flat, flat_between}
use Rattle.scad_hull.proofs.FacePlanes.{second_in, third_in, ring_there}
use Rattle.scad_hull.proofs.FoundPlanes.{way_square, height_by, aside_by, plane_found}
use Rattle.scad_hull.proofs.Beyond.{apart}
use Rattle.scad_hull.proofs.Between.{side_in, side_on, seen_past, seen_from}
use Rattle.scad_hull.proofs.SharedSides.{shared_side}
use Rattle.scad_hull.proofs.ViewAlong.{seen, scaled_x, scaled_y, scaled_z}

weak : (z : ℤ) → pos 0 <ℤ z → pos 0 ≤ℤ z
weak z h = omega (arith, ints)

not_none : (z : ℤ) → pos 0 <ℤ z → z ≡ pos 0 → ⊥
not_none z h e = omega (arith, ints)

is_nought : (z : ℤ) → z ≡ pos 0 → pos 0 ≤ℤ z
is_nought z e = omega (arith, ints)

high : (a b : ℤ) → IsOnward a b → pos 0 ≤ℤ b
high a b (inl h) = omega (arith, ints)
high a b (inr h) = let e = h.0 in omega (arith, ints)

flip : (a b : ℤ) → a *ℤ b ≡ b *ℤ a
flip a b = ring (a ∷ b ∷ []) (var 0 ⊗ var 1) (var 1 ⊗ var 0) refl

no_times : (k : ℤ) → k *ℤ pos 0 ≡ pos 0
no_times k = ring (k ∷ []) (var 0 ⊗ num (pos 0)) (num (pos 0)) refl

-- a sum by weights of a normal that is a multiple of another
weighed : (s d kx ky kz nx ny nz mx my mz : ℤ) → nx *ℤ d ≡ s *ℤ mx → ny *ℤ d ≡ s *ℤ my
    → nz *ℤ d ≡ s *ℤ mz
    → s *ℤ (pos 0 -ℤ (kx *ℤ mx +ℤ (ky *ℤ my +ℤ kz *ℤ mz)))
    ≡ d *ℤ (pos 0 -ℤ (kx *ℤ nx +ℤ (ky *ℤ ny +ℤ kz *ℤ nz)))
weighed s d kx ky kz nx ny nz mx my mz ex ey ez =
    ring (s ∷ kx ∷ ky ∷ kz ∷ mx ∷ my ∷ mz ∷ [])
    (var 0 ⊗ (num (pos 0) ⊖ (var 1 ⊗ var 4 ⊕ (var 2 ⊗ var 5 ⊕ var 3 ⊗ var 6))))
    (num (pos 0) ⊖ (var 1 ⊗ (var 0 ⊗ var 4) ⊕ (var 2 ⊗ (var 0 ⊗ var 5) ⊕ var 3 ⊗ (var 0 ⊗ var 6))))
    refl
    ∙ (λ i. pos 0 -ℤ (kx *ℤ sym ex i +ℤ (ky *ℤ sym ey i +ℤ kz *ℤ sym ez i)))
    ∙ ring (d ∷ kx ∷ ky ∷ kz ∷ nx ∷ ny ∷ nz ∷ [])
    (num (pos 0) ⊖ (var 1 ⊗ (var 4 ⊗ var 0) ⊕ (var 2 ⊗ (var 5 ⊗ var 0) ⊕ var 3 ⊗ (var 6 ⊗ var 0))))
    (var 0 ⊗ (num (pos 0) ⊖ (var 1 ⊗ var 4 ⊕ (var 2 ⊗ var 5 ⊕ var 3 ⊗ var 6)))) refl

-- of two ways onwards along one line each is a positive multiple of the other
same_way : (s d ao ho aq hq : ℤ) → pos 0 <ℤ s → IsOnward ao ho → IsOnward aq hq → s *ℤ aq ≡ d *ℤ ao
    → s *ℤ hq ≡ d *ℤ ho → pos 0 ≤ℤ d
same_way s d ao ho aq hq hs (inl up) q ea eh =
    at_least_left d ho up (subst (λ (z : ℤ). pos 0 ≤ℤ z) eh (at_least_mul s hq (weak s hs) (high aq hq q)))
same_way s d ao ho aq hq hs (inr (flat, on)) (inl up) ea eh =
    absurd (not_none hq up (nought_right s hq (eh ∙ ap (λ (z : ℤ). d *ℤ z) flat ∙ no_times d) (not_none s hs)))
same_way s d ao ho aq hq hs (inr (flat, on)) (inr (level, too)) ea eh =
    weak d (pos_left d ao on (subst (λ (z : ℤ). pos 0 <ℤ z) ea (positive_product s aq hs too)))

-- ---- points of a line through a and b
-- the square of the way from a to b, times how far q lies along it
abbrev pub part : Pt3 → Pt3 → Pt3 → ℤ
part a b q = (b.x -ℤ a.x) *ℤ (q.x -ℤ a.x) +ℤ
    ((b.y -ℤ a.y) *ℤ (q.y -ℤ a.y) +ℤ (b.z -ℤ a.z) *ℤ (q.z -ℤ a.z))

module _ (a b q : Pt3) (line : IsOnLine a b q) where
  by_cross : (ux uy uz rx ry rz : ℤ) → uz *ℤ rx -ℤ ux *ℤ rz ≡ pos 0 → ux *ℤ ry -ℤ uy *ℤ rx ≡ pos 0
      → (ux *ℤ ux +ℤ (uy *ℤ uy +ℤ uz *ℤ uz)) *ℤ rx
      ≡ (ux *ℤ rx +ℤ (uy *ℤ ry +ℤ uz *ℤ rz)) *ℤ ux
  by_cross ux uy uz rx ry rz my mz =
      ring (ux ∷ uy ∷ uz ∷ rx ∷ ry ∷ rz ∷ [])
      ((var 0 ⊗ var 0 ⊕ (var 1 ⊗ var 1 ⊕ var 2 ⊗ var 2)) ⊗ var 3)
      ((var 0 ⊗ var 3 ⊕ (var 1 ⊗ var 4 ⊕ var 2 ⊗ var 5)) ⊗ var 0
      ⊕ (var 2 ⊗ (var 2 ⊗ var 3 ⊖ var 0 ⊗ var 5) ⊖ var 1 ⊗ (var 0 ⊗ var 4 ⊖ var 1 ⊗ var 3))) refl
      ∙ ap₂ (λ (s t : ℤ). (ux *ℤ rx +ℤ (uy *ℤ ry +ℤ uz *ℤ rz)) *ℤ ux +ℤ (uz *ℤ s -ℤ uy *ℤ t))
      my mz
      ∙ ring (((ux *ℤ rx +ℤ (uy *ℤ ry +ℤ uz *ℤ rz)) *ℤ ux) ∷ uy ∷ uz ∷ [])
      (var 0 ⊕ (var 2 ⊗ num (pos 0) ⊖ var 1 ⊗ num (pos 0))) (var 0) refl

  pub along_x : way_square a b *ℤ (q.x -ℤ a.x) ≡ part a b q *ℤ (b.x -ℤ a.x)
  along_x = by_cross (b.x -ℤ a.x) (b.y -ℤ a.y) (b.z -ℤ a.z) (q.x -ℤ a.x) (q.y -ℤ a.y) (q.z -ℤ a.z) line.y
      line.z

  pub along_y : way_square a b *ℤ (q.y -ℤ a.y) ≡ part a b q *ℤ (b.y -ℤ a.y)
  along_y =
      let x = b.x -ℤ a.x in
      let y = b.y -ℤ a.y in
      let z = b.z -ℤ a.z in
      let u = q.x -ℤ a.x in
      let v = q.y -ℤ a.y in
      let w = q.z -ℤ a.z in
      ring (x ∷ y ∷ z ∷ v ∷ [])
      ((var 0 ⊗ var 0 ⊕ (var 1 ⊗ var 1 ⊕ var 2 ⊗ var 2)) ⊗ var 3)
      ((var 1 ⊗ var 1 ⊕ (var 2 ⊗ var 2 ⊕ var 0 ⊗ var 0)) ⊗ var 3) refl
      ∙ by_cross y z x v w u line.z line.x
      ∙ ring (x ∷ y ∷ z ∷ u ∷ v ∷ w ∷ [])
      ((var 1 ⊗ var 4 ⊕ (var 2 ⊗ var 5 ⊕ var 0 ⊗ var 3)) ⊗ var 1)
      ((var 0 ⊗ var 3 ⊕ (var 1 ⊗ var 4 ⊕ var 2 ⊗ var 5)) ⊗ var 1) refl

  pub along_z : way_square a b *ℤ (q.z -ℤ a.z) ≡ part a b q *ℤ (b.z -ℤ a.z)
  along_z =
      let x = b.x -ℤ a.x in
      let y = b.y -ℤ a.y in
      let z = b.z -ℤ a.z in
      let u = q.x -ℤ a.x in
      let v = q.y -ℤ a.y in
      let w = q.z -ℤ a.z in
      ring (x ∷ y ∷ z ∷ w ∷ [])
      ((var 0 ⊗ var 0 ⊕ (var 1 ⊗ var 1 ⊕ var 2 ⊗ var 2)) ⊗ var 3)
      ((var 2 ⊗ var 2 ⊕ (var 0 ⊗ var 0 ⊕ var 1 ⊗ var 1)) ⊗ var 3) refl
      ∙ by_cross z x y w u v line.x line.y
      ∙ ring (x ∷ y ∷ z ∷ u ∷ v ∷ w ∷ [])
      ((var 2 ⊗ var 5 ⊕ (var 0 ⊗ var 3 ⊕ var 1 ⊗ var 4)) ⊗ var 2)
      ((var 0 ⊗ var 3 ⊕ (var 1 ⊗ var 4 ⊕ var 2 ⊗ var 5)) ⊗ var 2) refl

-- ---- the turns of a plane, by how far a point lies along a line in it
pub record IsAlong (turn : Pt3 → Pt3 → Pt3 → ℤ) (a b q : Pt3) (w t : ℤ) : Type 0 where
  pub into : (z : Pt3) → w *ℤ turn z a q ≡ t *ℤ turn z a b
  pub onto : (c : Pt3) → w *ℤ turn b c q ≡ (w -ℤ t) *ℤ turn a b c
  pub past : (o : Pt3) → w *ℤ turn o b q ≡ (w -ℤ t) *ℤ turn b a o
  pub from_a : (o : Pt3) → w *ℤ turn a o q ≡ t *ℤ turn b a o

along_by : (f g : Pt3 → ℤ) (a b q : Pt3) (w t : ℤ) → w *ℤ (f q -ℤ f a) ≡ t *ℤ (f b -ℤ f a)
    → w *ℤ (g q -ℤ g a) ≡ t *ℤ (g b -ℤ g a) → IsAlong (left f g) a b q w t
along_by f g a b q w t ef eg = record {
  into = side_in f g a b q w t ef eg;
  onto = side_on f g a b q w t ef eg;
  past = seen_past f g a b q w t ef eg;
  from_a = seen_from f g a b q w t ef eg;
}

pub along_in : (n : Normal) (some : pos 0 <ℤ square_of n) (a b q : Pt3) → IsOnLine a b q
    → IsAlong (face_left n) a b q (way_square a b) (part a b q)
along_in n some a b q line =
    by_order (seen n some).straight
    ((seen n some).along a b q (way_square a b) (part a b q) (along_x a b q line) (along_y a b q line)
    (along_z a b q line))
  where
    by_order : (face_left n ≡ left (seen n some).f (seen n some).g)
        ⊎ (face_left n ≡ left (seen n some).g (seen n some).f)
        → (way_square a b *ℤ ((seen n some).f q -ℤ (seen n some).f a)
        ≡ part a b q *ℤ ((seen n some).f b -ℤ (seen n some).f a))
        × (way_square a b *ℤ ((seen n some).g q -ℤ (seen n some).g a)
        ≡ part a b q *ℤ ((seen n some).g b -ℤ (seen n some).g a))
        → IsAlong (face_left n) a b q (way_square a b) (part a b q)
    by_order (inl e) both = subst (λ turn. IsAlong turn a b q (way_square a b) (part a b q)) (sym e)
        (along_by (seen n some).f (seen n some).g a b q (way_square a b) (part a b q) both.0 both.1)
    by_order (inr e) both = subst (λ turn. IsAlong turn a b q (way_square a b) (part a b q)) (sym e)
        (along_by (seen n some).g (seen n some).f a b q (way_square a b) (part a b q) both.1 both.0)

scaled_onward : (k a b : ℤ) → pos 0 <ℤ k → IsOnward a b → IsOnward a (k *ℤ b)
scaled_onward k a b h (inl up) = inl (positive_product k b h up)
scaled_onward k a b h (inr (e, on)) = inr (ap (λ (z : ℤ). k *ℤ z) e ∙ no_times k, on)

way_turned : (a b : Pt3) → way_square a b ≡ way_square b a
way_turned a b =
    ring (a.x ∷ a.y ∷ a.z ∷ b.x ∷ b.y ∷ b.z ∷ [])
    ((var 3 ⊖ var 0) ⊗ (var 3 ⊖ var 0)
    ⊕ ((var 4 ⊖ var 1) ⊗ (var 4 ⊖ var 1) ⊕ (var 5 ⊖ var 2) ⊗ (var 5 ⊖ var 2)))
    ((var 0 ⊖ var 3) ⊗ (var 0 ⊖ var 3)
    ⊕ ((var 1 ⊖ var 4) ⊗ (var 1 ⊖ var 4) ⊕ (var 2 ⊖ var 5) ⊗ (var 2 ⊖ var 5))) refl

-- ---- the found face
module _ (ps : List Pt3) (sorted : IsStrictlySortedBy space_cmp ps) (a b c : Pt3) (side : IsSideOf ps a b c) (n : Normal)
    (turned : IsTurned b a ps n (length ps)) where
  abbrev o : Pt3
  o = turned.met

  abbrev N : Normal
  N = normal_of b a o

  abbrev K : Normal
  K = turned.known

  long : pos 0 <ℤ way_square b a
  long = apart ps a b c side

  way : pos 0 <ℤ way_square a b
  way = subst (λ (z : ℤ). pos 0 <ℤ z) (sym (way_turned a b)) long

  plane : IsFacePlane ps b N
  plane = subst (IsFacePlane ps b) turned.is (plane_found ps b a n turned side.has_b side.has_a long)

  abbrev some : pos 0 <ℤ square_of N
  some = plane.some

  flat_a : depth_of N b a ≡ pos 0
  flat_a = second_in b a o

  flat_o : depth_of N b o ≡ pos 0
  flat_o = third_in b a o

  off : pos 0 <ℤ face_left N b a o
  off =
      climbs (square_of N) (seen N some).scale (face_left N b a o) (dot_of N (normal_of b a o)) some
      (seen N some).positive
      (sym ((seen N some).scaled b a o flat_a flat_o)) some

  module _ (q : Pt3) (e : depth_of N b q ≡ pos 0) where
    abbrev d : ℤ
    d = dot_of N (normal_of b a q)

    on_line : IsOnLine b a q → face_left N b a q ≡ pos 0
    on_line line =
        nought_right (square_of N) (face_left N b a q)
        (sym ((seen N some).scaled b a q flat_a e)
        ∙ (λ i. (seen N some).scale *ℤ (N.x *ℤ line.x i +ℤ (N.y *ℤ line.y i +ℤ N.z *ℤ line.z i)))
        ∙ ring ((seen N some).scale ∷ N.x ∷ N.y ∷ N.z ∷ [])
        (var 0 ⊗ (var 1 ⊗ num (pos 0) ⊕ (var 2 ⊗ num (pos 0) ⊕ var 3 ⊗ num (pos 0)))) (num (pos 0)) refl)
        (not_none (square_of N) some)

    as_weighed : (kx ky kz : ℤ) → square_of N *ℤ
        (pos 0 -ℤ (kx *ℤ (normal_of b a q).x +ℤ (ky *ℤ (normal_of b a q).y +ℤ kz *ℤ (normal_of b a q).z)))
        ≡ d *ℤ (pos 0 -ℤ (kx *ℤ N.x +ℤ (ky *ℤ N.y +ℤ kz *ℤ N.z)))
    as_weighed kx ky kz =
        weighed (square_of N) d kx ky kz N.x N.y N.z (normal_of b a q).x (normal_of b a q).y (normal_of b a q).z
        (scaled_x N b a q flat_a e) (scaled_y N b a q flat_a e) (scaled_z N b a q flat_a e)

    abbrev side_of : Pt3 → ℤ
    side_of r = (K.z *ℤ (a.y -ℤ b.y) -ℤ K.y *ℤ (a.z -ℤ b.z)) *ℤ (r.x -ℤ b.x)
        +ℤ ((K.x *ℤ (a.z -ℤ b.z) -ℤ K.z *ℤ (a.x -ℤ b.x)) *ℤ (r.y -ℤ b.y)
        +ℤ (K.y *ℤ (a.x -ℤ b.x) -ℤ K.x *ℤ (a.y -ℤ b.y)) *ℤ (r.z -ℤ b.z))

    sides_alike : square_of N *ℤ side_of q ≡ d *ℤ side_of o
    sides_alike =
        ap (λ (z : ℤ). square_of N *ℤ z) (aside_by K b a q turned.facing.upright long)
        ∙ as_weighed K.x K.y K.z ∙ ap (λ (z : ℤ). d *ℤ z) (sym (aside_by K b a o turned.facing.upright long))

    abbrev k0 : ℤ
    k0 = K.y *ℤ (a.z -ℤ b.z) -ℤ K.z *ℤ (a.y -ℤ b.y)

    abbrev k1 : ℤ
    k1 = K.z *ℤ (a.x -ℤ b.x) -ℤ K.x *ℤ (a.z -ℤ b.z)

    abbrev k2 : ℤ
    k2 = K.x *ℤ (a.y -ℤ b.y) -ℤ K.y *ℤ (a.x -ℤ b.x)

    heights_by : (r : Pt3) → way_square b a *ℤ depth_of K b r
        ≡ pos 0 -ℤ (k0 *ℤ (normal_of b a r).x +ℤ (k1 *ℤ (normal_of b a r).y +ℤ k2 *ℤ (normal_of b a r).z))
    heights_by r =
        let s = k0 *ℤ (normal_of b a r).x +ℤ (k1 *ℤ (normal_of b a r).y +ℤ k2 *ℤ (normal_of b a r).z) in
        let t = part b a r in
        height_by K b a r turned.facing.upright long ∙ ap (λ (z : ℤ). z *ℤ t -ℤ s) turned.facing.upright
        ∙ ring (t ∷ s ∷ []) (num (pos 0) ⊗ var 0 ⊖ var 1) (num (pos 0) ⊖ var 1) refl

    heights_alike : square_of N *ℤ (way_square b a *ℤ depth_of K b q)
        ≡ d *ℤ (way_square b a *ℤ depth_of K b o)
    heights_alike =
        ap (λ (z : ℤ). square_of N *ℤ z) (heights_by q) ∙ as_weighed k0 k1 k2
        ∙ ap (λ (z : ℤ). d *ℤ z) (sym (heights_by o))

    in_front : IsInFront K b a q → pos 0 ≤ℤ face_left N b a q
    in_front front =
        let v = seen N some in
        at_least_left (face_left N b a q) (square_of N) some
        (subst (λ (z : ℤ). pos 0 ≤ℤ z) (v.scaled b a q flat_a e ∙ flip (square_of N) (face_left N b a q))
        (at_least_mul v.scale d (weak v.scale v.positive)
        (same_way (square_of N) d (side_of o) (way_square b a *ℤ depth_of K b o) (side_of q)
        (way_square b a *ℤ depth_of K b q) some
        (scaled_onward (way_square b a) (side_of o) (depth_of K b o) long turned.front)
        (scaled_onward (way_square b a) (side_of q) (depth_of K b q) long front) sides_alike heights_alike)))

    by_front : IsOnLine b a q ⊎ IsInFront K b a q → pos 0 ≤ℤ face_left N b a q
    by_front (inl line) = is_nought (face_left N b a q) (on_line line)
    by_front (inr front) = in_front front

    inside : Contains ps q → pos 0 ≤ℤ face_left N b a q
    inside i = by_front (All-contains (λ p. IsOnLine b a p ⊎ IsInFront K b a p) ps q turned.facing.front i)

    -- ---- no point lies beyond the ends of the side
    module _ (i : Contains ps q) (l : face_left N b a q ≡ pos 0) where
      line : IsOnLine a b q
      line = on_side N some b a flat_a q e l

      abbrev W : ℤ
      W = way_square a b

      abbrev t : ℤ
      t = part a b q

      in_old : depth_of side.normal a q ≡ pos 0
      in_old =
          let m = side.normal in
          nought_right W (depth_of m a q)
          (ring (W ∷ m.x ∷ m.y ∷ m.z ∷ (q.x -ℤ a.x) ∷ (q.y -ℤ a.y) ∷ (q.z -ℤ a.z) ∷ [])
          (var 0 ⊗ (var 1 ⊗ var 4 ⊕ (var 2 ⊗ var 5 ⊕ var 3 ⊗ var 6)))
          (var 1 ⊗ (var 0 ⊗ var 4) ⊕ (var 2 ⊗ (var 0 ⊗ var 5) ⊕ var 3 ⊗ (var 0 ⊗ var 6))) refl
          ∙ (λ j. m.x *ℤ along_x a b q line j +ℤ
          (m.y *ℤ along_y a b q line j +ℤ m.z *ℤ along_z a b q line j))
          ∙ ring (t ∷ m.x ∷ m.y ∷ m.z ∷ (b.x -ℤ a.x) ∷ (b.y -ℤ a.y) ∷ (b.z -ℤ a.z) ∷ [])
          (var 1 ⊗ (var 0 ⊗ var 4) ⊕ (var 2 ⊗ (var 0 ⊗ var 5) ⊕ var 3 ⊗ (var 0 ⊗ var 6)))
          (var 0 ⊗ (var 1 ⊗ var 4 ⊕ (var 2 ⊗ var 5 ⊕ var 3 ⊗ var 6))) refl
          ∙ ap (λ (z : ℤ). t *ℤ z) side.flat ∙ no_times t) (not_none W way)

      old : IsAlong (face_left side.normal) a b q W t
      old = along_in side.normal side.some a b q line

      new : IsAlong (face_left N) a b q W t
      new = along_in N some a b q line

      past_a : pos 0 ≤ℤ t
      past_a =
          at_least_left t (face_left side.normal side.before a b) side.turns_before
          (subst (λ (z : ℤ). pos 0 ≤ℤ z) (old.into side.before)
          (at_least_mul W (face_left side.normal side.before a q) (weak W way)
          (All-contains (λ p. depth_of side.normal a p ≡ pos 0
          → pos 0 ≤ℤ face_left side.normal side.before a p) ps q side.left_before i in_old)))

      short_of_b : pos 0 ≤ℤ (W -ℤ t)
      short_of_b =
          at_least_left (W -ℤ t) (face_left side.normal a b c) side.turns
          (subst (λ (z : ℤ). pos 0 ≤ℤ z) (old.onto c)
          (at_least_mul W (face_left side.normal b c q) (weak W way)
          (All-contains (λ p. depth_of side.normal a p ≡ pos 0 → pos 0 ≤ℤ face_left side.normal b c p) ps q
          side.left_behind i in_old)))

      not_past_b : pos 0 ≤ℤ face_left N o b q
      not_past_b =
          at_least_left (face_left N o b q) W way
          (subst (λ (z : ℤ). pos 0 ≤ℤ z) (sym (new.past o) ∙ flip W (face_left N o b q))
          (at_least_mul (W -ℤ t) (face_left N b a o) short_of_b (weak (face_left N b a o) off)))

      not_past_a : pos 0 ≤ℤ face_left N a o q
      not_past_a =
          at_least_left (face_left N a o q) W way
          (subst (λ (z : ℤ). pos 0 ≤ℤ z) (sym (new.from_a o) ∙ flip W (face_left N a o q))
          (at_least_mul t (face_left N b a o) past_a (weak (face_left N b a o) off)))

  -- ---- the side
  abbrev Q : List Pt3
  Q = in_plane ps b N

  abbrev Before : Pt3 → Pt3 → Type 0
  Before = InPlaneOrder ps sorted b N some

  member : (q : Pt3) → Contains Q q → Contains ps q
  member q i = All-contains (Contains ps) Q q
      (All-filter (λ p. is_zero (depth_of N b p)) (Contains ps) ps (All-contains_itself ps)) i

  flat_at : (q : Pt3) → Contains Q q → depth_of N b q ≡ pos 0
  flat_at q i = All-contains (λ p. depth_of N b p ≡ pos 0) Q q
      (All-from_recursion (λ p. depth_of N b p ≡ pos 0) Q (all_flat ps sorted b N some)) i

  zero_is : (z : ℤ) → z ≡ pos 0 → is_zero z ≡ true
  zero_is z e = ap is_zero e

  has_b : Contains Q b
  has_b = Contains-filter (λ p. is_zero (depth_of N b p)) ps b side.has_b (zero_is (depth_of N b b) (itself_in N b))

  has_a : Contains Q a
  has_a = Contains-filter (λ p. is_zero (depth_of N b p)) ps a side.has_a (zero_is (depth_of N b a) flat_a)

  abbrev pub HasSide : List Pt3 → Type 0
  HasSide R = (before : List Pt3) × (after : List Pt3) × (round R ≡ before ++ (b ∷ (a ∷ after)))

  -- by two coordinates
  of_ring : (f g : Pt3 → ℤ) → ((p q : Pt3) → Contains Q p → Contains Q q → Same f g p q → p ≡ q)
      → (R : List Pt3) → pos 0 <ℤ left f g b a o → ((q : Pt3) → Contains Q q → pos 0 ≤ℤ left f g b a q)
      → ((q : Pt3) → Contains Q q → left f g b a q ≡ pos 0 → pos 0 ≤ℤ left f g o b q)
      → ((q : Pt3) → Contains Q q → left f g b a q ≡ pos 0 → pos 0 ≤ℤ left f g a o q)
      → IsConvexRing (left f g) Before Q R → HasSide R
  of_ring f g exact [] h i j k convex = absurd convex.starts
  of_ring f g exact (r0 ∷ []) h i j k convex = let l = convex.three in absurd (omega arith)
  of_ring f g exact (r0 ∷ (r1 ∷ [])) h i j k convex = let l = convex.three in absurd (omega arith)
  of_ring f g exact (r0 ∷ (r1 ∷ (r2 ∷ rs))) h i j k convex =
      shared_side f g b a o h Before Q r0 r1 r2 rs convex has_b has_a i j k exact

  abbrev Told : List Pt3 → (Pt3 → Pt3 → Pt3 → ℤ) → Type 0
  Told R turn = pos 0 <ℤ turn b a o → ((q : Pt3) → Contains Q q → pos 0 ≤ℤ turn b a q)
      → ((q : Pt3) → Contains Q q → turn b a q ≡ pos 0 → pos 0 ≤ℤ turn o b q)
      → ((q : Pt3) → Contains Q q → turn b a q ≡ pos 0 → pos 0 ≤ℤ turn a o q)
      → IsConvexRing turn Before Q R → HasSide R

  exact_at : (p q : Pt3) → Contains Q p → Contains Q q → Same (seen N some).f (seen N some).g p q → p ≡ q
  exact_at p q i j s = (seen N some).exact p q (flat_between ps sorted b N some p q (flat_at p i) (flat_at q j)) s

  by_order : (R : List Pt3) → (face_left N ≡ left (seen N some).f (seen N some).g)
      ⊎ (face_left N ≡ left (seen N some).g (seen N some).f)
      → Told R (face_left N)
  by_order R (inl e) = subst (Told R) (sym e) (of_ring (seen N some).f (seen N some).g exact_at R)
  by_order R (inr e) = subst (Told R) (sym e)
      (of_ring (seen N some).g (seen N some).f (λ p q i j s. exact_at p q i j (s.1, s.0)) R)

  pub side_beyond : HasSide (face_in ps b n)
  side_beyond = subst (λ m. HasSide (face_in ps b m)) (sym turned.is)
      (by_order (face_in ps b N) (seen N some).straight off (λ q i. inside q (flat_at q i) (member q i))
      (λ q i l. not_past_b q (flat_at q i) (member q i) l) (λ q i l. not_past_a q (flat_at q i) (member q i) l)
      (ring_there ps sorted b N plane))

  -- as the code holds it
  pub back_there : (f : Face) → f.ring.items ≡ face_in ps b n → GoesOn f.ring.items b a
  back_there f e = subst (λ ring. GoesOn ring b a) (sym e) side_beyond
