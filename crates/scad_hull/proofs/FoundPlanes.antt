-- What turning about the line through two points finds is the plane of a face.
use Rattle.std.proofs.Common.{◌≡◌, inl, inr, Bool, true, false, ◌&&◌, List, [], ◌∷◌, length, refl, sym, ◌∙◌, arith, subst}
use lib.IntN.{ℤ, pos, ◌+ℤ◌, ◌-ℤ◌, ◌*ℤ◌}
use lib.Signed.{◌<ℤ◌, ◌≤ℤ◌}
use Rattle.std.specs.List.{Contains, slice_index_or}
use Rattle.std.proofs.lemmas.Int.{ints}
use Rattle.std.proofs.lemmas.Bool.{and_parts}
use Rattle.scad_geom.specs.Sign.{is_zero}
use Rattle.scad_geom.specs.declared.point3.Pt3.{Pt3}
use Rattle.scad_geom.proofs.Ring.{Term, ring, num, var, ◌⊕◌, ◌⊖◌, ◌⊗◌}
use Rattle.scad_geom.proofs.Signs.{zero_true}
use Rattle.scad_hull.specs.declared.turning.Normal.{Normal}
use Rattle.scad_hull.specs.Space.{normal_of, depth_of, is_none, dot_of, square_of, IsInFront, IsTurned}
use Rattle.scad_hull.specs.Faces.{IsFacePlane}
use Rattle.scad_hull.proofs.Lines.{nought_right}
use Rattle.scad_hull.proofs.NextPlanes.{itself_in}
use Rattle.scad_hull.proofs.FacePlanes.{normal_some, second_in, third_in}

-- the square of the way from a to b
abbrev pub way_square : Pt3 → Pt3 → ℤ
way_square a b = (b.x -ℤ a.x) *ℤ (b.x -ℤ a.x) +ℤ
    ((b.y -ℤ a.y) *ℤ (b.y -ℤ a.y) +ℤ (b.z -ℤ a.z) *ℤ (b.z -ℤ a.z))

above : (z : ℤ) → pos 0 <ℤ z → z ≡ pos 0 → ⊥
above z h e = omega (arith, ints)

module _ (n : Normal) (a b p : Pt3) (upright : depth_of n a b ≡ pos 0) (apart : pos 0 <ℤ way_square a b) where
  abbrev m : Normal
  m = normal_of a b p

  abbrev along : ℤ
  along = (b.x -ℤ a.x) *ℤ (p.x -ℤ a.x) +ℤ
      ((b.y -ℤ a.y) *ℤ (p.y -ℤ a.y) +ℤ (b.z -ℤ a.z) *ℤ (p.z -ℤ a.z))

  pub height_by : way_square a b *ℤ depth_of n a p ≡ depth_of n a b *ℤ along
      -ℤ ((n.y *ℤ (b.z -ℤ a.z) -ℤ n.z *ℤ (b.y -ℤ a.y)) *ℤ m.x
      +ℤ ((n.z *ℤ (b.x -ℤ a.x) -ℤ n.x *ℤ (b.z -ℤ a.z)) *ℤ m.y
      +ℤ (n.x *ℤ (b.y -ℤ a.y) -ℤ n.y *ℤ (b.x -ℤ a.x)) *ℤ m.z))
  height_by =
      let dot = λ (r s t u v w : Term). r ⊗ u ⊕ (s ⊗ v ⊕ t ⊗ w) in
      let W = λ (r s t u : Term). r ⊗ s ⊖ t ⊗ u in
      ring (n.x ∷ n.y ∷ n.z ∷ (b.x -ℤ a.x) ∷ (b.y -ℤ a.y) ∷ (b.z -ℤ a.z) ∷ (p.x -ℤ a.x)
      ∷ (p.y -ℤ a.y) ∷ (p.z -ℤ a.z) ∷ [])
      (dot (var 3) (var 4) (var 5) (var 3) (var 4) (var 5) ⊗ dot (var 0) (var 1) (var 2) (var 6) (var 7) (var 8))
      (dot (var 0) (var 1) (var 2) (var 3) (var 4) (var 5) ⊗ dot (var 3) (var 4) (var 5) (var 6) (var 7) (var 8)
      ⊖ dot (W (var 1) (var 5) (var 2) (var 4)) (W (var 2) (var 3) (var 0) (var 5))
      (W (var 0) (var 4) (var 1) (var 3))
      (W (var 4) (var 8) (var 5) (var 7)) (W (var 5) (var 6) (var 3) (var 8)) (W (var 3) (var 7) (var 4) (var 6))) refl

  pub aside_by : (n.z *ℤ (b.y -ℤ a.y) -ℤ n.y *ℤ (b.z -ℤ a.z)) *ℤ (p.x -ℤ a.x)
      +ℤ ((n.x *ℤ (b.z -ℤ a.z) -ℤ n.z *ℤ (b.x -ℤ a.x)) *ℤ (p.y -ℤ a.y)
      +ℤ (n.y *ℤ (b.x -ℤ a.x) -ℤ n.x *ℤ (b.y -ℤ a.y)) *ℤ (p.z -ℤ a.z)) ≡ pos 0 -ℤ dot_of n m
  aside_by =
      ring (n.x ∷ n.y ∷ n.z ∷ (b.x -ℤ a.x) ∷ (b.y -ℤ a.y) ∷ (b.z -ℤ a.z) ∷ (p.x -ℤ a.x)
      ∷ (p.y -ℤ a.y) ∷ (p.z -ℤ a.z) ∷ [])
      ((var 2 ⊗ var 4 ⊖ var 1 ⊗ var 5) ⊗ var 6
      ⊕ ((var 0 ⊗ var 5 ⊖ var 2 ⊗ var 3) ⊗ var 7 ⊕ (var 1 ⊗ var 3 ⊖ var 0 ⊗ var 4) ⊗ var 8))
      (num (pos 0) ⊖ (var 0 ⊗ (var 4 ⊗ var 8 ⊖ var 5 ⊗ var 7)
      ⊕ (var 1 ⊗ (var 5 ⊗ var 6 ⊖ var 3 ⊗ var 8) ⊕ var 2 ⊗ (var 3 ⊗ var 7 ⊖ var 4 ⊗ var 6)))) refl

  nothing : (h s t u v : ℤ) → h *ℤ s -ℤ (t *ℤ pos 0 +ℤ (u *ℤ pos 0 +ℤ v *ℤ pos 0)) ≡ h *ℤ s
  nothing h s t u v =
      ring (h ∷ s ∷ t ∷ u ∷ v ∷ [])
      (var 0 ⊗ var 1 ⊖ (var 2 ⊗ num (pos 0) ⊕ (var 3 ⊗ num (pos 0) ⊕ var 4 ⊗ num (pos 0))))
      (var 0 ⊗ var 1) refl

  on_no_side : IsInFront n a b p → m.x ≡ pos 0 → m.y ≡ pos 0 → m.z ≡ pos 0 → ⊥
  on_no_side front hx hy hz = by_front front
    where
      flat : depth_of n a p ≡ pos 0
      flat =
          let n0 = n.y *ℤ (b.z -ℤ a.z) -ℤ n.z *ℤ (b.y -ℤ a.y) in
          let n1 = n.z *ℤ (b.x -ℤ a.x) -ℤ n.x *ℤ (b.z -ℤ a.z) in
          let n2 = n.x *ℤ (b.y -ℤ a.y) -ℤ n.y *ℤ (b.x -ℤ a.x) in
          nought_right (way_square a b) (depth_of n a p)
          (height_by ∙ (λ i. upright i *ℤ along -ℤ (n0 *ℤ hx i +ℤ (n1 *ℤ hy i +ℤ n2 *ℤ hz i)))
          ∙ nothing (pos 0) along n0 n1 n2 ∙ ring (along ∷ []) (num (pos 0) ⊗ var 0) (num (pos 0)) refl)
          (above (way_square a b) apart)

      no_aside : dot_of n m ≡ pos 0
      no_aside = (λ i. n.x *ℤ hx i +ℤ (n.y *ℤ hy i +ℤ n.z *ℤ hz i))
          ∙ ring (n.x ∷ n.y ∷ n.z ∷ [])
          (var 0 ⊗ num (pos 0) ⊕ (var 1 ⊗ num (pos 0) ⊕ var 2 ⊗ num (pos 0))) (num (pos 0)) refl

      turned_round : (s t : ℤ) → s ≡ pos 0 -ℤ t → t ≡ pos 0 → s ≡ pos 0
      turned_round s t e h = omega (arith, ints)

      by_front : IsInFront n a b p → ⊥
      by_front (inl h) = above (depth_of n a p) h flat
      by_front (inr h) = above _ h.1 (turned_round _ (dot_of n m) aside_by no_aside)

  pub front_some : IsInFront n a b p → pos 0 <ℤ square_of m
  front_some front = by_test (is_none m) refl
    where
      by_test : (t : Bool) → is_none m ≡ t → pos 0 <ℤ square_of m
      by_test false e = normal_some m e
      by_test true e =
          let first = and_parts (is_zero m.x) (is_zero m.y && is_zero m.z) e in
          let rest = and_parts (is_zero m.y) (is_zero m.z) first.1 in
          absurd (on_no_side front (zero_true m.x first.0) (zero_true m.y rest.0) (zero_true m.z rest.1))

module _ (ps : List Pt3) (a b : Pt3) (n : Normal) (turned : IsTurned a b ps n (length ps)) (ia : Contains ps a)
    (ib : Contains ps b) (apart : pos 0 <ℤ way_square a b) where
  abbrev found : Normal
  found = normal_of a b turned.met

  some : pos 0 <ℤ square_of found
  some = front_some turned.known a b turned.met turned.facing.upright apart turned.front

  pub plane_found : IsFacePlane ps a n
  plane_found = subst (IsFacePlane ps a) (sym turned.is) (record {
    some = some;
    inward = λ k d i. subst (λ r. pos 0 ≤ℤ depth_of r a (slice_index_or ps k d)) turned.is (turned.inward k d i);
    first = a;
    second = b;
    third = turned.met;
    has_first = ia;
    has_second = ib;
    has_third = turned.there;
    flat_first = itself_in found a;
    flat_second = second_in a b turned.met;
    flat_third = third_in a b turned.met;
    round = some;
  })
