-- A face depends on its plane alone, and the plane of a face gives one of the faces.
use Rattle.std.proofs.Common.{◌≡◌, Bool, true, false, ◌&&◌, ◌||◌, List, [], ◌∷◌, refl, sym, ap, ap₂, ◌∙◌, arith, Some, None}
use lib.IntN.{ℤ, pos, negsuc, ◌+ℤ◌, ◌-ℤ◌, ◌*ℤ◌}
use lib.Signed.{◌<ℤ◌, ◌≤ℤ◌}
use Rattle.std.specs.Prelude.{int_lt, if◌then◌else◌, zero, suc}
use Rattle.std.specs.List.{AllByRecursion, list_any}
use Rattle.std.proofs.lemmas.Int.{ints, by_lt_z}
use Rattle.std.proofs.lemmas.List.Elements.{filter_agree}
use Rattle.scad_geom.specs.Sign.{is_zero}
use Rattle.scad_geom.specs.declared.point3.Pt3.{Pt3}
use Rattle.scad_geom.proofs.Ring.{ring, num, var, ◌⊕◌, ◌⊗◌}
use Rattle.scad_geom.proofs.Signs.{climbs, falls}
use Rattle.scad_hull.specs.declared.turning.Normal.{Normal}
use Rattle.scad_hull.specs.Chain.{ring_round}
use Rattle.scad_hull.specs.Space.{normal_of, depth_of, is_none, face_left, dot_of, square_of}
use Rattle.scad_hull.specs.Faces.{in_plane, face_in, face_by, face_through, IsFacePlane}
use Rattle.scad_hull.proofs.Lines.{nought_right}
use Rattle.scad_hull.proofs.ViewAlong.{turn_by, scaled_x, scaled_y, scaled_z}
use Rattle.scad_hull.proofs.PlaneRings.{from_other}
use Rattle.scad_hull.proofs.Whole.{recursion_of}

-- ---- signs of numbers that are positive multiples of one another
is_up : (z : ℤ) → pos 0 <ℤ z → int_lt (pos 0) z ≡ true
is_up z h = sym (omega (arith, ints))

not_up : (z : ℤ) → z ≤ℤ pos 0 → int_lt (pos 0) z ≡ false
not_up z h = sym (omega (arith, ints))

is_low : (z : ℤ) → z <ℤ pos 0 → int_lt z (pos 0) ≡ true
is_low z h = sym (omega (arith, ints))

not_low : (z : ℤ) → pos 0 ≤ℤ z → int_lt z (pos 0) ≡ false
not_low z h = sym (omega (arith, ints))

weak : (z : ℤ) → pos 0 <ℤ z → pos 0 ≤ℤ z
weak z h = omega (arith, ints)

weak_low : (z : ℤ) → z <ℤ pos 0 → z ≤ℤ pos 0
weak_low z h = omega (arith, ints)

level : (z : ℤ) → z ≤ℤ pos 0 → pos 0 ≤ℤ z → z ≡ pos 0
level z h k = omega (arith, ints)

up_some : (z : ℤ) → pos 0 <ℤ z → z ≡ pos 0 → ⊥
up_some z h e = omega (arith, ints)

low_some : (z : ℤ) → z <ℤ pos 0 → z ≡ pos 0 → ⊥
low_some z h e = omega (arith, ints)

not_zero : (z : ℤ) → (z ≡ pos 0 → ⊥) → is_zero z ≡ false
not_zero (pos zero) h = absurd (h refl)
not_zero (pos (suc n)) h = refl
not_zero (negsuc n) h = refl

-- the three tests of a sign
pub record AreAlike (x y : ℤ) : Type 0 where
  pub up : int_lt (pos 0) x ≡ int_lt (pos 0) y
  pub low : int_lt x (pos 0) ≡ int_lt y (pos 0)
  pub none : is_zero x ≡ is_zero y

pub alike : (k l x y : ℤ) → pos 0 <ℤ k → pos 0 <ℤ l → k *ℤ x ≡ l *ℤ y → AreAlike x y
alike k l x y hk hl e = by_lt_z (pos 0) y
    (λ h. above h (climbs k l x y hk hl e h))
    (λ h. by_lt_z y (pos 0) (λ m. below m (falls k l x y hk hl e m)) (λ m. zero_both (level y h m)))
  where
    above : pos 0 <ℤ y → pos 0 <ℤ x → AreAlike x y
    above h m = record {
      up = is_up x m ∙ sym (is_up y h);
      low = not_low x (weak x m) ∙ sym (not_low y (weak y h));
      none = not_zero x (up_some x m) ∙ sym (not_zero y (up_some y h));
    }

    below : y <ℤ pos 0 → x <ℤ pos 0 → AreAlike x y
    below h m = record {
      up = not_up x (weak_low x m) ∙ sym (not_up y (weak_low y h));
      low = is_low x m ∙ sym (is_low y h);
      none = not_zero x (low_some x m) ∙ sym (not_zero y (low_some y h));
    }

    zero_both : y ≡ pos 0 → AreAlike x y
    zero_both f =
        let g : x ≡ y = nought_right k x (e ∙ ap (λ (z : ℤ). l *ℤ z) f ∙ ring (l ∷ []) (var 0 ⊗ num (pos 0)) (num (pos 0)) refl)
        (up_some k hk) ∙ sym f in
        record {
          up = ap (λ (z : ℤ). int_lt (pos 0) z) g;
          low = ap (λ (z : ℤ). int_lt z (pos 0)) g;
          none
              = ap is_zero g;
        }

-- ---- one plane by two normals
any_agree : {X : Type 0} (p q : X → Bool) → ((x : X) → p x ≡ q x) → (xs : List X)
    → list_any p xs ≡ list_any q xs
any_agree p q same [] = refl
any_agree p q same (x ∷ xs) = ap₂ (λ a b. a || b) (same x) (any_agree p q same xs)

module _ (n m : Normal) (a b : Pt3) (k l : ℤ) (hk : pos 0 <ℤ k) (hl : pos 0 <ℤ l) (ex : k *ℤ n.x ≡ l *ℤ m.x)
    (ey : k *ℤ n.y ≡ l *ℤ m.y) (ez : k *ℤ n.z ≡ l *ℤ m.z) (flat : depth_of n a b ≡ pos 0) where
  x_alike : AreAlike n.x m.x
  x_alike = alike k l n.x m.x hk hl ex

  y_alike : AreAlike n.y m.y
  y_alike = alike k l n.y m.y hk hl ey

  z_alike : AreAlike n.z m.z
  z_alike = alike k l n.z m.z hk hl ez

  same_turn : face_left n ≡ face_left m
  same_turn = λ i. turn_by (x_alike.up i) (x_alike.low i) (y_alike.up i) (y_alike.low i) (z_alike.up i)

  same_none : is_none n ≡ is_none m
  same_none = λ i. x_alike.none i && (y_alike.none i && z_alike.none i)

  from_b : (p : Pt3) → depth_of n a p ≡ depth_of n b p
  from_b p = back (depth_of n a b) (depth_of n a p) (depth_of n b p) flat (from_other n a b p)
    where
      back : (u v w : ℤ) → u ≡ pos 0 → w ≡ v -ℤ u → v ≡ w
      back u v w e f = omega (arith, ints)

  depths : (p : Pt3) → k *ℤ depth_of n a p ≡ l *ℤ depth_of m b p
  depths p =
      let X = p.x -ℤ b.x in
      let Y = p.y -ℤ b.y in
      let Z = p.z -ℤ b.z in
      ap (λ (z : ℤ). k *ℤ z) (from_b p)
      ∙ ring (k ∷ n.x ∷ n.y ∷ n.z ∷ X ∷ Y ∷ Z ∷ [])
      (var 0 ⊗ (var 1 ⊗ var 4 ⊕ (var 2 ⊗ var 5 ⊕ var 3 ⊗ var 6)))
      ((var 0 ⊗ var 1) ⊗ var 4 ⊕ ((var 0 ⊗ var 2) ⊗ var 5 ⊕ (var 0 ⊗ var 3) ⊗ var 6)) refl
      ∙ (λ i. ex i *ℤ X +ℤ (ey i *ℤ Y +ℤ ez i *ℤ Z))
      ∙ ring (l ∷ m.x ∷ m.y ∷ m.z ∷ X ∷ Y ∷ Z ∷ [])
      ((var 0 ⊗ var 1) ⊗ var 4 ⊕ ((var 0 ⊗ var 2) ⊗ var 5 ⊕ (var 0 ⊗ var 3) ⊗ var 6))
      (var 0 ⊗ (var 1 ⊗ var 4 ⊕ (var 2 ⊗ var 5 ⊕ var 3 ⊗ var 6))) refl

  depth_alike : (p : Pt3) → AreAlike (depth_of n a p) (depth_of m b p)
  depth_alike p = alike k l (depth_of n a p) (depth_of m b p) hk hl (depths p)

  module _ (ps : List Pt3) where
    same_points : in_plane ps a n ≡ in_plane ps b m
    same_points = filter_agree (λ p. is_zero (depth_of n a p)) (λ p. is_zero (depth_of m b p))
        (λ p. (depth_alike p).none) ps

    same_outside : list_any (λ p. int_lt (depth_of n a p) (pos 0)) ps
        ≡ list_any (λ p. int_lt (depth_of m b p) (pos 0)) ps
    same_outside = any_agree (λ p. int_lt (depth_of n a p) (pos 0)) (λ p. int_lt (depth_of m b p) (pos 0))
        (λ p. (depth_alike p).low) ps

    pub same_ring : face_in ps a n ≡ face_in ps b m
    same_ring = ap₂ ring_round same_turn same_points

    pub same_face : face_by ps a n ≡ face_by ps b m
    same_face = λ i. if same_none i || same_outside i then None else Some (same_ring i)

-- ---- the plane of a face
some_normal : (n : Normal) → pos 0 <ℤ square_of n → is_none n ≡ false
some_normal n h = by_tests (is_zero n.x) (is_zero n.y) (is_zero n.z) refl refl refl
  where
    zero_is : (z : ℤ) → is_zero z ≡ true → z ≡ pos 0
    zero_is (pos zero) e = refl
    zero_is (pos (suc n)) e = cc
    zero_is (negsuc n) e = cc

    none : n.x ≡ pos 0 → n.y ≡ pos 0 → n.z ≡ pos 0 → ⊥
    none hx hy hz = up_some (square_of n) h (λ i. hx i *ℤ hx i +ℤ (hy i *ℤ hy i +ℤ hz i *ℤ hz i))

    by_tests : (a b c : Bool) → is_zero n.x ≡ a → is_zero n.y ≡ b → is_zero n.z ≡ c
        → (a && (b && c)) ≡ false
    by_tests false b c ea eb ec = refl
    by_tests true false c ea eb ec = refl
    by_tests true true false ea eb ec = refl
    by_tests true true true ea eb ec = absurd (none (zero_is n.x ea) (zero_is n.y eb) (zero_is n.z ec))

none_outside : (n : Normal) (a : Pt3) (ps : List Pt3) → AllByRecursion (λ p. pos 0 ≤ℤ depth_of n a p) ps
    → list_any (λ p. int_lt (depth_of n a p) (pos 0)) ps ≡ false
none_outside n a [] h = refl
none_outside n a (p ∷ ps) h = ap₂ (λ b c. b || c) (not_low (depth_of n a p) h.0) (none_outside n a ps h.1)

module _ (ps : List Pt3) (a : Pt3) (n : Normal) (plane : IsFacePlane ps a n) where
  pub face_there : face_by ps a n ≡ Some (face_in ps a n)
  face_there =
      ap₂ (λ (b c : Bool). if b || c then None else Some (face_in ps a n)) (some_normal n plane.some)
      (none_outside n a ps (recursion_of (λ p. pos 0 ≤ℤ depth_of n a p) ps plane.inward))

  abbrev m : Normal
  m = normal_of plane.first plane.second plane.third

  between : (p q : Pt3) → depth_of n a p ≡ pos 0 → depth_of n a q ≡ pos 0 → depth_of n p q ≡ pos 0
  between p q hp hq = less (depth_of n a p) (depth_of n a q) (depth_of n p q) hp hq (from_other n a p q)
    where
      less : (u v w : ℤ) → u ≡ pos 0 → v ≡ pos 0 → w ≡ v -ℤ u → w ≡ pos 0
      less u v w e f g = omega (arith, ints)

  flipped_factors : (s t u : ℤ) → s *ℤ t ≡ u → t *ℤ s ≡ u
  flipped_factors s t u e = ring (s ∷ t ∷ []) (var 1 ⊗ var 0) (var 0 ⊗ var 1) refl ∙ e

  -- it is the face through three points
  pub face_found : face_through ps (plane.first, plane.second, plane.third) ≡ Some (face_in ps a n)
  face_found =
      let e = between plane.first plane.second plane.flat_first plane.flat_second in
      let f = between plane.first plane.third plane.flat_first plane.flat_third in
      sym (same_face n m a plane.first (dot_of n m) (square_of n) plane.round plane.some
      (flipped_factors n.x (dot_of n m) (square_of n *ℤ m.x) (scaled_x n plane.first plane.second plane.third e f))
      (flipped_factors n.y (dot_of n m) (square_of n *ℤ m.y) (scaled_y n plane.first plane.second plane.third e f))
      (flipped_factors n.z (dot_of n m) (square_of n *ℤ m.z) (scaled_z n plane.first plane.second plane.third e f))
      plane.flat_first ps) ∙ face_there
