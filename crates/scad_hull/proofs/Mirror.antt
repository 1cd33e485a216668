-- Points by two coordinates make a plane in their order also where left and right are exchanged.
use Rattle.std.proofs.Common.{◌≡◌, [], ◌∷◌, refl, sym, arith}
use lib.IntN.{ℤ, pos, ◌+ℤ◌, ◌-ℤ◌}
use lib.Signed.{◌<ℤ◌, ◌≤ℤ◌}
use Rattle.std.proofs.lemmas.Int.{ints}
use Rattle.scad_geom.proofs.Ring.{ring, ◌⊕◌, ◌⊖◌, ◌⊗◌, v0, v1, v2, v3, v4, v5, v6, v7}
use Rattle.scad_hull.specs.Plane.{area, left, IsBefore}
use Rattle.scad_hull.proofs.Chains.{IsPlane}
use Rattle.scad_hull.proofs.Planar.{area_on, IsAfter, Same, plane, turned_plane}

module _ {X : Type 0} (f g : X → ℤ) where
  flipped : (a b c : X) → left g f a b c ≡ left f g a c b
  flipped a b c =
      ring (f a ∷ g a ∷ f b ∷ g b ∷ f c ∷ g c ∷ [])
      ((v3 ⊖ v1) ⊗ (v4 ⊖ v0) ⊖ (v2 ⊖ v0) ⊗ (v5 ⊖ v1))
      ((v4 ⊖ v0) ⊗ (v3 ⊖ v1) ⊖ (v5 ⊖ v1) ⊗ (v2 ⊖ v0)) refl

  equal_sign : (s t : ℤ) → s ≡ t → pos 0 ≤ℤ s → pos 0 ≤ℤ t
  equal_sign s t e h = omega (arith, ints)

  weaker : (s t : ℤ) → s ≡ t → pos 0 <ℤ s → pos 0 ≤ℤ t
  weaker s t e h = omega (arith, ints)

  added : (s t u : ℤ) → s ≡ t +ℤ u → pos 0 <ℤ t → pos 0 ≤ℤ u → pos 0 <ℤ s
  added s t u e h k = omega (arith, ints)

  -- ---- ways upwards
  -- q from the side from u to t
  to : (u t q : X) → left g f u t q ≡ area (f t -ℤ f u) (g t -ℤ g u) (f t -ℤ f q) (g t -ℤ g q)
  to u t q =
      ring (f u ∷ g u ∷ f t ∷ g t ∷ f q ∷ g q ∷ [])
      ((v3 ⊖ v1) ⊗ (v4 ⊖ v0) ⊖ (v2 ⊖ v0) ⊗ (v5 ⊖ v1))
      ((v2 ⊖ v0) ⊗ (v3 ⊖ v5) ⊖ (v3 ⊖ v1) ⊗ (v2 ⊖ v4)) refl

  on : (u t p : X) → left g f u t p ≡ area (f p -ℤ f t) (g p -ℤ g t) (f t -ℤ f u) (g t -ℤ g u)
  on u t p =
      ring (f u ∷ g u ∷ f t ∷ g t ∷ f p ∷ g p ∷ [])
      ((v3 ⊖ v1) ⊗ (v4 ⊖ v0) ⊖ (v2 ⊖ v0) ⊗ (v5 ⊖ v1))
      ((v4 ⊖ v2) ⊗ (v3 ⊖ v1) ⊖ (v5 ⊖ v3) ⊗ (v2 ⊖ v0)) refl

  from : (q t p : X) → area (f p -ℤ f t) (g p -ℤ g t) (f t -ℤ f q) (g t -ℤ g q) ≡ left g f t p q
  from q t p =
      ring (f q ∷ g q ∷ f t ∷ g t ∷ f p ∷ g p ∷ [])
      ((v4 ⊖ v2) ⊗ (v3 ⊖ v1) ⊖ (v5 ⊖ v3) ⊗ (v2 ⊖ v0))
      ((v5 ⊖ v3) ⊗ (v0 ⊖ v2) ⊖ (v4 ⊖ v2) ⊗ (v1 ⊖ v3)) refl

  sum : (a b c p : X) → left g f a b p ≡ left g f a b c +ℤ area (f p -ℤ f c) (g p -ℤ g c) (f b -ℤ f a)
      (g b -ℤ g a)
  sum a b c p =
      ring (f a ∷ g a ∷ f b ∷ g b ∷ f c ∷ g c ∷ f p ∷ g p ∷ [])
      ((v3 ⊖ v1) ⊗ (v6 ⊖ v0) ⊖ (v2 ⊖ v0) ⊗ (v7 ⊖ v1))
      (((v3 ⊖ v1) ⊗ (v4 ⊖ v0) ⊖ (v2 ⊖ v0) ⊗ (v5 ⊖ v1))
      ⊕ ((v6 ⊖ v4) ⊗ (v3 ⊖ v1) ⊖ (v7 ⊖ v5) ⊗ (v2 ⊖ v0))) refl

  at : (t u p : X) → area (f p -ℤ f t) (g p -ℤ g t) (f u -ℤ f t) (g u -ℤ g t) ≡ left g f t u p
  at t u p =
      ring (f t ∷ g t ∷ f u ∷ g u ∷ f p ∷ g p ∷ [])
      ((v4 ⊖ v0) ⊗ (v3 ⊖ v1) ⊖ (v5 ⊖ v1) ⊗ (v2 ⊖ v0))
      ((v3 ⊖ v1) ⊗ (v4 ⊖ v0) ⊖ (v2 ⊖ v0) ⊗ (v5 ⊖ v1)) refl

  amid_to : (u t q : X) → left g f u t q ≡ area (f t -ℤ f q) (g t -ℤ g q) (f u -ℤ f t) (g u -ℤ g t)
  amid_to u t q =
      ring (f u ∷ g u ∷ f t ∷ g t ∷ f q ∷ g q ∷ [])
      ((v3 ⊖ v1) ⊗ (v4 ⊖ v0) ⊖ (v2 ⊖ v0) ⊗ (v5 ⊖ v1))
      ((v2 ⊖ v4) ⊗ (v1 ⊖ v3) ⊖ (v3 ⊖ v5) ⊗ (v0 ⊖ v2)) refl

  abbrev Before : X → X → Type 0
  Before = IsBefore f g

  pub mirrored : IsPlane (left g f) Before (Same f g)
  mirrored =
      let straight = plane f g in
      let other = plane g f in
      record {
        turned = other.turned;
        swapped = other.swapped;
        ends = other.ends;
        still = λ a b c s. other.still a b c (s.1, s.0);
        either = straight.either;
        once = straight.once;
        later = straight.later;
        through = λ t p q w bp bq bw h k.
            equal_sign (left f g t q p) (left g f t p q) (sym (flipped t p q))
            (straight.through t q p w bq bp bw
            (equal_sign (left g f t p w) (left f g t w p) (flipped t p w) k)
            (equal_sign (left g f t w q) (left f g t q w) (flipped t w q) h));
        behind = λ q t u p bq bu bp h k.
            equal_sign (area (f p -ℤ f t) (g p -ℤ g t) (f t -ℤ f q) (g t -ℤ g q)) (left g f t p q) (from q t p)
            (area_on (f p -ℤ f t) (g p -ℤ g t) (f t -ℤ f u) (g t -ℤ g u) (f t -ℤ f q) (g t -ℤ g q) bp bu bq
            (weaker (left g f u t p) (area (f p -ℤ f t) (g p -ℤ g t) (f t -ℤ f u) (g t -ℤ g u)) (on u t p) k)
            (equal_sign (left g f u t q) (area (f t -ℤ f u) (g t -ℤ g u) (f t -ℤ f q) (g t -ℤ g q)) (to u t q)
            h));
        onward = λ a b c p ab bc cp h k.
            added (left g f a b p) (left g f a b c) (area (f p -ℤ f c) (g p -ℤ g c) (f b -ℤ f a) (g b -ℤ g a))
            (sum a b c p) h
            (area_on (f p -ℤ f c) (g p -ℤ g c) (f c -ℤ f b) (g c -ℤ g b) (f b -ℤ f a) (g b -ℤ g a) cp bc ab
            (weaker (left g f b c p) (area (f p -ℤ f c) (g p -ℤ g c) (f c -ℤ f b) (g c -ℤ g b)) (on b c p) k)
            (weaker (left g f a b c) (area (f c -ℤ f b) (g c -ℤ g b) (f b -ℤ f a) (g b -ℤ g a)) (on a b c) h));
        amid = λ q t u p bq bu bp h k.
            equal_sign (area (f p -ℤ f t) (g p -ℤ g t) (f u -ℤ f t) (g u -ℤ g t)) (left g f t u p) (at t u p)
            (area_on (f p -ℤ f t) (g p -ℤ g t) (f t -ℤ f q) (g t -ℤ g q) (f u -ℤ f t) (g u -ℤ g t) bp bq bu
            (equal_sign (left g f t p q) (area (f p -ℤ f t) (g p -ℤ g t) (f t -ℤ f q) (g t -ℤ g q))
            (sym (from q t p)) k)
            (equal_sign (left g f u t q) (area (f t -ℤ f q) (g t -ℤ g q) (f u -ℤ f t) (g u -ℤ g t))
            (amid_to u t q) h));
      }

  -- ---- the same turned by half a turn
  back_to : (u t q : X) → left g f u t q ≡ area (f u -ℤ f t) (g u -ℤ g t) (f q -ℤ f t) (g q -ℤ g t)
  back_to u t q =
      ring (f u ∷ g u ∷ f t ∷ g t ∷ f q ∷ g q ∷ [])
      ((v3 ⊖ v1) ⊗ (v4 ⊖ v0) ⊖ (v2 ⊖ v0) ⊗ (v5 ⊖ v1))
      ((v0 ⊖ v2) ⊗ (v5 ⊖ v3) ⊖ (v1 ⊖ v3) ⊗ (v4 ⊖ v2)) refl

  back_on : (u t p : X) → left g f u t p ≡ area (f t -ℤ f p) (g t -ℤ g p) (f u -ℤ f t) (g u -ℤ g t)
  back_on u t p =
      ring (f u ∷ g u ∷ f t ∷ g t ∷ f p ∷ g p ∷ [])
      ((v3 ⊖ v1) ⊗ (v4 ⊖ v0) ⊖ (v2 ⊖ v0) ⊗ (v5 ⊖ v1))
      ((v2 ⊖ v4) ⊗ (v1 ⊖ v3) ⊖ (v3 ⊖ v5) ⊗ (v0 ⊖ v2)) refl

  back_from : (q t p : X) → area (f t -ℤ f p) (g t -ℤ g p) (f q -ℤ f t) (g q -ℤ g t) ≡ left g f t p q
  back_from q t p =
      ring (f q ∷ g q ∷ f t ∷ g t ∷ f p ∷ g p ∷ [])
      ((v2 ⊖ v4) ⊗ (v1 ⊖ v3) ⊖ (v3 ⊖ v5) ⊗ (v0 ⊖ v2))
      ((v5 ⊖ v3) ⊗ (v0 ⊖ v2) ⊖ (v4 ⊖ v2) ⊗ (v1 ⊖ v3)) refl

  back_sum : (a b c p : X) → left g f a b p
      ≡ left g f a b c +ℤ area (f c -ℤ f p) (g c -ℤ g p) (f a -ℤ f b) (g a -ℤ g b)
  back_sum a b c p =
      ring (f a ∷ g a ∷ f b ∷ g b ∷ f c ∷ g c ∷ f p ∷ g p ∷ [])
      ((v3 ⊖ v1) ⊗ (v6 ⊖ v0) ⊖ (v2 ⊖ v0) ⊗ (v7 ⊖ v1))
      (((v3 ⊖ v1) ⊗ (v4 ⊖ v0) ⊖ (v2 ⊖ v0) ⊗ (v5 ⊖ v1))
      ⊕ ((v4 ⊖ v6) ⊗ (v1 ⊖ v3) ⊖ (v5 ⊖ v7) ⊗ (v0 ⊖ v2))) refl

  back_at : (t u p : X) → area (f t -ℤ f p) (g t -ℤ g p) (f t -ℤ f u) (g t -ℤ g u) ≡ left g f t u p
  back_at t u p =
      ring (f t ∷ g t ∷ f u ∷ g u ∷ f p ∷ g p ∷ [])
      ((v0 ⊖ v4) ⊗ (v1 ⊖ v3) ⊖ (v1 ⊖ v5) ⊗ (v0 ⊖ v2))
      ((v3 ⊖ v1) ⊗ (v4 ⊖ v0) ⊖ (v2 ⊖ v0) ⊗ (v5 ⊖ v1)) refl

  amid_back : (u t q : X) → left g f u t q ≡ area (f q -ℤ f t) (g q -ℤ g t) (f t -ℤ f u) (g t -ℤ g u)
  amid_back u t q =
      ring (f u ∷ g u ∷ f t ∷ g t ∷ f q ∷ g q ∷ [])
      ((v3 ⊖ v1) ⊗ (v4 ⊖ v0) ⊖ (v2 ⊖ v0) ⊗ (v5 ⊖ v1))
      ((v4 ⊖ v2) ⊗ (v3 ⊖ v1) ⊖ (v5 ⊖ v3) ⊗ (v2 ⊖ v0)) refl

  pub turned_mirrored : IsPlane (left g f) (IsAfter f g) (Same f g)
  turned_mirrored =
      let straight = turned_plane f g in
      let other = plane g f in
      record {
        turned = other.turned;
        swapped = other.swapped;
        ends = other.ends;
        still = λ a b c s. other.still a b c (s.1, s.0);
        either = straight.either;
        once = straight.once;
        later = straight.later;
        through = λ t p q w bp bq bw h k.
            equal_sign (left f g t q p) (left g f t p q) (sym (flipped t p q))
            (straight.through t q p w bq bp bw
            (equal_sign (left g f t p w) (left f g t w p) (flipped t p w) k)
            (equal_sign (left g f t w q) (left f g t q w) (flipped t w q) h));
        behind = λ q t u p bq bu bp h k.
            equal_sign (area (f t -ℤ f p) (g t -ℤ g p) (f q -ℤ f t) (g q -ℤ g t)) (left g f t p q)
            (back_from q t p)
            (area_on (f t -ℤ f p) (g t -ℤ g p) (f u -ℤ f t) (g u -ℤ g t) (f q -ℤ f t) (g q -ℤ g t) bp bu bq
            (weaker (left g f u t p) (area (f t -ℤ f p) (g t -ℤ g p) (f u -ℤ f t) (g u -ℤ g t)) (back_on u t p)
            k)
            (equal_sign (left g f u t q) (area (f u -ℤ f t) (g u -ℤ g t) (f q -ℤ f t) (g q -ℤ g t))
            (back_to u t q) h));
        onward = λ a b c p ab bc cp h k.
            added (left g f a b p) (left g f a b c) (area (f c -ℤ f p) (g c -ℤ g p) (f a -ℤ f b) (g a -ℤ g b))
            (back_sum a b c p) h
            (area_on (f c -ℤ f p) (g c -ℤ g p) (f b -ℤ f c) (g b -ℤ g c) (f a -ℤ f b) (g a -ℤ g b) cp bc ab
            (weaker (left g f b c p) (area (f c -ℤ f p) (g c -ℤ g p) (f b -ℤ f c) (g b -ℤ g c)) (back_on b c p)
            k)
            (weaker (left g f a b c) (area (f b -ℤ f c) (g b -ℤ g c) (f a -ℤ f b) (g a -ℤ g b)) (back_on a b c)
            h));
        amid = λ q t u p bq bu bp h k.
            equal_sign (area (f t -ℤ f p) (g t -ℤ g p) (f t -ℤ f u) (g t -ℤ g u)) (left g f t u p)
            (back_at t u p)
            (area_on (f t -ℤ f p) (g t -ℤ g p) (f q -ℤ f t) (g q -ℤ g t) (f t -ℤ f u) (g t -ℤ g u) bp bq bu
            (equal_sign (left g f t p q) (area (f t -ℤ f p) (g t -ℤ g p) (f q -ℤ f t) (g q -ℤ g t))
            (sym (back_from q t p)) k)
            (equal_sign (left g f u t q) (area (f q -ℤ f t) (g q -ℤ g t) (f t -ℤ f u) (g t -ℤ g u))
            (amid_back u t q) h));
      }
