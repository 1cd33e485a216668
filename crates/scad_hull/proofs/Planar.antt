-- Points by two coordinates make a plane, in the order of the second and then the first, and in the opposite order.
use Rattle.std.proofs.Common.{◌≡◌, ◌⊎◌, inl, inr, [], ◌∷◌, refl, sym, ap, ap₂, ◌∙◌, arith, subst}
use lib.IntN.{ℤ, pos, ◌+ℤ◌, ◌-ℤ◌, ◌*ℤ◌}
use lib.Signed.{◌<ℤ◌, ◌≤ℤ◌}
use Rattle.std.proofs.lemmas.Int.{ints, by_lt_z}
use Rattle.scad_geom.proofs.Ring.{ring, num, ◌⊕◌, ◌⊖◌, ◌⊗◌, v0, v1, v2, v3, v4, v5, v6, v7}
use Rattle.scad_geom.proofs.Signs.{at_least_left, at_least_mul}
use Rattle.scad_hull.specs.Plane.{area, left, IsOnward, IsBefore}
use Rattle.scad_hull.proofs.Chains.{IsPlane}

-- ---- ways, as pairs of numbers
high : (a b : ℤ) → IsOnward a b → pos 0 ≤ℤ b
high a b (inl h) = omega (arith, ints)
high a b (inr h) = let e = h.0 in omega (arith, ints)

join : (a b c d e f : ℤ) → d *ℤ area a b e f ≡ b *ℤ area c d e f +ℤ f *ℤ area a b c d
join a b c d e f =
    ring (a ∷ b ∷ c ∷ d ∷ e ∷ f ∷ []) (v3 ⊗ (v0 ⊗ v5 ⊖ v1 ⊗ v4))
    (v1 ⊗ (v2 ⊗ v5 ⊖ v3 ⊗ v4) ⊕ v5 ⊗ (v0 ⊗ v3 ⊖ v1 ⊗ v2)) refl

flat_area : (a b c d : ℤ) → d ≡ pos 0 → area a b c d ≡ pos 0 -ℤ b *ℤ c
flat_area a b c d e = ap (λ (z : ℤ). a *ℤ z -ℤ b *ℤ c) e
    ∙ ring (a ∷ b ∷ c ∷ []) (v0 ⊗ num (pos 0) ⊖ v1 ⊗ v2) (num (pos 0) ⊖ v1 ⊗ v2) refl

flat_first : (a b c d : ℤ) → b ≡ pos 0 → area a b c d ≡ a *ℤ d
flat_first a b c d e = ap (λ (z : ℤ). a *ℤ d -ℤ z *ℤ c) e
    ∙ ring (a ∷ c ∷ d ∷ []) (v0 ⊗ v2 ⊖ num (pos 0) ⊗ v1) (v0 ⊗ v2) refl

product_flip : (a b : ℤ) → a *ℤ b ≡ b *ℤ a
product_flip a b = ring (a ∷ b ∷ []) (v0 ⊗ v1) (v1 ⊗ v0) refl

from_product : (b c : ℤ) → pos 0 <ℤ c → pos 0 ≤ℤ (pos 0 -ℤ b *ℤ c) → pos 0 ≤ℤ b → b ≡ pos 0
from_product b c h k l =
    let m = at_least_left (pos 0 -ℤ b) c h (subst (λ (z : ℤ). pos 0 ≤ℤ z)
    (ring (b ∷ c ∷ []) (num (pos 0) ⊖ v0 ⊗ v1) ((num (pos 0) ⊖ v0) ⊗ v1) refl) k) in
    omega (arith, ints)

-- to the left of what is to the left
pub area_on : (a b c d e f : ℤ) → IsOnward a b → IsOnward c d → IsOnward e f → pos 0 ≤ℤ area a b c d
    → pos 0 ≤ℤ area c d e f → pos 0 ≤ℤ area a b e f
area_on a b c d e f u (inl v) w h k =
    at_least_left (area a b e f) d v (subst (λ (z : ℤ). pos 0 ≤ℤ z)
    (sym (join a b c d e f) ∙ product_flip d (area a b e f))
    (sum (b *ℤ area c d e f) (f *ℤ area a b c d) (at_least_mul b (area c d e f) (high a b u) k)
    (at_least_mul f (area a b c d) (high e f w) h)))
  where
    sum : (s t : ℤ) → pos 0 ≤ℤ s → pos 0 ≤ℤ t → pos 0 ≤ℤ (s +ℤ t)
    sum s t x y = omega (arith, ints)
area_on a b c d e f u (inr v) w h k =
    let flat : b ≡ pos 0 = from_product b c v.1 (subst (λ (z : ℤ). pos 0 ≤ℤ z) (flat_area a b c d v.0) h)
    (high a b u) in
    subst (λ (z : ℤ). pos 0 ≤ℤ z) (sym (flat_first a b e f flat)) (at_least_mul a f (right u flat) (high e f w))
  where
    right : IsOnward a b → b ≡ pos 0 → pos 0 ≤ℤ a
    right (inl l) z = absurd (omega (arith, ints))
    right (inr l) z = let r = l.1 in omega (arith, ints)

as_more : (s t u : ℤ) → t ≡ u → pos 0 ≤ℤ u → s ≡ t → pos 0 ≤ℤ s
as_more s t u e h f = omega (arith, ints)

module _ {X : Type 0} (f g : X → ℤ) where
  abbrev pub IsAfter : X → X → Type 0
  IsAfter a b = IsBefore f g b a

  abbrev pub Same : X → X → Type 0
  Same a b = (f a ≡ f b) × (g a ≡ g b)

  turned : (a b c : X) → left f g a c b ≡ pos 0 -ℤ left f g a b c
  turned a b c =
      ring (f a ∷ g a ∷ f b ∷ g b ∷ f c ∷ g c ∷ [])
      ((v4 ⊖ v0) ⊗ (v3 ⊖ v1) ⊖ (v5 ⊖ v1) ⊗ (v2 ⊖ v0))
      (num (pos 0) ⊖ ((v2 ⊖ v0) ⊗ (v5 ⊖ v1) ⊖ (v3 ⊖ v1) ⊗ (v4 ⊖ v0))) refl

  swapped : (a b c : X) → left f g b a c ≡ pos 0 -ℤ left f g a b c
  swapped a b c =
      ring (f a ∷ g a ∷ f b ∷ g b ∷ f c ∷ g c ∷ [])
      ((v0 ⊖ v2) ⊗ (v5 ⊖ v3) ⊖ (v1 ⊖ v3) ⊗ (v4 ⊖ v2))
      (num (pos 0) ⊖ ((v2 ⊖ v0) ⊗ (v5 ⊖ v1) ⊖ (v3 ⊖ v1) ⊗ (v4 ⊖ v0))) refl

  ends : (a b : X) → left f g a b b ≡ pos 0
  ends a b = ring (f a ∷ g a ∷ f b ∷ g b ∷ []) ((v2 ⊖ v0) ⊗ (v3 ⊖ v1) ⊖ (v3 ⊖ v1) ⊗ (v2 ⊖ v0))
      (num (pos 0)) refl

  still : (a b c : X) → Same a c → left f g a b c ≡ pos 0
  still a b c s =
      ap₂ (λ (u v : ℤ). (f b -ℤ f a) *ℤ (v -ℤ g a) -ℤ (g b -ℤ g a) *ℤ (u -ℤ f a)) (sym s.0) (sym s.1)
      ∙ ring (f a ∷ g a ∷ f b ∷ g b ∷ []) ((v2 ⊖ v0) ⊗ (v1 ⊖ v1) ⊖ (v3 ⊖ v1) ⊗ (v0 ⊖ v0))
      (num (pos 0)) refl

  either : (p q : X) → IsBefore f g p q ⊎ (Same q p ⊎ IsBefore f g q p)
  either p q = by_lt_z (g p) (g q) (λ h. inl (inl (omega (arith, ints))))
      (λ h. by_lt_z (g q) (g p) (λ k. inr (inr (inl (omega (arith, ints)))))
      (λ k. by_lt_z (f p) (f q) (λ m. inl (inr (omega (arith, ints), omega (arith, ints))))
      (λ m. by_lt_z (f q) (f p) (λ n. inr (inr (inr (omega (arith, ints), omega (arith, ints)))))
      (λ n. inr (inl (omega (arith, ints), omega (arith, ints)))))))

  once : (p q : X) → IsBefore f g p q → IsBefore f g q p → ⊥
  once p q (inl h) (inl k) = omega (arith, ints)
  once p q (inl h) (inr k) = let e = k.0 in omega (arith, ints)
  once p q (inr h) (inl k) = let e = h.0 in omega (arith, ints)
  once p q (inr h) (inr k) = let e = h.1 in let d = k.1 in omega (arith, ints)

  later : (p q r : X) → IsBefore f g p q → IsBefore f g q r → IsBefore f g p r
  later p q r (inl h) (inl k) = inl (omega (arith, ints))
  later p q r (inl h) (inr k) = let e = k.0 in inl (omega (arith, ints))
  later p q r (inr h) (inl k) = let e = h.0 in inl (omega (arith, ints))
  later p q r (inr h) (inr k) =
      let e = h.0 in
      let d = k.0 in
      let m = h.1 in
      let n = k.1 in
      inr (omega (arith, ints), omega (arith, ints))

  -- ways added, and turned round
  sum_left : (a b c p : X) → left f g a b p
      ≡ left f g a b c +ℤ area (f b -ℤ f a) (g b -ℤ g a) (f p -ℤ f c) (g p -ℤ g c)
  sum_left a b c p =
      ring (f a ∷ g a ∷ f b ∷ g b ∷ f c ∷ g c ∷ f p ∷ g p ∷ [])
      ((v2 ⊖ v0) ⊗ (v7 ⊖ v1) ⊖ (v3 ⊖ v1) ⊗ (v6 ⊖ v0))
      (((v2 ⊖ v0) ⊗ (v5 ⊖ v1) ⊖ (v3 ⊖ v1) ⊗ (v4 ⊖ v0))
      ⊕ ((v2 ⊖ v0) ⊗ (v7 ⊖ v5) ⊖ (v3 ⊖ v1) ⊗ (v6 ⊖ v4))) refl

  pub left_on : (a b c : X) → left f g a b c ≡ area (f b -ℤ f a) (g b -ℤ g a) (f c -ℤ f b) (g c -ℤ g b)
  left_on a b c =
      ring (f a ∷ g a ∷ f b ∷ g b ∷ f c ∷ g c ∷ [])
      ((v2 ⊖ v0) ⊗ (v5 ⊖ v1) ⊖ (v3 ⊖ v1) ⊗ (v4 ⊖ v0))
      ((v2 ⊖ v0) ⊗ (v5 ⊖ v3) ⊖ (v3 ⊖ v1) ⊗ (v4 ⊖ v2)) refl

  -- from q over t to p
  left_from : (q t p : X) → area (f t -ℤ f q) (g t -ℤ g q) (f p -ℤ f t) (g p -ℤ g t) ≡ left f g t p q
  left_from q t p =
      ring (f q ∷ g q ∷ f t ∷ g t ∷ f p ∷ g p ∷ [])
      ((v2 ⊖ v0) ⊗ (v5 ⊖ v3) ⊖ (v3 ⊖ v1) ⊗ (v4 ⊖ v2))
      ((v4 ⊖ v2) ⊗ (v1 ⊖ v3) ⊖ (v5 ⊖ v3) ⊗ (v0 ⊖ v2)) refl

  -- q from the side from u to t
  left_to : (u t q : X) → left f g u t q ≡ area (f t -ℤ f q) (g t -ℤ g q) (f t -ℤ f u) (g t -ℤ g u)
  left_to u t q =
      ring (f u ∷ g u ∷ f t ∷ g t ∷ f q ∷ g q ∷ [])
      ((v2 ⊖ v0) ⊗ (v5 ⊖ v1) ⊖ (v3 ⊖ v1) ⊗ (v4 ⊖ v0))
      ((v2 ⊖ v4) ⊗ (v3 ⊖ v1) ⊖ (v3 ⊖ v5) ⊗ (v2 ⊖ v0)) refl

  weak : (s t : ℤ) → s ≡ t → pos 0 <ℤ s → pos 0 ≤ℤ t
  weak s t e h = omega (arith, ints)

  same_sign : (s t : ℤ) → s ≡ t → pos 0 ≤ℤ s → pos 0 ≤ℤ t
  same_sign s t e h = omega (arith, ints)

  more : (s t u : ℤ) → s ≡ t +ℤ u → pos 0 <ℤ t → pos 0 ≤ℤ u → pos 0 <ℤ s
  more s t u e h k = omega (arith, ints)

  -- a point before t, as ways from t see it
  amid_from : (u t q : X) → left f g u t q ≡ area (f u -ℤ f t) (g u -ℤ g t) (f t -ℤ f q) (g t -ℤ g q)
  amid_from u t q =
      ring (f u ∷ g u ∷ f t ∷ g t ∷ f q ∷ g q ∷ [])
      ((v2 ⊖ v0) ⊗ (v5 ⊖ v1) ⊖ (v3 ⊖ v1) ⊗ (v4 ⊖ v0))
      ((v0 ⊖ v2) ⊗ (v3 ⊖ v5) ⊖ (v1 ⊖ v3) ⊗ (v2 ⊖ v4)) refl

  amid_to : (q t p : X) → left f g t p q ≡ area (f t -ℤ f q) (g t -ℤ g q) (f p -ℤ f t) (g p -ℤ g t)
  amid_to q t p =
      ring (f q ∷ g q ∷ f t ∷ g t ∷ f p ∷ g p ∷ [])
      ((v4 ⊖ v2) ⊗ (v1 ⊖ v3) ⊖ (v5 ⊖ v3) ⊗ (v0 ⊖ v2))
      ((v2 ⊖ v0) ⊗ (v5 ⊖ v3) ⊖ (v3 ⊖ v1) ⊗ (v4 ⊖ v2)) refl

  amid_back_from : (u t q : X) → left f g u t q ≡ area (f t -ℤ f u) (g t -ℤ g u) (f q -ℤ f t) (g q -ℤ g t)
  amid_back_from u t q =
      ring (f u ∷ g u ∷ f t ∷ g t ∷ f q ∷ g q ∷ [])
      ((v2 ⊖ v0) ⊗ (v5 ⊖ v1) ⊖ (v3 ⊖ v1) ⊗ (v4 ⊖ v0))
      ((v2 ⊖ v0) ⊗ (v5 ⊖ v3) ⊖ (v3 ⊖ v1) ⊗ (v4 ⊖ v2)) refl

  amid_back_to : (q t p : X) → left f g t p q ≡ area (f q -ℤ f t) (g q -ℤ g t) (f t -ℤ f p) (g t -ℤ g p)
  amid_back_to q t p =
      ring (f q ∷ g q ∷ f t ∷ g t ∷ f p ∷ g p ∷ [])
      ((v4 ⊖ v2) ⊗ (v1 ⊖ v3) ⊖ (v5 ⊖ v3) ⊗ (v0 ⊖ v2))
      ((v0 ⊖ v2) ⊗ (v3 ⊖ v5) ⊖ (v1 ⊖ v3) ⊗ (v2 ⊖ v4)) refl

  pub plane : IsPlane (left f g) (IsBefore f g) Same
  plane = record {
    turned = turned;
    swapped = swapped;
    ends = ends;
    still = still;
    either = either;
    once = once;
    later = later;
    through = λ t p q w bp bq bw h k.
        area_on (f p -ℤ f t) (g p -ℤ g t) (f w -ℤ f t) (g w -ℤ g t) (f q -ℤ f t) (g q -ℤ g t) bp bw bq k h;
    behind = λ q t u p bq bu bp h k.
        same_sign (area (f t -ℤ f q) (g t -ℤ g q) (f p -ℤ f t) (g p -ℤ g t)) (left f g t p q) (left_from q t p)
        (area_on (f t -ℤ f q) (g t -ℤ g q) (f t -ℤ f u) (g t -ℤ g u) (f p -ℤ f t) (g p -ℤ g t) bq bu bp
        (same_sign (left f g u t q) (area (f t -ℤ f q) (g t -ℤ g q) (f t -ℤ f u) (g t -ℤ g u)) (left_to u t q)
        h)
        (weak (left f g u t p) (area (f t -ℤ f u) (g t -ℤ g u) (f p -ℤ f t) (g p -ℤ g t)) (left_on u t p) k));
    onward = λ a b c p ab bc cp h k.
        more (left f g a b p) (left f g a b c) (area (f b -ℤ f a) (g b -ℤ g a) (f p -ℤ f c) (g p -ℤ g c))
        (sum_left a b c p) h
        (area_on (f b -ℤ f a) (g b -ℤ g a) (f c -ℤ f b) (g c -ℤ g b) (f p -ℤ f c) (g p -ℤ g c) ab bc cp
        (weak (left f g a b c) (area (f b -ℤ f a) (g b -ℤ g a) (f c -ℤ f b) (g c -ℤ g b)) (left_on a b c) h)
        (weak (left f g b c p) (area (f c -ℤ f b) (g c -ℤ g b) (f p -ℤ f c) (g p -ℤ g c)) (left_on b c p) k));
    amid = λ q t u p bq bu bp h k.
        area_on (f u -ℤ f t) (g u -ℤ g t) (f t -ℤ f q) (g t -ℤ g q) (f p -ℤ f t) (g p -ℤ g t) bu bq bp
        (same_sign (left f g u t q) (area (f u -ℤ f t) (g u -ℤ g t) (f t -ℤ f q) (g t -ℤ g q)) (amid_from u t q)
        h)
        (same_sign (left f g t p q) (area (f t -ℤ f q) (g t -ℤ g q) (f p -ℤ f t) (g p -ℤ g t)) (amid_to q t p)
        k);
  }

  -- the same turned by half a turn
  back_area : (a b c : X) → left f g a b c ≡ area (f a -ℤ f b) (g a -ℤ g b) (f a -ℤ f c) (g a -ℤ g c)
  back_area a b c =
      ring (f a ∷ g a ∷ f b ∷ g b ∷ f c ∷ g c ∷ [])
      ((v2 ⊖ v0) ⊗ (v5 ⊖ v1) ⊖ (v3 ⊖ v1) ⊗ (v4 ⊖ v0))
      ((v0 ⊖ v2) ⊗ (v1 ⊖ v5) ⊖ (v1 ⊖ v3) ⊗ (v0 ⊖ v4)) refl

  back_on : (a b c : X) → left f g a b c ≡ area (f a -ℤ f b) (g a -ℤ g b) (f b -ℤ f c) (g b -ℤ g c)
  back_on a b c =
      ring (f a ∷ g a ∷ f b ∷ g b ∷ f c ∷ g c ∷ [])
      ((v2 ⊖ v0) ⊗ (v5 ⊖ v1) ⊖ (v3 ⊖ v1) ⊗ (v4 ⊖ v0))
      ((v0 ⊖ v2) ⊗ (v3 ⊖ v5) ⊖ (v1 ⊖ v3) ⊗ (v2 ⊖ v4)) refl

  back_from : (q t p : X) → area (f q -ℤ f t) (g q -ℤ g t) (f t -ℤ f p) (g t -ℤ g p) ≡ left f g t p q
  back_from q t p =
      ring (f q ∷ g q ∷ f t ∷ g t ∷ f p ∷ g p ∷ [])
      ((v0 ⊖ v2) ⊗ (v3 ⊖ v5) ⊖ (v1 ⊖ v3) ⊗ (v2 ⊖ v4))
      ((v4 ⊖ v2) ⊗ (v1 ⊖ v3) ⊖ (v5 ⊖ v3) ⊗ (v0 ⊖ v2)) refl

  back_to : (u t q : X) → left f g u t q ≡ area (f q -ℤ f t) (g q -ℤ g t) (f u -ℤ f t) (g u -ℤ g t)
  back_to u t q =
      ring (f u ∷ g u ∷ f t ∷ g t ∷ f q ∷ g q ∷ [])
      ((v2 ⊖ v0) ⊗ (v5 ⊖ v1) ⊖ (v3 ⊖ v1) ⊗ (v4 ⊖ v0))
      ((v4 ⊖ v2) ⊗ (v1 ⊖ v3) ⊖ (v5 ⊖ v3) ⊗ (v0 ⊖ v2)) refl

  back_sum : (a b c p : X) → left f g a b p
      ≡ left f g a b c +ℤ area (f a -ℤ f b) (g a -ℤ g b) (f c -ℤ f p) (g c -ℤ g p)
  back_sum a b c p =
      ring (f a ∷ g a ∷ f b ∷ g b ∷ f c ∷ g c ∷ f p ∷ g p ∷ [])
      ((v2 ⊖ v0) ⊗ (v7 ⊖ v1) ⊖ (v3 ⊖ v1) ⊗ (v6 ⊖ v0))
      (((v2 ⊖ v0) ⊗ (v5 ⊖ v1) ⊖ (v3 ⊖ v1) ⊗ (v4 ⊖ v0))
      ⊕ ((v0 ⊖ v2) ⊗ (v5 ⊖ v7) ⊖ (v1 ⊖ v3) ⊗ (v4 ⊖ v6))) refl

  back_either : (p q : X) → IsAfter p q ⊎ (Same q p ⊎ IsAfter q p)
  back_either p q = elim (either p q) [
    | inl h ↦ inr (inr h)
    | inr (inl s) ↦ inr (inl s)
    | inr (inr h) ↦ inl h
  ]

  pub turned_plane : IsPlane (left f g) IsAfter Same
  turned_plane = record {
    turned = turned;
    swapped = swapped;
    ends = ends;
    still = still;
    either = back_either;
    once = λ p q h k. once p q k h;
    later = λ p q r h k. later r q p k h;
    through = λ t p q w bp bq bw h k.
        same_sign (area (f t -ℤ f p) (g t -ℤ g p) (f t -ℤ f q) (g t -ℤ g q)) (left f g t p q)
        (sym (back_area t p q))
        (area_on (f t -ℤ f p) (g t -ℤ g p) (f t -ℤ f w) (g t -ℤ g w) (f t -ℤ f q) (g t -ℤ g q) bp bw bq
        (same_sign (left f g t p w) (area (f t -ℤ f p) (g t -ℤ g p) (f t -ℤ f w) (g t -ℤ g w)) (back_area t p w)
        k)
        (same_sign (left f g t w q) (area (f t -ℤ f w) (g t -ℤ g w) (f t -ℤ f q) (g t -ℤ g q)) (back_area t w q)
        h));
    behind = λ q t u p bq bu bp h k.
        same_sign (area (f q -ℤ f t) (g q -ℤ g t) (f t -ℤ f p) (g t -ℤ g p)) (left f g t p q) (back_from q t p)
        (area_on (f q -ℤ f t) (g q -ℤ g t) (f u -ℤ f t) (g u -ℤ g t) (f t -ℤ f p) (g t -ℤ g p) bq bu bp
        (same_sign (left f g u t q) (area (f q -ℤ f t) (g q -ℤ g t) (f u -ℤ f t) (g u -ℤ g t)) (back_to u t q)
        h)
        (weak (left f g u t p) (area (f u -ℤ f t) (g u -ℤ g t) (f t -ℤ f p) (g t -ℤ g p)) (back_on u t p) k));
    onward = λ a b c p ab bc cp h k.
        more (left f g a b p) (left f g a b c) (area (f a -ℤ f b) (g a -ℤ g b) (f c -ℤ f p) (g c -ℤ g p))
        (back_sum a b c p) h
        (area_on (f a -ℤ f b) (g a -ℤ g b) (f b -ℤ f c) (g b -ℤ g c) (f c -ℤ f p) (g c -ℤ g p) ab bc cp
        (weak (left f g a b c) (area (f a -ℤ f b) (g a -ℤ g b) (f b -ℤ f c) (g b -ℤ g c)) (back_on a b c) h)
        (weak (left f g b c p) (area (f b -ℤ f c) (g b -ℤ g c) (f c -ℤ f p) (g c -ℤ g p)) (back_on b c p) k));
    amid = λ q t u p bq bu bp h k.
        same_sign (area (f t -ℤ f u) (g t -ℤ g u) (f t -ℤ f p) (g t -ℤ g p)) (left f g t u p)
        (sym (back_area t u p))
        (area_on (f t -ℤ f u) (g t -ℤ g u) (f q -ℤ f t) (g q -ℤ g t) (f t -ℤ f p) (g t -ℤ g p) bu bq bp
        (same_sign (left f g u t q) (area (f t -ℤ f u) (g t -ℤ g u) (f q -ℤ f t) (g q -ℤ g t))
        (amid_back_from u t q) h)
        (same_sign (left f g t p q) (area (f q -ℤ f t) (g q -ℤ g t) (f t -ℤ f p) (g t -ℤ g p))
        (amid_back_to q t p) k));
  }
