-- The swings of a triangle's sides add up to 0 where the triangle doesn't go round the origin.
use Rattle.std.proofs.Common.{◌≡◌, ◌⊎◌, inl, inr, Bool, true, false, [], ◌∷◌, refl, sym, ap, ap₂, ◌∙◌, arith}
use lib.IntN.{ℤ, pos, negsuc, ◌+ℤ◌, ◌-ℤ◌, ◌*ℤ◌}
use lib.Signed.{◌<ℤ◌, ◌≤ℤ◌}
use Rattle.std.specs.Prelude.{int_lt, int_le, if◌then◌else◌}
use Rattle.std.proofs.lemmas.Int.{ints, by_lt_z}
use Rattle.scad_base.proofs.Products.{negative_product}
use Rattle.scad_geom.specs.Point.{Point}
use Rattle.scad_geom.specs.Winding.{is_beyond}
use Rattle.scad_geom.proofs.Ring.{ring, num, ◌⊕◌, ◌⊖◌, ◌⊗◌, v0, v1, v2, v3, v4, v5}
use Rattle.scad_geom.proofs.Signs.{at_most_mul, at_least_left, positive_as, one-mul}
use Rattle.winding_laws.proofs.Views.{cross, cross_turned, swing_by, swing}
use Rattle.scad_base.proofs.Tests.{cond_same}

-- the origin lies in the triangle from a to b to c, or on its border: it lies to the left of each side or on it
pub record IsRound (a b c : Point) : Type 0 where
  pub first : pos 0 ≤ℤ cross b c
  pub second : pos 0 ≤ℤ cross c a
  pub third : pos 0 ≤ℤ cross a b
  pub some : pos 0 <ℤ (cross b c +ℤ (cross c a +ℤ cross a b))

round_on : (a b c : Point) → IsRound b c a → IsRound a b c
round_on a b c h =
    let f = h.first in
    let s = h.second in
    let t = h.third in
    let o = h.some in
    record { first = t; second = f; third = s; some = omega (arith, ints) }

-- ---- the third sign
-- one height on one side of 0 and two on the other
abbrev Apart : ℤ → ℤ → ℤ → Type 0
Apart p q r = (pos 0 <ℤ p × q ≤ℤ pos 0 × r ≤ℤ pos 0) ⊎ (pos 0 ≤ℤ p × q <ℤ pos 0 × r <ℤ pos 0)

factor : (x p : ℤ) → pos 0 ≤ℤ p → pos 0 <ℤ (x *ℤ p) → pos 0 ≤ℤ x
factor x p h k = by_lt_z x (pos 0) (λ n. let m = at_most_mul x p (weak n) h in absurd (omega (arith, ints))) (λ m. m)
  where
    weak : x <ℤ pos 0 → x ≤ℤ pos 0
    weak n = omega (arith, ints)

module _ (x p q r : ℤ) where
  third : (y z : ℤ) → pos 0 ≤ℤ y → pos 0 ≤ℤ z → pos 0 <ℤ (y +ℤ z) → Apart p q r
      → x *ℤ p +ℤ (q *ℤ y +ℤ r *ℤ z) ≡ pos 0 → pos 0 ≤ℤ x
  third y z hy hz o (inl a) e =
      let m = at_most_mul q y a.1 hy in
      let n = at_most_mul r z a.2 hz in
      at_least_left x p a.0 (omega (arith, ints))
  third y z hy hz o (inr a) e =
      let hq = a.1 in
      let hr = a.2 in
      by_lt_z (pos 0) y
      (λ g.
      let m = negative_product q y g hq in
      let n = at_most_mul r z (weak r hr) hz in
      factor x p a.0 (omega (arith, ints)))
      (λ g.
      let more : pos 0 <ℤ z = omega (arith, ints) in
      let m = at_most_mul q y (weak q hq) hy in
      let n = negative_product r z more hr in
      factor x p a.0 (omega (arith, ints)))
    where
      weak : (z : ℤ) → z <ℤ pos 0 → z ≤ℤ pos 0
      weak z n = omega (arith, ints)

heights_turned : (x p q r y z : ℤ) → x *ℤ p +ℤ (q *ℤ y +ℤ r *ℤ z) ≡ pos 0
    → x *ℤ (pos 0 -ℤ p) +ℤ ((pos 0 -ℤ q) *ℤ y +ℤ (pos 0 -ℤ r) *ℤ z) ≡ pos 0
heights_turned x p q r y z e =
    ring (x ∷ p ∷ q ∷ r ∷ y ∷ z ∷ [])
    (v0 ⊗ (num (pos 0) ⊖ v1) ⊕ ((num (pos 0) ⊖ v2) ⊗ v4 ⊕ (num (pos 0) ⊖ v3) ⊗ v5))
    (num (pos 0) ⊖ (v0 ⊗ v1 ⊕ (v2 ⊗ v4 ⊕ v3 ⊗ v5))) refl
    ∙ ap (λ (s : ℤ). pos 0 -ℤ s) e

crosses_turned : (x p q r y z : ℤ) → x *ℤ p +ℤ (q *ℤ y +ℤ r *ℤ z) ≡ pos 0
    → (pos 0 -ℤ x) *ℤ p +ℤ (q *ℤ (pos 0 -ℤ y) +ℤ r *ℤ (pos 0 -ℤ z)) ≡ pos 0
crosses_turned x p q r y z e =
    ring (x ∷ p ∷ q ∷ r ∷ y ∷ z ∷ [])
    ((num (pos 0) ⊖ v0) ⊗ v1 ⊕ (v2 ⊗ (num (pos 0) ⊖ v4) ⊕ v3 ⊗ (num (pos 0) ⊖ v5)))
    (num (pos 0) ⊖ (v0 ⊗ v1 ⊕ (v2 ⊗ v4 ⊕ v3 ⊗ v5))) refl
    ∙ ap (λ (s : ℤ). pos 0 -ℤ s) e

third_either : (x y z p q r : ℤ) → pos 0 ≤ℤ y → pos 0 ≤ℤ z → pos 0 <ℤ (y +ℤ z)
    → Apart p q r ⊎ Apart (pos 0 -ℤ p)
    (pos 0 -ℤ q) (pos 0 -ℤ r) → x *ℤ p +ℤ (q *ℤ y +ℤ r *ℤ z) ≡ pos 0 → pos 0 ≤ℤ x
third_either x y z p q r hy hz o (inl a) e = third x p q r y z hy hz o a e
third_either x y z p q r hy hz o (inr a) e = third x (pos 0 -ℤ p) (pos 0 -ℤ q) (pos 0 -ℤ r) y z hy hz o a
    (heights_turned x p q r y z e)

-- ---- the two sides of a corner that stands alone pass the origin alike
module _ (x y z p q r : ℤ) (none_left : pos 0 ≤ℤ x → pos 0 ≤ℤ y → pos 0 ≤ℤ z → pos 0 <ℤ (x +ℤ (y +ℤ z)) → ⊥)
    (none_right : x ≤ℤ pos 0 → y ≤ℤ pos 0 → z ≤ℤ pos 0 → (x +ℤ (y +ℤ z)) <ℤ pos 0 → ⊥)
    (a : Apart p q r ⊎ Apart (pos 0 -ℤ p) (pos 0 -ℤ q) (pos 0 -ℤ r)) (e : x *ℤ p +ℤ (q *ℤ y +ℤ r *ℤ z) ≡ pos 0) where
  no_left : pos 0 ≤ℤ y → pos 0 ≤ℤ z → pos 0 <ℤ (y +ℤ z) → ⊥
  no_left hy hz o = let hx = third_either x y z p q r hy hz o a e in none_left hx hy hz (omega (arith, ints))

  no_right : y ≤ℤ pos 0 → z ≤ℤ pos 0 → (y +ℤ z) <ℤ pos 0 → ⊥
  no_right hy hz o =
      let hx = third_either (pos 0 -ℤ x) (pos 0 -ℤ y) (pos 0 -ℤ z) p q r (omega (arith, ints)) (omega (arith, ints))
      (omega (arith, ints)) a (crosses_turned x p q r y z e) in
      none_right (omega (arith, ints)) hy hz (omega (arith, ints))

  agree : (right : Bool) → is_beyond right y ≡ is_beyond right (pos 0 -ℤ z)
  unfolding is_beyond
  agree true = by_lt_z (pos 0) y
      (λ h. by_lt_z z (pos 0)
      (λ k.
      let s : int_lt (pos 0) y ≡ true = sym (omega (arith, ints)) in
      let t : int_lt (pos 0) (pos 0 -ℤ z) ≡ true = sym (omega (arith, ints)) in
      s ∙ sym t)
      (λ k. absurd (no_left (omega (arith, ints)) k (omega (arith, ints)))))
      (λ h. by_lt_z z (pos 0)
      (λ k. absurd (no_right h (omega (arith, ints)) (omega (arith, ints))))
      (λ k.
      let s : int_lt (pos 0) y ≡ false = sym (omega (arith, ints)) in
      let t : int_lt (pos 0) (pos 0 -ℤ z) ≡ false = sym (omega (arith, ints)) in
      s ∙ sym t))
  agree false = by_lt_z y (pos 0)
      (λ h. by_lt_z (pos 0) z
      (λ k.
      let s : int_le (pos 0) y ≡ false = sym (omega (arith, ints)) in
      let t : int_le (pos 0) (pos 0 -ℤ z) ≡ false = sym (omega (arith, ints)) in
      s ∙ sym t)
      (λ k. absurd (no_right (omega (arith, ints)) k (omega (arith, ints)))))
      (λ h. by_lt_z (pos 0) z
      (λ k. absurd (no_left h (omega (arith, ints)) (omega (arith, ints))))
      (λ k.
      let s : int_le (pos 0) y ≡ true = sym (omega (arith, ints)) in
      let t : int_le (pos 0) (pos 0 -ℤ z) ≡ true = sym (omega (arith, ints)) in
      s ∙ sym t))

-- ---- swings by the tests of the heights
minus_mul : (z : ℤ) → negsuc 0 *ℤ z ≡ pos 0 -ℤ z
minus_mul z = omega (arith, ints)

pub flat : (right s : Bool) (z : ℤ) → swing_by right s s z ≡ pos 0
flat right true z = cond_same (is_beyond right (pos 0 *ℤ z)) (pos 0)
flat right false z = cond_same (is_beyond right (pos 0 *ℤ z)) (pos 0)

up_and_down : (b : Bool) → (if b then pos 1 else pos 0) +ℤ (pos 0 +ℤ (if b then negsuc 0 else pos 0)) ≡ pos 0
up_and_down true = refl
up_and_down false = refl

down_and_up : (b : Bool) → (if b then negsuc 0 else pos 0) +ℤ (pos 0 +ℤ (if b then pos 1 else pos 0)) ≡ pos 0
down_and_up true = refl
down_and_up false = refl

under_alone : (right : Bool) (x y z : ℤ) → is_beyond right z ≡ is_beyond right (pos 0 -ℤ y)
    → swing_by right false true z +ℤ (swing_by right true true x +ℤ swing_by right true false y) ≡ pos 0
under_alone right x y z h =
    ap₂ (λ (s t : ℤ). s +ℤ t) (ap (λ (w : ℤ). if is_beyond right w then pos 1 else pos 0) (one-mul z) ∙ ap
    (λ (b : Bool). if b then pos 1 else pos 0) h)
    (ap₂ (λ (s t : ℤ). s +ℤ t) (flat right true x)
    (ap (λ (w : ℤ). if is_beyond right w then negsuc 0 else pos 0)
    (minus_mul y)))
    ∙ up_and_down (is_beyond right (pos 0 -ℤ y))

over_alone : (right : Bool) (x y z : ℤ) → is_beyond right y ≡ is_beyond right (pos 0 -ℤ z)
    → swing_by right true false z +ℤ (swing_by right false false x +ℤ swing_by right false true y) ≡ pos 0
over_alone right x y z h =
    ap₂ (λ (s t : ℤ). s +ℤ t) (ap (λ (w : ℤ). if is_beyond right w then negsuc 0 else pos 0) (minus_mul z))
    (ap₂ (λ (s t : ℤ). s +ℤ t) (flat right false x)
    (ap (λ (w : ℤ). if is_beyond right w then pos 1 else pos 0)
    (one-mul y) ∙ ap (λ (b : Bool). if b then pos 1 else pos 0) h))
    ∙ down_and_up (is_beyond right (pos 0 -ℤ z))

apart_over : (above : Bool) (p q r : ℤ) → is_beyond above p ≡ true → is_beyond above q ≡ false
    → is_beyond above r ≡ false → Apart p q r
unfolding is_beyond
apart_over true p q r hp hq hr =
    let f : int_lt (pos 0) p ≡ true = hp in
    let s : int_lt (pos 0) q ≡ false = hq in
    let t : int_lt (pos 0) r ≡ false = hr in
    inl (omega (arith, ints), omega (arith, ints), omega (arith, ints))
apart_over false p q r hp hq hr =
    let f : int_le (pos 0) p ≡ true = hp in
    let s : int_le (pos 0) q ≡ false = hq in
    let t : int_le (pos 0) r ≡ false = hr in
    inr (omega (arith, ints), omega (arith, ints), omega (arith, ints))

apart_under : (above : Bool) (p q r : ℤ) → is_beyond above p ≡ false → is_beyond above q ≡ true
    → is_beyond above r ≡ true → Apart (pos 0 -ℤ p) (pos 0 -ℤ q) (pos 0 -ℤ r)
unfolding is_beyond
apart_under true p q r hp hq hr =
    let f : int_lt (pos 0) p ≡ false = hp in
    let s : int_lt (pos 0) q ≡ true = hq in
    let t : int_lt (pos 0) r ≡ true = hr in
    inr (omega (arith, ints), omega (arith, ints), omega (arith, ints))
apart_under false p q r hp hq hr =
    let f : int_le (pos 0) p ≡ false = hp in
    let s : int_le (pos 0) q ≡ true = hq in
    let t : int_le (pos 0) r ≡ true = hr in
    inl (omega (arith, ints), omega (arith, ints), omega (arith, ints))

-- ---- the triangle
corners_sum : (a b c : Point) → cross b c *ℤ a.y +ℤ (b.y *ℤ cross c a +ℤ c.y *ℤ cross a b) ≡ pos 0
unfolding cross
corners_sum a b c =
    ring (a.x ∷ a.y ∷ b.x ∷ b.y ∷ c.x ∷ c.y ∷ [])
    ((v2 ⊗ v5 ⊖ v3 ⊗ v4) ⊗ v1 ⊕ (v3 ⊗ (v4 ⊗ v1 ⊖ v5 ⊗ v0) ⊕ v5 ⊗ (v0 ⊗ v3 ⊖ v1 ⊗ v2)))
    (num (pos 0)) refl

-- the corners read the other way round
not_turned : (a b c : Point) → ¬ IsRound a c b → cross b c ≤ℤ pos 0 → cross c a ≤ℤ pos 0
    → cross a b ≤ℤ pos 0 → (cross b c +ℤ (cross c a +ℤ cross a b)) <ℤ pos 0 → ⊥
not_turned a b c n x y z o =
    let f = cross_turned b c in
    let s = cross_turned a b in
    let t = cross_turned c a in
    n (record {
      first = omega (arith, ints);
      second = omega (arith, ints);
      third = omega (arith, ints);
      some =
          omega (arith, ints);
    })

swap_heights : (x p q r y z : ℤ) → x *ℤ p +ℤ (q *ℤ y +ℤ r *ℤ z) ≡ pos 0
    → x *ℤ p +ℤ (r *ℤ z +ℤ q *ℤ y) ≡ pos 0
swap_heights x p q r y z e = omega (arith, ints)

apart_swapped : (p q r : ℤ) → Apart p q r → Apart p r q
apart_swapped p q r (inl a) = inl (a.0, a.2, a.1)
apart_swapped p q r (inr a) = inr (a.0, a.2, a.1)

sum_swapped : (x y z : ℤ) → x +ℤ (z +ℤ y) ≡ x +ℤ (y +ℤ z)
sum_swapped x y z = omega (arith, ints)

turned_sum : (x y z : ℤ) → x +ℤ (y +ℤ z) ≡ y +ℤ (z +ℤ x)
turned_sum x y z = omega (arith, ints)

abbrev Sum : Bool → Bool → Point → Point → Point → ℤ
Sum above right a b c = swing above right a b +ℤ (swing above right b c +ℤ swing above right c a)

negative_as : (s t : ℤ) → s ≡ t → s <ℤ pos 0 → t <ℤ pos 0
negative_as s t e h = omega (arith, ints)

over_first : (above right : Bool) (a b c : Point) → ¬ IsRound a b c → ¬ IsRound a c b
    → is_beyond above a.y ≡ true → is_beyond above b.y ≡ false → is_beyond above c.y ≡ false
    → Sum above right a b c ≡ pos 0
unfolding swing
over_first above right a b c n m ha hb hc =
    rw (ha, hb, hc)
    (over_alone right (cross b c) (cross c a) (cross a b)
    (agree (cross b c) (cross c a) (cross a b) a.y b.y c.y
    (λ x y z o. n (record { first = x; second = y; third = z; some = o })) (not_turned a b c m)
    (inl (apart_over above a.y b.y c.y ha hb hc)) (corners_sum a b c) right))

under_first : (above right : Bool) (a b c : Point) → ¬ IsRound a b c → ¬ IsRound a c b
    → is_beyond above a.y ≡ false → is_beyond above b.y ≡ true → is_beyond above c.y ≡ true
    → Sum above right a b c ≡ pos 0
unfolding swing
under_first above right a b c n m ha hb hc =
    let x = cross b c in
    let y = cross c a in
    let z = cross a b in
    rw (ha, hb, hc)
    (under_alone right x y z
    (agree x z y a.y c.y b.y
    (λ hx hz hy o. n (record {
      first = hx;
      second = hy;
      third = hz;
      some = positive_as (x +ℤ (z +ℤ y)) (x +ℤ (y +ℤ z))
          (sum_swapped x y z) o;
    }))
    (λ hx hz hy o. not_turned a b c m hx hy hz
    (negative_as (x +ℤ (z +ℤ y)) (x +ℤ (y +ℤ z)) (sum_swapped x y z) o))
    (inr (apart_swapped (pos 0 -ℤ a.y) (pos 0 -ℤ b.y) (pos 0 -ℤ c.y) (apart_under above a.y b.y c.y ha hb hc)))
    (swap_heights x a.y b.y c.y y z (corners_sum a b c)) right))

alone : (above right : Bool) (a b c : Point) → ¬ IsRound a b c → ¬ IsRound a c b → (s t : Bool)
    → is_beyond above a.y ≡ s → is_beyond above b.y ≡ t → is_beyond above c.y ≡ t
    → Sum above right a b c ≡ pos 0
unfolding swing
alone above right a b c n m true true ha hb hc =
    rw (ha, hb, hc) (ap₂ (λ (s t : ℤ). s +ℤ t) (flat right true (cross a b))
    (ap₂ (λ (s t : ℤ). s +ℤ t) (flat right true (cross b c)) (flat right true (cross c a))))
alone above right a b c n m true false ha hb hc = over_first above right a b c n m ha hb hc
alone above right a b c n m false true ha hb hc = under_first above right a b c n m ha hb hc
alone above right a b c n m false false ha hb hc =
    rw (ha, hb, hc) (ap₂ (λ (s t : ℤ). s +ℤ t) (flat right false (cross a b))
    (ap₂ (λ (s t : ℤ). s +ℤ t) (flat right false (cross b c)) (flat right false (cross c a))))

-- ¬ IsRound is that of each corner
not_round_on : (a b c : Point) → ¬ IsRound a b c → ¬ IsRound b c a
not_round_on a b c n = λ h. n (round_on a b c h)

-- where the triangle from a to b to c doesn't go round the origin in either direction
pub triangle : (above right : Bool) (a b c : Point) → ¬ IsRound a b c → ¬ IsRound a c b
    → swing above right a b +ℤ (swing above right b c +ℤ swing above right c a) ≡ pos 0
triangle above right a b c n m = by_tests (is_beyond above a.y) (is_beyond above b.y) (is_beyond above c.y) refl refl
    refl
  where
    -- the second corner stands alone, or the third
    second : (s t : Bool) → is_beyond above b.y ≡ s → is_beyond above c.y ≡ t → is_beyond above a.y ≡ t
        → Sum above right a b c ≡ pos 0
    second s t hb hc ha =
        turned_sum (swing above right a b) (swing above right b c) (swing above right c a)
        ∙ alone above right b c a (not_round_on a b c n) (not_round_on c b a (not_round_on a c b m)) s t hb hc ha

    third_one : (s t : Bool) → is_beyond above c.y ≡ s → is_beyond above a.y ≡ t → is_beyond above b.y ≡ t
        → Sum above right a b c ≡ pos 0
    third_one s t hc ha hb =
        turned_sum (swing above right a b) (swing above right b c) (swing above right c a)
        ∙ turned_sum (swing above right b c) (swing above right c a) (swing above right a b)
        ∙ alone above right c a b (not_round_on b c a (not_round_on a b c n)) (not_round_on a c b m) s t hc ha hb

    by_tests : (r s t : Bool) → is_beyond above a.y ≡ r → is_beyond above b.y ≡ s → is_beyond above c.y ≡ t
        → Sum above right a b c ≡ pos 0
    by_tests r true true ha hb hc = alone above right a b c n m r true ha hb hc
    by_tests r false false ha hb hc = alone above right a b c n m r false ha hb hc
    by_tests true true false ha hb hc = third_one false true hc ha hb
    by_tests false true false ha hb hc = second true false hb hc ha
    by_tests true false true ha hb hc = second false true hb hc ha
    by_tests false false true ha hb hc = third_one true false hc ha hb
