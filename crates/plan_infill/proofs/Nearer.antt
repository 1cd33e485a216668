-- Where a segment that doesn't fall comes within the octagon of the half width c and the half sum u round the origin,
-- without its border. Over K times the coordinates, with K great enough, it meets the closed octagon of K c - 1 and K u
-- - 1.
use Rattle.std.proofs.Common.{◌≡◌, ◌⊎◌, inl, inr, Bool, true, false, [], ◌∷◌, refl, sym, ap, ap₂, ◌∙◌, arith, ℤ, pos, neg_ℤ, ◌+ℤ◌, ◌-ℤ◌, ◌*ℤ◌, ◌<ℤ◌}
use lib.Signed.{◌≤ℤ◌}
use Rattle.std.specs.Prelude.{if◌then◌else◌, int_le}
use Rattle.std.proofs.lemmas.Int.{ints}
use Rattle.scad_base.proofs.Tests.{int_le-at_most}
use Rattle.scad_geom.proofs.Signs.{at_least_mul, at_least_left, pos_left}
use Rattle.scad_geom.proofs.Rising.{order}
use Rattle.scad_geom.proofs.Ring.{ring, num, ◌⊕◌, ◌⊖◌, ◌⊗◌, v0, v1, v2, v3, v4, v5, v6, v7, v8}
use Rattle.scad_ring.specs.Tests.{breadth}
use Rattle.scad_ring.proofs.Convex.{Lies, cross}
use Rattle.scad_ring.proofs.Octants.{End, Ends, Approach, IsSize}
use Rattle.scad_ring.proofs.Meetings.{facts, tests, approach_if_passes, passes_if_approach}

-- ---- without a border
-- the mean of a and b by the weights s and t lies strictly in the half plane n x + m y < c
abbrev pub LiesWithin : ℤ → ℤ → ℤ → ℤ → ℤ → ℤ → ℤ → ℤ → ℤ → Type 0
LiesWithin n m c s t ax ay bx by = (n *ℤ (s *ℤ ax +ℤ t *ℤ bx) +ℤ m *ℤ (s *ℤ ay +ℤ t *ℤ by)) <ℤ
    (c *ℤ (s +ℤ t))

-- a mean of the ends lies in the octagon, and not on its border
pub record Inside (c u ax ay bx by : ℤ) : Type 0 where
  pub s : ℤ
  pub t : ℤ
  pub from : pos 0 ≤ℤ s
  pub to : pos 0 ≤ℤ t
  pub some : pos 0 <ℤ (s +ℤ t)
  pub right : LiesWithin (pos 1) (pos 0) c s t ax ay bx by
  pub left : LiesWithin (neg_ℤ (pos 1)) (pos 0) c s t ax ay bx by
  pub over : LiesWithin (pos 0) (pos 1) c s t ax ay bx by
  pub below : LiesWithin (pos 0) (neg_ℤ (pos 1)) c s t ax ay bx by
  pub over_right : LiesWithin (pos 1) (pos 1) u s t ax ay bx by
  pub below_right : LiesWithin (pos 1) (neg_ℤ (pos 1)) u s t ax ay bx by
  pub over_left : LiesWithin (neg_ℤ (pos 1)) (pos 1) u s t ax ay bx by
  pub below_left : LiesWithin (neg_ℤ (pos 1)) (neg_ℤ (pos 1)) u s t ax ay bx by

-- an end lies strictly in a half plane
abbrev pub EndWithin : ℤ → ℤ → ℤ → ℤ → ℤ → ℤ → ℤ → Type 0
EndWithin n m c ax ay bx by = ((n *ℤ ax +ℤ m *ℤ ay) <ℤ c) ⊎ ((n *ℤ bx +ℤ m *ℤ by) <ℤ c)

pub record EndsWithin (c u ax ay bx by : ℤ) : Type 0 where
  pub right : EndWithin (pos 1) (pos 0) c ax ay bx by
  pub left : EndWithin (neg_ℤ (pos 1)) (pos 0) c ax ay bx by
  pub over : EndWithin (pos 0) (pos 1) c ax ay bx by
  pub below : EndWithin (pos 0) (neg_ℤ (pos 1)) c ax ay bx by
  pub over_right : EndWithin (pos 1) (pos 1) u ax ay bx by
  pub below_right : EndWithin (pos 1) (neg_ℤ (pos 1)) u ax ay bx by
  pub over_left : EndWithin (neg_ℤ (pos 1)) (pos 1) u ax ay bx by
  pub below_left : EndWithin (neg_ℤ (pos 1)) (neg_ℤ (pos 1)) u ax ay bx by

-- a number is less than another in size
pub record IsLess (w z : ℤ) : Type 0 where
  pub from : (pos 0 -ℤ w) <ℤ z
  pub to : z <ℤ w

-- the greater of a way's sizes along both axes, of a way that doesn't fall
abbrev pub length_of : ℤ → ℤ → ℤ
length_of x y = breadth (pos 1) (pos 0) x y

-- the segment's line passes strictly between the octagon's corners, where it has a length
abbrev pub IsLineWithin : ℤ → ℤ → ℤ → ℤ → ℤ → ℤ → Type 0
IsLineWithin c u ax ay bx by = pos 0 <ℤ length_of (bx -ℤ ax) (by -ℤ ay)
    → IsLess (breadth c (u -ℤ c) (bx -ℤ ax) (by -ℤ ay)) (cross ax ay bx by)

-- ---- by a way's direction
abbrev pub chosen : ℤ → ℤ → ℤ → ℤ → Bool → Bool → Bool → ℤ
chosen s t x y p q r =
    if p then s *ℤ x +ℤ t *ℤ y
    else (if q then t *ℤ y -ℤ s *ℤ x
    else (if r then s *ℤ y +ℤ t *ℤ x
    else s *ℤ y -ℤ t *ℤ x))

by_equal : (s t x y : ℤ) (a b c p q r : Bool) → a ≡ p → b ≡ q → c ≡ r
    → chosen s t x y a b c ≡ chosen s t x y p q r
by_equal s t x y a b c p q r e f g = rw (e, f, g) refl

pub by_direction : (s t x y : ℤ) (p q r : Bool) → int_le y x ≡ p → int_le (x +ℤ y) (pos 0) ≡ q
    → int_le (pos 0) x ≡ r → breadth s t x y ≡ chosen s t x y p q r
unfolding breadth
by_direction s t x y p q r e f g =
    by_equal s t x y (int_le y x) (int_le (x +ℤ y) (pos 0)) (int_le (pos 0) x) p q r e f g

pub length_at_least : (x y : ℤ) → pos 0 ≤ℤ y
    → (y ≤ℤ length_of x y) × (x ≤ℤ length_of x y) × ((pos 0 -ℤ x) ≤ℤ length_of x y)
unfolding breadth
length_at_least x y h = by_tests (int_le y x) (int_le (x +ℤ y) (pos 0)) (int_le (pos 0) x) refl refl refl
  where
    by_tests : (t u v : Bool) → int_le y x ≡ t → int_le (x +ℤ y) (pos 0) ≡ u → int_le (pos 0) x ≡ v
        → (y ≤ℤ chosen (pos 1) (pos 0) x y t u v) × (x ≤ℤ chosen (pos 1) (pos 0) x y t u v)
        × ((pos 0 -ℤ x) ≤ℤ chosen (pos 1) (pos 0) x y t u v)
    by_tests true u v p q r = (omega (arith, ints, p, h), omega (arith, ints, p, h), omega (arith, ints, p, h))
    by_tests false true v p q r = (
      omega (arith, ints, p, q, h),
      omega (arith, ints, p, q, h),
      omega (arith, ints, p, q, h),
    )
    by_tests false false true p q r = (
      omega (arith, ints, p, q, r, h),
      omega (arith, ints, p, q, r, h),
      omega (arith, ints, p, q, r, h),
    )
    by_tests false false false p q r = (
      omega (arith, ints, p, q, r, h),
      omega (arith, ints, p, q, r, h),
      omega (arith, ints, p, q, r, h),
    )

-- ---- K times the coordinates
le_scaled : (k a b : ℤ) → pos 0 <ℤ k → int_le (k *ℤ a) (k *ℤ b) ≡ int_le a b
le_scaled k a b h = elim (order a b) [
  | inl o ↦
      let m = at_least_mul (b -ℤ a) k (omega (arith, ints, o)) (omega (arith, ints, h)) in
      let e = gap k a b in
      int_le-at_most (k *ℤ a) (k *ℤ b) (omega (arith, ints, m, e)) ∙ sym (int_le-at_most a b o)
  | inr o ↦
      let m = at_least_mul ((a -ℤ b) -ℤ pos 1) k (omega (arith, ints, o)) (omega (arith, ints, h)) in
      let e = gap_back k a b in
      let p : int_le (k *ℤ a) (k *ℤ b) ≡ false = sym (omega (arith, ints, m, e, h)) in
      let q : int_le a b ≡ false = sym (omega (arith, ints, o)) in
      p ∙ sym q
]
  where
    gap : (k a b : ℤ) → (b -ℤ a) *ℤ k ≡ k *ℤ b -ℤ k *ℤ a
    gap k a b = ring (k ∷ a ∷ b ∷ []) ((v2 ⊖ v1) ⊗ v0) (v0 ⊗ v2 ⊖ v0 ⊗ v1) refl

    gap_back : (k a b : ℤ) → ((a -ℤ b) -ℤ pos 1) *ℤ k ≡ (k *ℤ a -ℤ k *ℤ b) -ℤ k
    gap_back k a b = ring (k ∷ a ∷ b ∷ []) (((v1 ⊖ v2) ⊖ num (pos 1)) ⊗ v0)
        ((v0 ⊗ v1 ⊖ v0 ⊗ v2) ⊖ v0) refl

same_scaled : (k c t x y : ℤ) (p q r : Bool)
    → chosen (k *ℤ c -ℤ pos 1) (k *ℤ t) (k *ℤ x) (k *ℤ y) p q r
    ≡ k *ℤ (k *ℤ chosen c t x y p q r -ℤ chosen (pos 1) (pos 0) x y p q r)
same_scaled k c t x y true q r = ring (k ∷ c ∷ t ∷ x ∷ y ∷ [])
    ((v0 ⊗ v1 ⊖ num (pos 1)) ⊗ (v0 ⊗ v3) ⊕ (v0 ⊗ v2) ⊗ (v0 ⊗ v4))
    (v0 ⊗ (v0 ⊗ (v1 ⊗ v3 ⊕ v2 ⊗ v4) ⊖ (num (pos 1) ⊗ v3 ⊕ num (pos 0) ⊗ v4))) refl
same_scaled k c t x y false true r = ring (k ∷ c ∷ t ∷ x ∷ y ∷ [])
    ((v0 ⊗ v2) ⊗ (v0 ⊗ v4) ⊖ (v0 ⊗ v1 ⊖ num (pos 1)) ⊗ (v0 ⊗ v3))
    (v0 ⊗ (v0 ⊗ (v2 ⊗ v4 ⊖ v1 ⊗ v3) ⊖ (num (pos 0) ⊗ v4 ⊖ num (pos 1) ⊗ v3))) refl
same_scaled k c t x y false false true = ring (k ∷ c ∷ t ∷ x ∷ y ∷ [])
    ((v0 ⊗ v1 ⊖ num (pos 1)) ⊗ (v0 ⊗ v4) ⊕ (v0 ⊗ v2) ⊗ (v0 ⊗ v3))
    (v0 ⊗ (v0 ⊗ (v1 ⊗ v4 ⊕ v2 ⊗ v3) ⊖ (num (pos 1) ⊗ v4 ⊕ num (pos 0) ⊗ v3))) refl
same_scaled k c t x y false false false = ring (k ∷ c ∷ t ∷ x ∷ y ∷ [])
    ((v0 ⊗ v1 ⊖ num (pos 1)) ⊗ (v0 ⊗ v4) ⊖ (v0 ⊗ v2) ⊗ (v0 ⊗ v3))
    (v0 ⊗ (v0 ⊗ (v1 ⊗ v4 ⊖ v2 ⊗ v3) ⊖ (num (pos 1) ⊗ v4 ⊖ num (pos 0) ⊗ v3))) refl

-- the tests of a way's direction are those of K times the way
no_times : (k : ℤ) → pos 0 ≡ k *ℤ pos 0
no_times k = ring (k ∷ []) (num (pos 0)) (v0 ⊗ num (pos 0)) refl

rising_scaled : (k x y : ℤ) → pos 0 <ℤ k → int_le (k *ℤ x +ℤ k *ℤ y) (pos 0) ≡ int_le (x +ℤ y) (pos 0)
rising_scaled k x y h =
    let s : k *ℤ x +ℤ k *ℤ y ≡ k *ℤ (x +ℤ y) = ring (k ∷ x ∷ y ∷ []) (v0 ⊗ v1 ⊕ v0 ⊗ v2) (v0 ⊗ (v1 ⊕ v2)) refl in
    ap₂ (λ (a b : ℤ). int_le a b) s (no_times k) ∙ le_scaled k (x +ℤ y) (pos 0) h

right_scaled : (k x : ℤ) → pos 0 <ℤ k → int_le (pos 0) (k *ℤ x) ≡ int_le (pos 0) x
right_scaled k x h = ap (λ (a : ℤ). int_le a (k *ℤ x)) (no_times k) ∙ le_scaled k (pos 0) x h

breadth_scaled : (k c t x y : ℤ) → pos 0 <ℤ k
    → breadth (k *ℤ c -ℤ pos 1) (k *ℤ t) (k *ℤ x) (k *ℤ y)
    ≡ k *ℤ (k *ℤ breadth c t x y -ℤ length_of x y)
breadth_scaled k c t x y h =
    by_direction (k *ℤ c -ℤ pos 1) (k *ℤ t) (k *ℤ x) (k *ℤ y) (int_le y x) (int_le (x +ℤ y) (pos 0))
    (int_le (pos 0) x)
    (le_scaled k y x h) (rising_scaled k x y h) (right_scaled k x h)
    ∙ same_scaled k c t x y (int_le y x) (int_le (x +ℤ y) (pos 0)) (int_le (pos 0) x)
    ∙ ap₂ (λ (a b : ℤ). k *ℤ (k *ℤ a -ℤ b))
    (sym (by_direction c t x y (int_le y x) (int_le (x +ℤ y) (pos 0)) (int_le (pos 0) x) refl refl refl))
    (sym (by_direction (pos 1) (pos 0) x y (int_le y x) (int_le (x +ℤ y) (pos 0)) (int_le (pos 0) x) refl refl refl))

cross_scaled : (k ax ay bx by : ℤ) → cross (k *ℤ ax) (k *ℤ ay) (k *ℤ bx) (k *ℤ by)
    ≡ k *ℤ (k *ℤ cross ax ay bx by)
cross_scaled k ax ay bx by = ring (k ∷ ax ∷ ay ∷ bx ∷ by ∷ [])
    ((v0 ⊗ v1) ⊗ (v0 ⊗ v4) ⊖ (v0 ⊗ v2) ⊗ (v0 ⊗ v3))
    (v0 ⊗ (v0 ⊗ (v1 ⊗ v4 ⊖ v2 ⊗ v3))) refl

value_scaled : (k n m x y : ℤ) → n *ℤ (k *ℤ x) +ℤ m *ℤ (k *ℤ y) ≡ (n *ℤ x +ℤ m *ℤ y) *ℤ k
value_scaled k n m x y = ring (k ∷ n ∷ m ∷ x ∷ y ∷ []) (v1 ⊗ (v0 ⊗ v3) ⊕ v2 ⊗ (v0 ⊗ v4))
    ((v1 ⊗ v3 ⊕ v2 ⊗ v4) ⊗ v0) refl

mean_scaled : (k n m s t ax ay bx by : ℤ)
    → n *ℤ (s *ℤ (k *ℤ ax) +ℤ t *ℤ (k *ℤ bx)) +ℤ m *ℤ (s *ℤ (k *ℤ ay) +ℤ t *ℤ (k *ℤ by))
    ≡ (n *ℤ (s *ℤ ax +ℤ t *ℤ bx) +ℤ m *ℤ (s *ℤ ay +ℤ t *ℤ by)) *ℤ k
mean_scaled k n m s t ax ay bx by = ring (k ∷ n ∷ m ∷ s ∷ t ∷ ax ∷ ay ∷ bx ∷ by ∷ [])
    (v1 ⊗ (v3 ⊗ (v0 ⊗ v5) ⊕ v4 ⊗ (v0 ⊗ v7)) ⊕ v2 ⊗ (v3 ⊗ (v0 ⊗ v6) ⊕ v4 ⊗ (v0 ⊗ v8)))
    ((v1 ⊗ (v3 ⊗ v5 ⊕ v4 ⊗ v7) ⊕ v2 ⊗ (v3 ⊗ v6 ⊕ v4 ⊗ v8)) ⊗ v0) refl

width_scaled : (k c w : ℤ) → (k *ℤ c -ℤ pos 1) *ℤ w ≡ (c *ℤ w) *ℤ k -ℤ w
width_scaled k c w = ring (k ∷ c ∷ w ∷ []) ((v0 ⊗ v1 ⊖ num (pos 1)) ⊗ v2) ((v1 ⊗ v2) ⊗ v0 ⊖ v2) refl

gap_is : (a b k : ℤ) → (a -ℤ b -ℤ pos 1) *ℤ k ≡ (a *ℤ k -ℤ b *ℤ k) -ℤ k
gap_is a b k = ring (a ∷ b ∷ k ∷ []) ((v0 ⊖ v1 ⊖ num (pos 1)) ⊗ v2) ((v0 ⊗ v2 ⊖ v1 ⊗ v2) ⊖ v2) refl

difference_is : (a b k : ℤ) → (a -ℤ b) *ℤ k ≡ a *ℤ k -ℤ b *ℤ k
difference_is a b k = ring (a ∷ b ∷ k ∷ []) ((v0 ⊖ v1) ⊗ v2) (v0 ⊗ v2 ⊖ v1 ⊗ v2) refl

factor_first : (k c : ℤ) → c *ℤ k ≡ k *ℤ c
factor_first k c = ring (k ∷ c ∷ []) (v1 ⊗ v0) (v0 ⊗ v1) refl

-- the gap between the breadth and the distance from the line, K times, less the length
pub record Gaps (k c u ax ay bx by : ℤ) : Type 0 where
  pub most : pos 0 ≤ℤ (k *ℤ (breadth c (u -ℤ c) (bx -ℤ ax) (by -ℤ ay) -ℤ cross ax ay bx by) -ℤ
      length_of (bx -ℤ ax) (by -ℤ ay))
  pub least : pos 0 ≤ℤ (k *ℤ (breadth c (u -ℤ c) (bx -ℤ ax) (by -ℤ ay) +ℤ cross ax ay bx by) -ℤ
      length_of (bx -ℤ ax) (by -ℤ ay))

parted : (k b x l : ℤ) → (k *ℤ (b -ℤ x) -ℤ l) *ℤ k ≡ k *ℤ (k *ℤ b -ℤ l) -ℤ k *ℤ (k *ℤ x)
parted k b x l = ring (k ∷ b ∷ x ∷ l ∷ []) ((v0 ⊗ (v1 ⊖ v2) ⊖ v3) ⊗ v0)
    (v0 ⊗ (v0 ⊗ v1 ⊖ v3) ⊖ v0 ⊗ (v0 ⊗ v2)) refl

parted_back : (k b x l : ℤ) → (k *ℤ (b +ℤ x) -ℤ l) *ℤ k ≡ k *ℤ (k *ℤ b -ℤ l) +ℤ k *ℤ (k *ℤ x)
parted_back k b x l = ring (k ∷ b ∷ x ∷ l ∷ []) ((v0 ⊗ (v1 ⊕ v2) ⊖ v3) ⊗ v0)
    (v0 ⊗ (v0 ⊗ v1 ⊖ v3) ⊕ v0 ⊗ (v0 ⊗ v2)) refl

module _ (k c u ax ay bx by : ℤ) (h : pos 0 <ℤ k) where
  abbrev pub ScaledEnd : ℤ → ℤ → ℤ → Type 0
  ScaledEnd n m w = End n m (k *ℤ w -ℤ pos 1) (k *ℤ ax) (k *ℤ ay) (k *ℤ bx) (k *ℤ by)

  -- ---- ends
  value_up : (n m w x y : ℤ) → (n *ℤ x +ℤ m *ℤ y) <ℤ w
      → (n *ℤ (k *ℤ x) +ℤ m *ℤ (k *ℤ y)) ≤ℤ (k *ℤ w -ℤ pos 1)
  value_up n m w x y l =
      let g = at_least_mul (w -ℤ (n *ℤ x +ℤ m *ℤ y) -ℤ pos 1) k (omega (arith, ints, l)) (omega (arith, ints, h)) in
      let e = gap_is w (n *ℤ x +ℤ m *ℤ y) k in
      let v = value_scaled k n m x y in
      let f = factor_first k w in
      omega (arith, ints, g, e, v, f, h)

  value_down : (n m w x y : ℤ) → (n *ℤ (k *ℤ x) +ℤ m *ℤ (k *ℤ y)) ≤ℤ (k *ℤ w -ℤ pos 1)
      → (n *ℤ x +ℤ m *ℤ y) <ℤ w
  value_down n m w x y l =
      let e = difference_is w (n *ℤ x +ℤ m *ℤ y) k in
      let v = value_scaled k n m x y in
      let f = factor_first k w in
      let g = pos_left (w -ℤ (n *ℤ x +ℤ m *ℤ y)) k h (omega (arith, ints, l, e, v, f)) in
      omega (arith, ints, g)

  end_up : (n m w : ℤ) → EndWithin n m w ax ay bx by → ScaledEnd n m w
  end_up n m w (inl l) = inl (value_up n m w ax ay l)
  end_up n m w (inr l) = inr (value_up n m w bx by l)

  end_down : (n m w : ℤ) → ScaledEnd n m w → EndWithin n m w ax ay bx by
  end_down n m w (inl l) = inl (value_down n m w ax ay l)
  end_down n m w (inr l) = inr (value_down n m w bx by l)

  abbrev pub ScaledEnds : Type 0
  ScaledEnds = Ends (k *ℤ c -ℤ pos 1) (k *ℤ u -ℤ pos 1) (k *ℤ ax) (k *ℤ ay) (k *ℤ bx) (k *ℤ by)

  ends_up : EndsWithin c u ax ay bx by → ScaledEnds
  ends_up e = record {
    right = end_up (pos 1) (pos 0) c e.right;
    left = end_up (neg_ℤ (pos 1)) (pos 0) c e.left;
    over = end_up (pos 0) (pos 1) c e.over;
    below = end_up (pos 0) (neg_ℤ (pos 1)) c e.below;
    over_right = end_up (pos 1) (pos 1) u e.over_right;
    below_right = end_up (pos 1) (neg_ℤ (pos 1)) u e.below_right;
    over_left = end_up (neg_ℤ (pos 1)) (pos 1) u e.over_left;
    below_left = end_up (neg_ℤ (pos 1)) (neg_ℤ (pos 1)) u e.below_left;
  }

  ends_down : ScaledEnds → EndsWithin c u ax ay bx by
  ends_down e = record {
    right = end_down (pos 1) (pos 0) c e.right;
    left = end_down (neg_ℤ (pos 1)) (pos 0) c e.left;
    over = end_down (pos 0) (pos 1) c e.over;
    below = end_down (pos 0) (neg_ℤ (pos 1)) c e.below;
    over_right = end_down (pos 1) (pos 1) u e.over_right;
    below_right = end_down (pos 1) (neg_ℤ (pos 1)) u e.below_right;
    over_left = end_down (neg_ℤ (pos 1)) (pos 1) u e.over_left;
    below_left = end_down (neg_ℤ (pos 1)) (neg_ℤ (pos 1)) u e.below_left;
  }

  -- ---- the line
  abbrev ScaledLine : Type 0
  ScaledLine = IsSize (breadth (k *ℤ c -ℤ pos 1) ((k *ℤ u -ℤ pos 1) -ℤ (k *ℤ c -ℤ pos 1))
      (k *ℤ bx -ℤ k *ℤ ax)
      (k *ℤ by -ℤ k *ℤ ay)) (cross (k *ℤ ax) (k *ℤ ay) (k *ℤ bx) (k *ℤ by))

  line_is : breadth (k *ℤ c -ℤ pos 1) ((k *ℤ u -ℤ pos 1) -ℤ (k *ℤ c -ℤ pos 1)) (k *ℤ bx -ℤ k *ℤ ax)
      (k *ℤ by -ℤ k *ℤ ay)
      ≡ k *ℤ (k *ℤ breadth c (u -ℤ c) (bx -ℤ ax) (by -ℤ ay) -ℤ length_of (bx -ℤ ax) (by -ℤ ay))
  line_is =
      let t : (k *ℤ u -ℤ pos 1) -ℤ (k *ℤ c -ℤ pos 1) ≡ k *ℤ (u -ℤ c) = ring (k ∷ u ∷ c ∷ [])
      ((v0 ⊗ v1 ⊖ num (pos 1)) ⊖ (v0 ⊗ v2 ⊖ num (pos 1))) (v0 ⊗ (v1 ⊖ v2)) refl in
      let x : k *ℤ bx -ℤ k *ℤ ax ≡ k *ℤ (bx -ℤ ax) = ring (k ∷ bx ∷ ax ∷ []) (v0 ⊗ v1 ⊖ v0 ⊗ v2) (v0 ⊗ (v1 ⊖ v2)) refl in
      let y : k *ℤ by -ℤ k *ℤ ay ≡ k *ℤ (by -ℤ ay) = ring (k ∷ by ∷ ay ∷ []) (v0 ⊗ v1 ⊖ v0 ⊗ v2) (v0 ⊗ (v1 ⊖ v2)) refl in
      rw (t, x, y) (breadth_scaled k c (u -ℤ c) (bx -ℤ ax) (by -ℤ ay) h)

  line_up : Gaps k c u ax ay bx by → ScaledLine
  line_up g =
      let b : ℤ = breadth c (u -ℤ c) (bx -ℤ ax) (by -ℤ ay) in
      let l : ℤ = length_of (bx -ℤ ax) (by -ℤ ay) in
      let x : ℤ = cross ax ay bx by in
      let m = at_least_mul (k *ℤ (b -ℤ x) -ℤ l) k g.most (omega (arith, ints, h)) in
      let n = at_least_mul (k *ℤ (b +ℤ x) -ℤ l) k g.least (omega (arith, ints, h)) in
      let p = parted k b x l in
      let q = parted_back k b x l in
      let e = line_is in
      let f = cross_scaled k ax ay bx by in
      record { least = omega (arith, ints, n, q, e, f); most = omega (arith, ints, m, p, e, f) }

  line_down : ScaledLine → Gaps k c u ax ay bx by
  line_down s =
      let b : ℤ = breadth c (u -ℤ c) (bx -ℤ ax) (by -ℤ ay) in
      let l : ℤ = length_of (bx -ℤ ax) (by -ℤ ay) in
      let x : ℤ = cross ax ay bx by in
      let m = s.most in
      let n = s.least in
      let p = parted k b x l in
      let q = parted_back k b x l in
      let e = line_is in
      let f = cross_scaled k ax ay bx by in
      record {
        most = at_least_left (k *ℤ (b -ℤ x) -ℤ l) k h (omega (arith, ints, m, p, e, f));
        least = at_least_left (k *ℤ (b +ℤ x) -ℤ l) k h (omega (arith, ints, n, q, e, f));
      }

  -- ---- means
  within : (n m w s t : ℤ) → pos 0 <ℤ (s +ℤ t)
      → Lies n m (k *ℤ w -ℤ pos 1) s t (k *ℤ ax) (k *ℤ ay) (k *ℤ bx) (k *ℤ by)
      → LiesWithin n m w s t ax ay bx by
  within n m w s t some l =
      let v : ℤ = n *ℤ (s *ℤ ax +ℤ t *ℤ bx) +ℤ m *ℤ (s *ℤ ay +ℤ t *ℤ by) in
      let e = mean_scaled k n m s t ax ay bx by in
      let f = width_scaled k w (s +ℤ t) in
      let d = difference_is (w *ℤ (s +ℤ t)) v k in
      let g = pos_left (w *ℤ (s +ℤ t) -ℤ v) k h (omega (arith, ints, l, e, f, d, some)) in
      omega (arith, ints, g)

  pub inside_of : Approach (k *ℤ c -ℤ pos 1) (k *ℤ u -ℤ pos 1) (k *ℤ ax) (k *ℤ ay) (k *ℤ bx) (k *ℤ by)
      → Inside c u ax ay bx by
  inside_of a = record {
    s = a.s;
    t = a.t;
    from = a.from;
    to = a.to;
    some = a.some;
    right = within (pos 1) (pos 0) c a.s a.t a.some a.right;
    left = within (neg_ℤ (pos 1)) (pos 0) c a.s a.t a.some a.left;
    over = within (pos 0) (pos 1) c a.s a.t a.some a.over;
    below = within (pos 0) (neg_ℤ (pos 1)) c a.s a.t a.some a.below;
    over_right = within (pos 1) (pos 1) u a.s a.t a.some a.over_right;
    below_right = within (pos 1) (neg_ℤ (pos 1)) u a.s a.t a.some a.below_right;
    over_left = within (neg_ℤ (pos 1)) (pos 1) u a.s a.t a.some a.over_left;
    below_left = within (neg_ℤ (pos 1)) (neg_ℤ (pos 1)) u a.s a.t a.some a.below_left;
  }

  -- ---- together
  module _ (thin : u <ℤ (pos 2 *ℤ c)) (wide : c ≤ℤ u) (some : pos 0 <ℤ c) (up : pos 0 ≤ℤ (by -ℤ ay)) where
    width : pos 0 ≤ℤ (k *ℤ c -ℤ pos 1)
    width =
        let g = at_least_mul (c -ℤ pos 1) k (omega (arith, ints, some)) (omega (arith, ints, h)) in
        let e : (c -ℤ pos 1) *ℤ k ≡ k *ℤ c -ℤ k = ring (k ∷ c ∷ []) ((v1 ⊖ num (pos 1)) ⊗ v0) (v0 ⊗ v1 ⊖ v0) refl in
        omega (arith, ints, g, e, h)

    wider : (k *ℤ c -ℤ pos 1) ≤ℤ (k *ℤ u -ℤ pos 1)
    wider =
        let g = at_least_mul (u -ℤ c) k (omega (arith, ints, wide)) (omega (arith, ints, h)) in
        let e : (u -ℤ c) *ℤ k ≡ k *ℤ u -ℤ k *ℤ c = ring (k ∷ u ∷ c ∷ []) ((v1 ⊖ v2) ⊗ v0) (v0 ⊗ v1 ⊖ v0 ⊗ v2) refl in
        omega (arith, ints, g, e)

    narrow : (k *ℤ u -ℤ pos 1) ≤ℤ (pos 2 *ℤ (k *ℤ c -ℤ pos 1))
    narrow =
        let g = at_least_mul ((pos 2 *ℤ c -ℤ u) -ℤ pos 1) k (omega (arith, ints, thin)) (omega (arith, ints, h)) in
        let e : ((pos 2 *ℤ c -ℤ u) -ℤ pos 1) *ℤ k ≡ (pos 2 *ℤ (k *ℤ c) -ℤ k *ℤ u) -ℤ k = ring (k ∷ c ∷ u ∷ [])
        (((num (pos 2) ⊗ v1 ⊖ v2) ⊖ num (pos 1)) ⊗ v0) ((num (pos 2) ⊗ (v0 ⊗ v1) ⊖ v0 ⊗ v2) ⊖ v0) refl in
        omega (arith, ints, g, e, h)

    rises : pos 0 ≤ℤ (k *ℤ by -ℤ k *ℤ ay)
    rises =
        let g = at_least_mul (by -ℤ ay) k up (omega (arith, ints, h)) in
        let e = difference_is by ay k in
        let p = factor_first k by in
        let q = factor_first k ay in
        omega (arith, ints, g, e, p, q)

    pub inside_if : EndsWithin c u ax ay bx by → Gaps k c u ax ay bx by → Inside c u ax ay bx by
    inside_if e g = inside_of (approach_if_passes (k *ℤ c -ℤ pos 1) (k *ℤ u -ℤ pos 1) (k *ℤ ax) (k *ℤ ay)
        (k *ℤ bx)
        (k *ℤ by) width wider narrow rises
        (tests (k *ℤ c -ℤ pos 1) (k *ℤ u -ℤ pos 1) (k *ℤ ax) (k *ℤ ay) (k *ℤ bx) (k *ℤ by) (ends_up e)
        (line_up g)))

    pub told_if : Approach (k *ℤ c -ℤ pos 1) (k *ℤ u -ℤ pos 1) (k *ℤ ax) (k *ℤ ay) (k *ℤ bx) (k *ℤ by)
        → EndsWithin c u ax ay bx by × Gaps k c u ax ay bx by
    told_if a =
        let f = facts (k *ℤ c -ℤ pos 1) (k *ℤ u -ℤ pos 1) (k *ℤ ax) (k *ℤ ay) (k *ℤ bx) (k *ℤ by)
        (passes_if_approach (k *ℤ c -ℤ pos 1) (k *ℤ u -ℤ pos 1) (k *ℤ ax) (k *ℤ ay) (k *ℤ bx) (k *ℤ by)
        width wider narrow
        rises a) in
        (ends_down f.0, line_down f.1)

-- ---- of a point
point_breadth : (s t x y : ℤ) → x ≡ pos 0 → y ≡ pos 0 → breadth s t x y ≡ pos 0
point_breadth s t x y hx hy =
    by_direction s t x y true (int_le (x +ℤ y) (pos 0)) (int_le (pos 0) x)
    (int_le-at_most y x (omega (arith, ints, hx, hy))) refl refl
    ∙ ap₂ (λ (a b : ℤ). s *ℤ a +ℤ t *ℤ b) hx hy
    ∙ ring (s ∷ t ∷ []) (v0 ⊗ num (pos 0) ⊕ v1 ⊗ num (pos 0)) (num (pos 0)) refl

point_cross : (ax ay bx by : ℤ) → ax ≡ bx → ay ≡ by → cross ax ay bx by ≡ pos 0
point_cross ax ay bx by x y =
    ap₂ (λ (a b : ℤ). ax *ℤ b -ℤ ay *ℤ a) (sym x) (sym y)
    ∙ ring (ax ∷ ay ∷ []) (v0 ⊗ v1 ⊖ v1 ⊗ v0) (num (pos 0)) refl

no_gap : (k g l : ℤ) → g ≡ pos 0 → l ≡ pos 0 → pos 0 ≤ℤ (k *ℤ g -ℤ l)
no_gap k g l hg hl =
    let m : k *ℤ g ≡ k *ℤ pos 0 = ap (λ (z : ℤ). k *ℤ z) hg in
    let n = no_times k in
    omega (arith, ints, m, n, hl)

-- ---- with K one more than the length
module _ (c u ax ay bx by : ℤ) (thin : u <ℤ (pos 2 *ℤ c)) (wide : c ≤ℤ u) (some : pos 0 <ℤ c)
    (up : pos 0 ≤ℤ (by -ℤ ay)) where
  abbrev l : ℤ
  l = length_of (bx -ℤ ax) (by -ℤ ay)

  abbrev b : ℤ
  b = breadth c (u -ℤ c) (bx -ℤ ax) (by -ℤ ay)

  -- a gap above 0, taken l + 1 times, is more than l
  more_than : (g : ℤ) → pos 0 ≤ℤ l → pos 0 <ℤ g → pos 0 ≤ℤ ((l +ℤ pos 1) *ℤ g -ℤ l)
  more_than g h o =
      let m = at_least_mul (g -ℤ pos 1) (l +ℤ pos 1) (omega (arith, ints, o)) (omega (arith, ints, h)) in
      let e : (g -ℤ pos 1) *ℤ (l +ℤ pos 1) ≡ (l +ℤ pos 1) *ℤ g -ℤ (l +ℤ pos 1) = ring (g ∷ l ∷ [])
      ((v0 ⊖ num (pos 1)) ⊗ (v1 ⊕ num (pos 1))) ((v1 ⊕ num (pos 1)) ⊗ v0 ⊖ (v1 ⊕ num (pos 1))) refl in
      omega (arith, ints, m, e)

  point_gaps : ax ≡ bx → ay ≡ by → Gaps (l +ℤ pos 1) c u ax ay bx by
  point_gaps x y =
      let z : bx -ℤ ax ≡ pos 0 = omega (arith, ints, x) in
      let w : by -ℤ ay ≡ pos 0 = omega (arith, ints, y) in
      let o : l ≡ pos 0 = point_breadth (pos 1) (pos 0) (bx -ℤ ax) (by -ℤ ay) z w in
      let b_none : b ≡ pos 0 = point_breadth c (u -ℤ c) (bx -ℤ ax) (by -ℤ ay) z w in
      let k = point_cross ax ay bx by x y in
      record {
        most = no_gap (l +ℤ pos 1) (b -ℤ cross ax ay bx by) l (omega (arith, ints, b_none, k)) o;
        least = no_gap (l +ℤ pos 1) (b +ℤ cross ax ay bx by) l (omega (arith, ints, b_none, k)) o;
      }

  gaps : IsLineWithin c u ax ay bx by → Gaps (l +ℤ pos 1) c u ax ay bx by
  gaps line =
      let p = length_at_least (bx -ℤ ax) (by -ℤ ay) up in
      let r = p.0 in
      let x = p.1 in
      let y = p.2 in
      elim (order l (pos 0)) [
        | inl o ↦ point_gaps (omega (arith, ints, o, x, y)) (omega (arith, ints, o, r, up))
        | inr o ↦
            let i = line o in
            let f = i.from in
            let t = i.to in
            record {
              most = more_than (b -ℤ cross ax ay bx by) (omega (arith, ints, o)) (omega (arith, ints, t));
              least = more_than (b +ℤ cross ax ay bx by) (omega (arith, ints, o)) (omega (arith, ints, f));
            }
      ]

  pub inside_if_passes : EndsWithin c u ax ay bx by → IsLineWithin c u ax ay bx by → Inside c u ax ay bx by
  inside_if_passes e line =
      let p = (length_at_least (bx -ℤ ax) (by -ℤ ay) up).0 in
      inside_if (l +ℤ pos 1) c u ax ay bx by (omega (arith, ints, p, up)) thin wide some up e (gaps line)

  -- ---- and back, with K the sum of the weights
  module _ (i : Inside c u ax ay bx by) where
    abbrev k : ℤ
    k = i.s +ℤ i.t

    lies : (n m w : ℤ) → LiesWithin n m w i.s i.t ax ay bx by
        → Lies n m (k *ℤ w -ℤ pos 1) i.s i.t (k *ℤ ax) (k *ℤ ay) (k *ℤ bx) (k *ℤ by)
    lies n m w h =
        let v : ℤ = n *ℤ (i.s *ℤ ax +ℤ i.t *ℤ bx) +ℤ m *ℤ (i.s *ℤ ay +ℤ i.t *ℤ by) in
        let e = mean_scaled k n m i.s i.t ax ay bx by in
        let f = width_scaled k w k in
        let o = i.some in
        let g = at_least_mul (w *ℤ k -ℤ v -ℤ pos 1) k (omega (arith, ints, h)) (omega (arith, ints, o)) in
        let d = gap_is (w *ℤ k) v k in
        omega (arith, ints, g, d, e, f)

    approach : Approach (k *ℤ c -ℤ pos 1) (k *ℤ u -ℤ pos 1) (k *ℤ ax) (k *ℤ ay) (k *ℤ bx) (k *ℤ by)
    approach = record {
      s = i.s;
      t = i.t;
      from = i.from;
      to = i.to;
      some = i.some;
      right = lies (pos 1) (pos 0) c i.right;
      left = lies (neg_ℤ (pos 1)) (pos 0) c i.left;
      over = lies (pos 0) (pos 1) c i.over;
      below = lies (pos 0) (neg_ℤ (pos 1)) c i.below;
      over_right = lies (pos 1) (pos 1) u i.over_right;
      below_right = lies (pos 1) (neg_ℤ (pos 1)) u i.below_right;
      over_left = lies (neg_ℤ (pos 1)) (pos 1) u i.over_left;
      below_left = lies (neg_ℤ (pos 1)) (neg_ℤ (pos 1)) u i.below_left;
    }

    pub passes_if_inside : EndsWithin c u ax ay bx by × IsLineWithin c u ax ay bx by
    passes_if_inside =
        let f = told_if k c u ax ay bx by i.some thin wide some up approach in
        let m = f.1.most in
        let n = f.1.least in (
          f.0,
          λ o.
              let p = positive_gap (b -ℤ cross ax ay bx by) o m in
              let q = positive_gap (b +ℤ cross ax ay bx by) o n in
              record { from = omega (arith, ints, q); to = omega (arith, ints, p) },
        )
      where
        positive_gap : (g : ℤ) → pos 0 <ℤ l → pos 0 ≤ℤ (k *ℤ g -ℤ l) → pos 0 <ℤ g
        positive_gap g o h =
            let e = factor_first g k in
            pos_left g k i.some (omega (arith, ints, o, h, e))
