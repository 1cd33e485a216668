-- The height at which two edges meet lies within the limit of their coordinates.
use Rattle.std.proofs.Common.{◌≡◌, ℕ, ◌*◌, ◌≤◌, ◌^◌, ◌⊎◌, inl, inr, Bool, true, false, not, cond, ◌&&◌, ◌||◌, refl, arith}
use Rattle.std.proofs.lemmas.Bool.{and_parts}
use Rattle.scad_base.proofs.Integers.{unsigned_abs-neg}
use lib.IntN.{ℤ, pos, ◌+ℤ◌, ◌-ℤ◌, ◌*ℤ◌, neg_ℤ}
use lib.Signed.{◌<ℤ◌, ◌≤ℤ◌}
use Rattle.std.specs.Prelude.{int_lt, int_le, if◌then◌else◌, unsigned_abs}
use Rattle.std.proofs.lemmas.Int.{ints, unsigned_abs-mul}
use Rattle.std.proofs.lemmas.Nat.{mul-le}
use Rattle.scad_geom.specs.declared.point.Edge.{Edge}
use Rattle.scad_geom.specs.declared.level.Level.{Level}
use Rattle.scad_geom.specs.Within.{IsWithin, IsEdgeWithin}
use Rattle.scad_geom.specs.Line.{low, high, rise, left_of, lean, apart}
use Rattle.scad_geom.specs.Sign.{is_zero}
use Rattle.scad_geom.specs.Level.{IsLevelWithin}
use Rattle.scad_geom.specs.Meeting.{straddles, meets, meeting}
use Rattle.scad_geom.proofs.Signs.{at_least_mul, at_most_mul}
use Rattle.scad_geom.proofs.Lines.{low_by, high_by}
use Rattle.scad_geom.proofs.Heights.{meeting_positive}
use Rattle.scad_base.proofs.Tests.{int_le-true}

one_is : (a b c d : Bool) → ((a && b) || (c && d)) ≡ true → ((a ≡ true) × (b ≡ true)) ⊎ ((c ≡ true) × (d ≡ true))
one_is true true c d h = inl (refl, refl)
one_is true false c d h = inr (and_parts c d h)
one_is false b c d h = inr (and_parts c d h)

pub rise_at_least : (e : Edge) → pos 0 ≤ℤ rise e
unfolding rise low high
rise_at_least e = by_test (int_lt e.b.y e.a.y) refl
  where
    by_test : (t : Bool) → int_lt e.b.y e.a.y ≡ t → pos 0 ≤ℤ ((cond t e.a e.b).y -ℤ (cond t e.b e.a).y)
    by_test true q = omega (arith, ints)
    by_test false q = omega (arith, ints)

pub low_within : (limit : ℕ) (e : Edge) → IsEdgeWithin limit e → IsWithin limit (low e)
unfolding low
low_within limit e h = by_test (int_lt e.b.y e.a.y)
  where
    by_test : (t : Bool) → IsWithin limit (cond t e.b e.a)
    by_test true = h.b
    by_test false = h.a

pub high_within : (limit : ℕ) (e : Edge) → IsEdgeWithin limit e → IsWithin limit (high e)
unfolding high
high_within limit e h = by_test (int_lt e.b.y e.a.y)
  where
    by_test : (t : Bool) → IsWithin limit (cond t e.a e.b)
    by_test true = h.a
    by_test false = h.b

-- the ends of f to the line of e have different signs
ends_apart : (e f : Edge) → straddles e f ≡ true
    → (((lean e f *ℤ (low f).y +ℤ apart e f *ℤ pos 1) ≤ℤ pos 0)
    × (pos 0 ≤ℤ (lean e f *ℤ (high f).y +ℤ apart e f *ℤ pos 1)))
    ⊎ ((pos 0 ≤ℤ (lean e f *ℤ (low f).y +ℤ apart e f *ℤ pos 1)) × ((lean e f *ℤ (high f).y +ℤ apart e f *ℤ pos 1) ≤ℤ pos
    0))
unfolding straddles
ends_apart e f h =
    let s : ℤ = left_of e (low f).x (low f).y (pos 1) in
    let t : ℤ = left_of e (high f).x (high f).y (pos 1) in
    let r = rise_at_least f in
    elim (one_is (int_le s (pos 0)) (int_le (pos 0) t) (int_le (pos 0) s) (int_le t (pos 0)) h) [
      | inl c ↦ inl (
        rw (← (low_by e f)) (at_most_mul s (rise f) (int_le-true s (pos 0) c.0) r),
        rw (← (high_by e f))
            (at_least_mul t (rise f) (int_le-true (pos 0) t c.1) r),
      )
      | inr c ↦ inr (
        rw (← (low_by e f)) (at_least_mul s (rise f) (int_le-true (pos 0) s c.0) r),
        rw (← (high_by e f))
            (at_most_mul t (rise f) (int_le-true t (pos 0) c.1) r),
      )
    ]

abs_le : (z : ℤ) (n : ℕ) → unsigned_abs z ≤ n → (z ≤ℤ pos n) × (neg_ℤ (pos n) ≤ℤ z)
abs_le z n h = (omega (arith, ints), omega (arith, ints))

abs_from : (z : ℤ) (n : ℕ) → z ≤ℤ pos n → neg_ℤ (pos n) ≤ℤ z → unsigned_abs z ≤ n
abs_from z n h k = omega (arith, ints)

product_within : (a y : ℤ) (limit : ℕ) → unsigned_abs y ≤ limit → unsigned_abs (a *ℤ y) ≤ limit * unsigned_abs a
product_within a y limit h = let m = mul-le (unsigned_abs y) (unsigned_abs a) limit (unsigned_abs a) h (omega arith) in rw (unsigned_abs-mul a y) (omega (arith, m))

between : (a b y z : ℤ) (limit : ℕ) → unsigned_abs y ≤ limit → unsigned_abs z ≤ limit → (a *ℤ y +ℤ b *ℤ pos 1) ≤ℤ pos 0
    → pos 0 ≤ℤ (a *ℤ z +ℤ b *ℤ pos 1) → unsigned_abs b ≤ limit * unsigned_abs a
between a b y z limit hy hz h k =
    let p = abs_le (a *ℤ y) (limit * unsigned_abs a) (product_within a y limit hy) in
    let q = abs_le (a *ℤ z) (limit * unsigned_abs a) (product_within a z limit hz) in
    let p1 = p.1 in
    let q0 = q.0 in
    bounded (a *ℤ y) (a *ℤ z) b (limit * unsigned_abs a) p1 q0 h k
  where
    bounded : (u v b : ℤ) (n : ℕ) → neg_ℤ (pos n) ≤ℤ u → v ≤ℤ pos n → (u +ℤ b *ℤ pos 1) ≤ℤ pos 0
        → pos 0 ≤ℤ (v +ℤ b *ℤ pos 1) → unsigned_abs b ≤ n
    bounded u v b n p q h k = omega (arith, ints)

pub apart_within : (limit : ℕ) (e f : Edge) → IsEdgeWithin limit f → straddles e f ≡ true
    → unsigned_abs (apart e f) ≤ limit * unsigned_abs (lean e f)
apart_within limit e f w h =
    let l = (low_within limit f w).y in
    let u = (high_within limit f w).y in
    elim (ends_apart e f h) [
      | inl c ↦ between (lean e f) (apart e f) (low f).y (high f).y limit l u c.0 c.1
      | inr c ↦ between (lean e f) (apart e f) (high f).y (low f).y limit u l c.1 c.0
    ]

pub meeting_within : (limit : ℕ) (e f : Edge) → IsEdgeWithin limit f → unsigned_abs (lean e f) ≤ 10 ^ 13
    → meets e f ≡ true → IsLevelWithin limit (meeting e f)
unfolding meets meeting
meeting_within limit e f w d h =
    let s : straddles e f ≡ true = (and_parts (straddles e f) (straddles f e) (and_parts (not (is_zero (lean e f)))
    (straddles e f && straddles f e) h).1).0 in
    let b = apart_within limit e f w s in
    by_test (int_lt (pos 0) (lean e f)) (meeting_positive e f h) b
  where
    up : Level
    up = record { n = neg_ℤ (apart e f); d = lean e f }

    down : Level
    down = record { n = apart e f; d = neg_ℤ (lean e f) }

    by_test : (t : Bool) → pos 0 <ℤ (if t then up else down).d → unsigned_abs (apart e f) ≤ limit * unsigned_abs
        (lean e f)
        → IsLevelWithin limit (if t then up else down)
    by_test true p b = record { positive = p; divisor = d; size = rw (unsigned_abs-neg (apart e f)) b }
    by_test false p b = record {
      positive = p;
      divisor = rw (unsigned_abs-neg (lean e f)) d;
      size =
          rw (unsigned_abs-neg (lean e f)) b;
    }
