-- A segment that isn't flat turns hard above a point's height and hard below it alike, but for an end at that height.
use Rattle.std.proofs.Common.{◌≡◌, Bool, true, false, [], ◌∷◌, refl, sym, ap, ap₂, ◌∙◌, arith}
use lib.IntN.{ℤ, pos, ◌+ℤ◌, ◌-ℤ◌, ◌*ℤ◌, neg_ℤ, neg_ℤ-neg_ℤ, *ℤ_comm}
use lib.Signed.{◌<ℤ◌}
use Rattle.std.specs.Prelude.{int_lt, int_le, if◌then◌else◌, ◌&&◌}
use Rattle.std.specs.Ordering.{int_eq}
use Rattle.std.proofs.lemmas.Int.{ints, by_lt_z}
use Rattle.scad_geom.specs.Winding.{counted}
use Rattle.scad_geom.specs.Point.{Point}
use Rattle.scad_geom.specs.Winding.{is_over, passage_by, side_by, is_beyond, turn}
use Rattle.scad_geom.specs.Level.{IsLower, IsAtMost}
use Rattle.scad_geom.proofs.Ring.{ring, num, ◌⊕◌, ◌⊖◌, ◌⊗◌, v0, v1, v2, v3, v4, v5, v6, v7, v8}
use Rattle.scad_base.proofs.Products.{positive_product}
use Rattle.scad_geom.proofs.Integers.{mul_assoc, neg_mul}
use Rattle.scad_geom.proofs.Heights.{lower_then_at_most, at_most_then_lower, lower_weak}
use Rattle.scad_geom.proofs.Turns.{level_at, over_true, over_false, flat_turn, rising_turn, beyond_mul}
use Rattle.scad_base.proofs.Integers.{gap_of_less, minus_self}
use Rattle.scad_geom.proofs.Signs.{no_gap}
use Rattle.std.specs.Cmp.{signed_Decides}

-- how far b lies to the right of p, over the product of their divisors
abbrev pub gap : Point → Point → ℤ
gap p b = b.x *ℤ p.d -ℤ p.x *ℤ b.d

abbrev pub is_right : Bool → Point → Point → Bool
is_right right p b = is_beyond right (gap p b)

abbrev pub is_level : Point → Point → Bool
is_level p b = int_eq (p.y *ℤ b.d) (b.y *ℤ p.d)

-- 1 where b lies at the height of p and to its right, or at p where `right` is false
abbrev pub ahead : Bool → Point → Point → ℤ
ahead right p b = counted (is_level p b && is_right right p b)

-- ---- tests
pub three_ways : {P : Type 0} (a b : ℤ) → (a <ℤ b → P) → (a ≡ b → P) → (b <ℤ a → P) → P
three_ways a b lt eq gt = by_lt_z a b lt (λ h. by_lt_z b a gt (λ k. eq (omega (arith, ints))))

pub int_eq-less : (a b : ℤ) → a <ℤ b → int_eq a b ≡ false
int_eq-less a b h = let p : int_lt a b ≡ true = sym (omega (arith, ints)) in rw p refl

pub int_eq-more : (a b : ℤ) → b <ℤ a → int_eq a b ≡ false
int_eq-more a b h =
    let p : int_lt a b ≡ false = sym (omega (arith, ints)) in
    let q : int_lt b a ≡ true = sym (omega (arith, ints)) in
    rw (p, q) refl

pub ahead_level : (right : Bool) (p b : Point) → p.y *ℤ b.d ≡ b.y *ℤ p.d → ahead right p b
    ≡ counted (is_right right p b)
ahead_level right p b h = ap (λ (t : Bool). counted (t && is_right right p b))
    ((signed_Decides (p.y *ℤ b.d) (b.y *ℤ p.d)).1 h)

pub ahead_over : (right : Bool) (p b : Point) → IsLower (level_at p) (level_at b) → ahead right p b ≡ pos 0
ahead_over right p b h = ap (λ (t : Bool). counted (t && is_right right p b))
    (int_eq-less (p.y *ℤ b.d) (b.y *ℤ p.d) h)

pub ahead_under : (right : Bool) (p b : Point) → IsLower (level_at b) (level_at p) → ahead right p b ≡ pos 0
ahead_under right p b h = ap (λ (t : Bool). counted (t && is_right right p b))
    (int_eq-more (p.y *ℤ b.d) (b.y *ℤ p.d) h)

-- ---- the side of a segment that a point at the height of an end lies on
pub drop_zero : (u w z : ℤ) → w ≡ pos 0 → u *ℤ w +ℤ z ≡ z
drop_zero u w z h = let t : u *ℤ w ≡ pos 0 = rw h (omega (arith, ints)) in rw t (omega (arith, ints))

from_start : (ax ay ad bx by bd x y d : ℤ)
    → (bx *ℤ ad -ℤ ax *ℤ bd) *ℤ (y *ℤ ad -ℤ ay *ℤ d) -ℤ (by *ℤ ad -ℤ ay *ℤ bd) *ℤ
    (x *ℤ ad -ℤ ax *ℤ d) ≡ (bx *ℤ ad -ℤ ax *ℤ bd) *ℤ (y *ℤ ad -ℤ ay *ℤ d) +ℤ
    (ax *ℤ d -ℤ x *ℤ ad) *ℤ
    (by *ℤ ad -ℤ ay *ℤ bd)
from_start ax ay ad bx by bd x y d = ring (ax ∷ ay ∷ ad ∷ bx ∷ by ∷ bd ∷ x ∷ y ∷ d ∷ [])
    ((v3 ⊗ v2 ⊖ v0 ⊗ v5) ⊗ (v7 ⊗ v2 ⊖ v1 ⊗ v8) ⊖ (v4 ⊗ v2 ⊖ v1 ⊗ v5)
    ⊗ (v6 ⊗ v2 ⊖ v0 ⊗ v8))
    ((v3 ⊗ v2 ⊖ v0 ⊗ v5) ⊗ (v7 ⊗ v2 ⊖ v1 ⊗ v8) ⊕ (v0 ⊗ v8 ⊖ v6 ⊗ v2)
    ⊗ (v4 ⊗ v2 ⊖ v1 ⊗ v5)) refl

from_end : (ax ay ad bx by bd x y d : ℤ) → ((bx *ℤ ad -ℤ ax *ℤ bd) *ℤ (y *ℤ ad -ℤ ay *ℤ d) -ℤ
    (by *ℤ ad -ℤ ay *ℤ bd) *ℤ
    (x *ℤ ad -ℤ ax *ℤ d)) *ℤ bd ≡ (ad *ℤ (bx *ℤ ad -ℤ ax *ℤ bd)) *ℤ (y *ℤ bd -ℤ by *ℤ d) +ℤ
    (bx *ℤ d -ℤ x *ℤ bd) *ℤ
    (ad *ℤ (by *ℤ ad -ℤ ay *ℤ bd))
from_end ax ay ad bx by bd x y d = ring (ax ∷ ay ∷ ad ∷ bx ∷ by ∷ bd ∷ x ∷ y ∷ d ∷ [])
    (((v3 ⊗ v2 ⊖ v0 ⊗ v5) ⊗ (v7 ⊗ v2 ⊖ v1 ⊗ v8) ⊖ (v4 ⊗ v2 ⊖ v1 ⊗ v5)
    ⊗ (v6 ⊗ v2 ⊖ v0 ⊗ v8)) ⊗ v5)
    ((v2 ⊗ (v3 ⊗ v2 ⊖ v0 ⊗ v5)) ⊗ (v7 ⊗ v5 ⊖ v4 ⊗ v8) ⊕ (v3 ⊗ v8 ⊖ v6 ⊗ v5)
    ⊗ (v2 ⊗ (v4 ⊗ v2 ⊖ v1 ⊗ v5))) refl

turned_over : (ax ay ad bx by bd x y d : ℤ)
    → ((ax *ℤ bd -ℤ bx *ℤ ad) *ℤ (y *ℤ bd -ℤ by *ℤ d) -ℤ (ay *ℤ bd -ℤ by *ℤ ad)
    *ℤ (x *ℤ bd -ℤ bx *ℤ d)) *ℤ ad
    ≡ pos 0 -ℤ ((bx *ℤ ad -ℤ ax *ℤ bd) *ℤ (y *ℤ ad -ℤ ay *ℤ d) -ℤ (by *ℤ ad -ℤ ay *ℤ bd)
    *ℤ (x *ℤ ad -ℤ ax *ℤ d)) *ℤ bd
turned_over ax ay ad bx by bd x y d = ring (ax ∷ ay ∷ ad ∷ bx ∷ by ∷ bd ∷ x ∷ y ∷ d ∷ [])
    (((v0 ⊗ v5 ⊖ v3 ⊗ v2) ⊗ (v7 ⊗ v5 ⊖ v4 ⊗ v8) ⊖ (v1 ⊗ v5 ⊖ v4 ⊗ v2)
    ⊗ (v6 ⊗ v5 ⊖ v3 ⊗ v8)) ⊗ v2)
    (num (pos 0) ⊖ ((v3 ⊗ v2 ⊖ v0 ⊗ v5) ⊗ (v7 ⊗ v2 ⊖ v1 ⊗ v8) ⊖ (v4 ⊗ v2 ⊖ v1 ⊗ v5)
    ⊗ (v6 ⊗ v2 ⊖ v0 ⊗ v8)) ⊗ v5) refl

start_side : (right : Bool) (p a b : Point) → IsLower (level_at a) (level_at b) → p.y *ℤ a.d ≡ a.y *ℤ p.d
    → is_beyond right (side_by p a b) ≡ is_right right p a
unfolding side_by
start_side right p a b o h =
    ap (is_beyond right) (from_start a.x a.y a.d b.x b.y b.d p.x p.y p.d ∙ drop_zero (b.x *ℤ a.d -ℤ a.x *ℤ b.d)
    (p.y *ℤ a.d -ℤ a.y *ℤ p.d) (gap p a *ℤ (b.y *ℤ a.d -ℤ a.y *ℤ b.d))
    (no_gap (p.y *ℤ a.d) (a.y *ℤ p.d) h))
    ∙ beyond_mul right (b.y *ℤ a.d -ℤ a.y *ℤ b.d) (gap p a) (gap_of_less (a.y *ℤ b.d) (b.y *ℤ a.d) o)

end_side : (right : Bool) (p a b : Point) → pos 0 <ℤ a.d → pos 0 <ℤ b.d → IsLower (level_at a) (level_at b)
    → p.y *ℤ b.d ≡ b.y *ℤ p.d → is_beyond right (side_by p a b) ≡ is_right right p b
unfolding side_by
end_side right p a b da db o h =
    sym (beyond_mul right b.d (side_by p a b) db)
    ∙ ap (is_beyond right) (from_end a.x a.y a.d b.x b.y b.d p.x p.y p.d
    ∙ drop_zero (a.d *ℤ (b.x *ℤ a.d -ℤ a.x *ℤ b.d))
    (p.y *ℤ b.d -ℤ b.y *ℤ p.d) (gap p b *ℤ (a.d *ℤ (b.y *ℤ a.d -ℤ a.y *ℤ b.d)))
    (no_gap (p.y *ℤ b.d) (b.y *ℤ p.d)
    h))
    ∙ beyond_mul right (a.d *ℤ (b.y *ℤ a.d -ℤ a.y *ℤ b.d)) (gap p b)
    (positive_product a.d (b.y *ℤ a.d -ℤ a.y *ℤ b.d) da
    (gap_of_less (a.y *ℤ b.d) (b.y *ℤ a.d) o))

-- ---- upwards
module _ (right : Bool) (p a b : Point) (dp : pos 0 <ℤ p.d) (da : pos 0 <ℤ a.d) (db : pos 0 <ℤ b.d) (o : IsLower (level_at a) (level_at b)) where
  Steps : Type 0
  Steps = turn true right p a b -ℤ turn false right p a b ≡ ahead right p a -ℤ ahead right p b

  from_parts : (t f x y : ℤ) → turn true right p a b ≡ t → turn false right p a b ≡ f
      → ahead right p a ≡ x → ahead right p b ≡ y → t -ℤ f ≡ x -ℤ y → Steps
  unfolding Steps
  from_parts t f x y ht hf hx hy e = ap₂ (λ (y z : ℤ). y -ℤ z) ht hf ∙ e
      ∙ sym (ap₂ (λ (y z : ℤ). y -ℤ z) hx hy)

  flat_by : (above t : Bool) → is_over above p a ≡ t → is_over above p b ≡ t
      → turn above right p a b ≡ pos 0
  flat_by above t h k = flat_turn above right p a b (h ∙ sym k)

  below_start : IsLower (level_at p) (level_at a) → Steps
  below_start h =
      let k : IsLower (level_at p) (level_at b) = lower_then_at_most (level_at p) (level_at a) (level_at b) dp da db h
      (lower_weak (level_at a) (level_at b) o) in
      from_parts (pos 0) (pos 0) (pos 0) (pos 0)
      (flat_by true true (over_true true p a h) (over_true true p b k))
      (flat_by false true (over_true false p a (lower_weak (level_at p) (level_at a) h))
      (over_true false p b (lower_weak (level_at p) (level_at b) k)))
      (ahead_over right p a h) (ahead_over right p b k) refl

  at_start : p.y *ℤ a.d ≡ a.y *ℤ p.d → Steps
  at_start h =
      let to : IsAtMost (level_at p) (level_at a) = omega (arith, ints) in
      let from : IsAtMost (level_at a) (level_at p) = omega (arith, ints) in
      let k : IsLower (level_at p) (level_at b) = at_most_then_lower (level_at p) (level_at a) (level_at b) dp da db to
      o in
      from_parts (counted (is_right right p a)) (pos 0) (counted (is_right right p a)) (pos 0)
      (rising_turn true right p a b (over_false true p a from) (over_true true p b k) ∙ ap counted
      (start_side right p a b o h))
      (flat_by false true (over_true false p a to) (over_true false p b (lower_weak (level_at p) (level_at b) k)))
      (ahead_level right p a h) (ahead_over right p b k) refl

  inside : IsLower (level_at a) (level_at p) → IsLower (level_at p) (level_at b) → Steps
  inside h k =
      from_parts (counted (is_beyond right (side_by p a b))) (counted (is_beyond right (side_by p a b))) (pos 0) (pos 0)
      (rising_turn true right p a b (over_false true p a (lower_weak (level_at a) (level_at p) h))
      (over_true true p b k))
      (rising_turn false right p a b (over_false false p a h)
      (over_true false p b (lower_weak (level_at p) (level_at b) k)))
      (ahead_under right p a h) (ahead_over right p b k) (minus_self (counted (is_beyond right (side_by p a b))))

  at_end : IsLower (level_at a) (level_at p) → p.y *ℤ b.d ≡ b.y *ℤ p.d → Steps
  at_end h k =
      let to : IsAtMost (level_at p) (level_at b) = omega (arith, ints) in
      let from : IsAtMost (level_at b) (level_at p) = omega (arith, ints) in
      from_parts (pos 0) (counted (is_right right p b)) (pos 0) (counted (is_right right p b))
      (flat_by true false (over_false true p a (lower_weak (level_at a) (level_at p) h)) (over_false true p b from))
      (rising_turn false right p a b (over_false false p a h) (over_true false p b to) ∙ ap counted
      (end_side right p a b da db o k))
      (ahead_under right p a h) (ahead_level right p b k) refl

  above_end : IsLower (level_at a) (level_at p) → IsLower (level_at b) (level_at p) → Steps
  above_end h k =
      from_parts (pos 0) (pos 0) (pos 0) (pos 0)
      (flat_by true false (over_false true p a (lower_weak (level_at a) (level_at p) h))
      (over_false true p b (lower_weak (level_at b) (level_at p) k)))
      (flat_by false false (over_false false p a h) (over_false false p b k))
      (ahead_under right p a h) (ahead_under right p b k) refl

  pub step_up : turn true right p a b -ℤ turn false right p a b ≡ ahead right p a -ℤ ahead right p b
  unfolding Steps
  step_up = three_ways (p.y *ℤ a.d) (a.y *ℤ p.d) below_start at_start
      (λ h. three_ways (p.y *ℤ b.d) (b.y *ℤ p.d)
      (inside h) (at_end h) (above_end h))

-- ---- downwards
passage_turned : (above : Bool) (p a b : Point) → passage_by above p b a ≡ neg_ℤ (passage_by above p a b)
unfolding passage_by
passage_turned above p a b = swapped (counted (is_over above p a)) (counted (is_over above p b))
  where
    swapped : (y z : ℤ) → y -ℤ z ≡ neg_ℤ (z -ℤ y)
    swapped y z = omega (arith, ints)

pub side_turned : (p a b : Point) → side_by p b a *ℤ a.d ≡ neg_ℤ (side_by p a b) *ℤ b.d
unfolding side_by
side_turned p a b = turned_over a.x a.y a.d b.x b.y b.d p.x p.y p.d ∙ moved (side_by p a b) b.d
  where
    moved : (z d : ℤ) → pos 0 -ℤ z *ℤ d ≡ neg_ℤ z *ℤ d
    moved z d = rw neg_mul (omega (arith, ints))

two_signs : (z s : ℤ) → neg_ℤ z *ℤ neg_ℤ s ≡ z *ℤ s
two_signs z s = neg_mul z (neg_ℤ s) ∙ ap neg_ℤ (*ℤ_comm z (neg_ℤ s) ∙ neg_mul s z)
    ∙ neg_ℤ-neg_ℤ (s *ℤ z) ∙ *ℤ_comm s z

pub turn_turned : (above right : Bool) (p a b : Point) → pos 0 <ℤ a.d → pos 0 <ℤ b.d → turn above right p b a
    ≡ neg_ℤ (turn above right p a b)
unfolding turn
turn_turned above right p a b da db =
    let q : ℤ = passage_by above p a b in
    let s = side_turned p a b in
    let same : is_beyond right (neg_ℤ q *ℤ side_by p b a) ≡ is_beyond right (q *ℤ side_by p a b) =
    sym (beyond_mul right a.d (neg_ℤ q *ℤ side_by p b a) da)
    ∙ ap (is_beyond right) (mul_assoc (neg_ℤ q) (side_by p b a) a.d ∙ ap (λ (z : ℤ). neg_ℤ q *ℤ z) s
    ∙ sym
    (mul_assoc (neg_ℤ q) (neg_ℤ (side_by p a b)) b.d)
    ∙ ap (λ (z : ℤ). z *ℤ b.d) (two_signs q (side_by p a b)))
    ∙ beyond_mul right b.d (q *ℤ side_by p a b) db in
    ap (λ (z : ℤ). if is_beyond right (z *ℤ side_by p b a) then z else pos 0) (passage_turned above p a b)
    ∙ ap (λ (t : Bool). if t then neg_ℤ q else pos 0) same
    ∙ by_test (is_beyond right (q *ℤ side_by p a b)) q
  where
    by_test : (t : Bool) (q : ℤ) → (if t then neg_ℤ q else pos 0) ≡ neg_ℤ (if t then q else pos 0)
    by_test true q = refl
    by_test false q = refl

swap_all : (t f x y : ℤ) → t -ℤ f ≡ x -ℤ y → neg_ℤ t -ℤ neg_ℤ f ≡ y -ℤ x
swap_all t f x y h = omega (arith, ints)

pub step_down : (right : Bool) (p a b : Point) → pos 0 <ℤ p.d → pos 0 <ℤ a.d → pos 0 <ℤ b.d
    → IsLower (level_at b) (level_at a)
    → turn true right p a b -ℤ turn false right p a b ≡ ahead right p a -ℤ ahead right p b
step_down right p a b dp da db o =
    ap₂ (λ (y z : ℤ). y -ℤ z) (turn_turned true right p b a db da) (turn_turned false right p b a db da)
    ∙ swap_all (turn true right p b a) (turn false right p b a) (ahead right p b) (ahead right p a)
    (step_up right p b a dp db da o)

-- ---- hard by a point on both sides
-- what lies ahead hard by on the left and not on the right lies at the point
pub ahead_both : (p b : Point) → ahead false p b -ℤ ahead true p b
    ≡ counted (is_level p b && int_eq (p.x *ℤ b.d)
    (b.x *ℤ p.d))
unfolding is_beyond
ahead_both p b = by_test (is_level p b) (three (p.x *ℤ b.d) (b.x *ℤ p.d))
  where
    three : (x y : ℤ) → counted (int_le (pos 0) (y -ℤ x)) -ℤ counted (int_lt (pos 0) (y -ℤ x))
        ≡ counted (int_eq x y)
    three x y = by_lt_z x y
        (λ h.
        let p : int_le (pos 0) (y -ℤ x) ≡ true = sym (omega (arith, ints)) in
        let q : int_lt (pos 0) (y -ℤ x) ≡ true = sym (omega (arith, ints)) in
        rw (p, q, int_eq-less x y h) refl)
        (λ h. by_lt_z y x
        (λ k.
        let p : int_le (pos 0) (y -ℤ x) ≡ false = sym (omega (arith, ints)) in
        let q : int_lt (pos 0) (y -ℤ x) ≡ false = sym (omega (arith, ints)) in
        rw (p, q, int_eq-more x y k) refl)
        (λ k.
        let e : x ≡ y = omega (arith, ints) in
        let p : int_le (pos 0) (y -ℤ x) ≡ true = sym (omega (arith, ints)) in
        let q : int_lt (pos 0) (y -ℤ x) ≡ false = sym (omega (arith, ints)) in
        rw (p, q, (signed_Decides x y).1 e) refl))

    by_test : (t : Bool) → counted (is_beyond false (gap p b)) -ℤ counted (is_beyond true (gap p b))
        ≡ counted (int_eq (p.x *ℤ b.d) (b.x *ℤ p.d))
        → counted (t && is_beyond false (gap p b)) -ℤ counted (t && is_beyond true (gap p b))
        ≡ counted (t && int_eq (p.x *ℤ b.d) (b.x *ℤ p.d))
    by_test true h = h
    by_test false h = refl
