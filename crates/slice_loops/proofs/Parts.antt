-- Two segments end to end on one line wind as the one from the first start to the last end.
use Rattle.std.proofs.Common.{◌≡◌, Bool, true, false, [], ◌∷◌, refl, sym, ap, ap₂, ◌∙◌, arith}
use lib.IntN.{ℤ, pos, negsuc, ◌+ℤ◌, ◌-ℤ◌, ◌*ℤ◌, neg_ℤ, +ℤ_idl}
use lib.Signed.{◌<ℤ◌}
use Rattle.std.specs.Prelude.{if◌then◌else◌, int_lt, int_le}
use Rattle.std.proofs.lemmas.Int.{ints}
use Rattle.scad_geom.specs.declared.point.Pt.{Pt}
use Rattle.scad_geom.specs.Point.{Point, whole}
use Rattle.scad_geom.specs.Winding.{is_over, side_by, is_beyond, turn}
use Rattle.scad_geom.proofs.Ring.{ring, num, ◌⊖◌, ◌⊗◌, v0, v1, v2, v3, v4, v5, v6}
use Rattle.scad_geom.proofs.Signs.{pos_left, falls, climbs, minus_times, sub_mul}
use Rattle.scad_geom.proofs.Turns.{flat_turn, rising_turn, falling_turn, beyond_mul}
use Rattle.slice_loops.specs.Corners.{is_between}
use Rattle.slice_loops.proofs.Straight.{IsAhead, ahead_itself, ahead_on, between_turned, scaled_bend, flipped}
use Rattle.scad_geom.proofs.Integers.{neg_mul}
use Rattle.std.proofs.Math.IntN.{+ℤ_idr, +ℤ_comm}

-- ---- the side of a point, from the end of the segment and from its start
from_end : (ax ay bx by x y d : ℤ) → (bx *ℤ pos 1 -ℤ ax *ℤ pos 1) *ℤ (y *ℤ pos 1 -ℤ ay *ℤ d) -ℤ
    (by *ℤ pos 1 -ℤ ay *ℤ pos 1) *ℤ (x *ℤ pos 1 -ℤ ax *ℤ d)
    ≡ (bx -ℤ ax) *ℤ (y -ℤ by *ℤ d) -ℤ (by -ℤ ay) *ℤ (x -ℤ bx *ℤ d)
from_end ax ay bx by x y d = ring (ax ∷ ay ∷ bx ∷ by ∷ x ∷ y ∷ d ∷ [])
    ((v2 ⊗ num (pos 1) ⊖ v0 ⊗ num (pos 1)) ⊗ (v5 ⊗ num (pos 1) ⊖ v1 ⊗ v6)
    ⊖ (v3 ⊗ num (pos 1) ⊖ v1 ⊗ num (pos 1)) ⊗ (v4 ⊗ num (pos 1) ⊖ v0 ⊗ v6))
    ((v2 ⊖ v0) ⊗ (v5 ⊖ v3 ⊗ v6) ⊖ (v3 ⊖ v1) ⊗ (v4 ⊖ v2 ⊗ v6)) refl

from_start : (ax ay bx by x y d : ℤ) → (bx *ℤ pos 1 -ℤ ax *ℤ pos 1) *ℤ (y *ℤ pos 1 -ℤ ay *ℤ d) -ℤ
    (by *ℤ pos 1 -ℤ ay *ℤ pos 1) *ℤ (x *ℤ pos 1 -ℤ ax *ℤ d)
    ≡ pos 0 -ℤ ((ax -ℤ bx) *ℤ (y -ℤ ay *ℤ d) -ℤ (ay -ℤ by) *ℤ (x -ℤ ax *ℤ d))
from_start ax ay bx by x y d = ring (ax ∷ ay ∷ bx ∷ by ∷ x ∷ y ∷ d ∷ [])
    ((v2 ⊗ num (pos 1) ⊖ v0 ⊗ num (pos 1)) ⊗ (v5 ⊗ num (pos 1) ⊖ v1 ⊗ v6)
    ⊖ (v3 ⊗ num (pos 1) ⊖ v1 ⊗ num (pos 1)) ⊗ (v4 ⊗ num (pos 1) ⊖ v0 ⊗ v6))
    (num (pos 0) ⊖ ((v0 ⊖ v2) ⊗ (v5 ⊖ v1 ⊗ v6) ⊖ (v1 ⊖ v3) ⊗ (v4 ⊖ v0 ⊗ v6))) refl

-- the part before the end of a segment, and the one behind its start, see a point on the same side
last_side : (q : Point) (a m b : Pt) (h : IsAhead a m b)
    → side_by q (whole a) (whole b) *ℤ h.far ≡ side_by q (whole m) (whole b) *ℤ h.near
unfolding side_by
last_side q a m b h =
    ap (λ (z : ℤ). z *ℤ h.far) (from_end a.x a.y b.x b.y q.x q.y q.d)
    ∙ scaled_bend h.far h.near (b.x -ℤ a.x) (b.y -ℤ a.y) (b.x -ℤ m.x) (b.y -ℤ m.y) (q.x -ℤ b.x *ℤ q.d)
    (q.y -ℤ b.y *ℤ q.d) h.across h.along
    ∙ ap (λ (z : ℤ). z *ℤ h.near) (sym (from_end m.x m.y b.x b.y q.x q.y q.d))

first_side : (q : Point) (a m b : Pt) (h : IsAhead b m a)
    → side_by q (whole a) (whole b) *ℤ h.far ≡ side_by q (whole a) (whole m) *ℤ h.near
unfolding side_by
first_side q a m b h =
    ap (λ (z : ℤ). z *ℤ h.far) (from_start a.x a.y b.x b.y q.x q.y q.d)
    ∙ minus_times ((a.x -ℤ b.x) *ℤ (q.y -ℤ a.y *ℤ q.d) -ℤ (a.y -ℤ b.y) *ℤ (q.x -ℤ a.x *ℤ q.d)) h.far
    ∙ ap (λ (z : ℤ). pos 0 -ℤ z) (scaled_bend h.far h.near (a.x -ℤ b.x) (a.y -ℤ b.y) (a.x -ℤ m.x)
    (a.y -ℤ m.y) (q.x -ℤ a.x *ℤ q.d) (q.y -ℤ a.y *ℤ q.d) h.across h.along)
    ∙ sym (minus_times ((a.x -ℤ m.x) *ℤ (q.y -ℤ a.y *ℤ q.d) -ℤ (a.y -ℤ m.y) *ℤ (q.x -ℤ a.x *ℤ q.d))
    h.near)
    ∙ ap (λ (z : ℤ). z *ℤ h.near) (sym (from_start a.x a.y m.x m.y q.x q.y q.d))

-- ---- segments that pass the height of a point alike and see it on the same side turn alike
alike : (above right : Bool) (q : Point) (a b c e : Pt) (k l : ℤ) → pos 0 <ℤ k → pos 0 <ℤ l
    → is_over above q (whole a) ≡ is_over above q (whole c)
    → is_over above q (whole b) ≡ is_over above q (whole e)
    → side_by q (whole a) (whole b) *ℤ k ≡ side_by q (whole c) (whole e) *ℤ l
    → turn above right q (whole a) (whole b) ≡ turn above right q (whole c) (whole e)
alike above right q a b c e k l kp lp ha hb h
    = by_tests (is_over above q (whole c)) (is_over above q (whole e)) refl refl
  where
    same : is_beyond right (side_by q (whole a) (whole b)) ≡ is_beyond right (side_by q (whole c) (whole e))
    same = sym (beyond_mul right k (side_by q (whole a) (whole b)) kp) ∙ ap (is_beyond right) h
        ∙ beyond_mul right l (side_by q (whole c) (whole e)) lp

    same_turned : is_beyond right (neg_ℤ (side_by q (whole a) (whole b)))
        ≡ is_beyond right (neg_ℤ (side_by q (whole c) (whole e)))
    same_turned =
        sym (beyond_mul right k (neg_ℤ (side_by q (whole a) (whole b))) kp)
        ∙ ap (is_beyond right) (neg_mul (side_by q (whole a) (whole b)) k ∙ ap neg_ℤ h
        ∙ sym (neg_mul (side_by q (whole c) (whole e)) l))
        ∙ beyond_mul right l (neg_ℤ (side_by q (whole c) (whole e))) lp

    by_tests : (s t : Bool) → is_over above q (whole c) ≡ s → is_over above q (whole e) ≡ t
        → turn above right q (whole a) (whole b) ≡ turn above right q (whole c) (whole e)
    by_tests true true hc he = flat_turn above right q (whole a) (whole b) (ha ∙ hc ∙ sym (hb ∙ he))
        ∙ sym (flat_turn above right q (whole c) (whole e) (hc ∙ sym he))
    by_tests false false hc he = flat_turn above right q (whole a) (whole b) (ha ∙ hc ∙ sym (hb ∙ he))
        ∙ sym (flat_turn above right q (whole c) (whole e) (hc ∙ sym he))
    by_tests false true hc he = rising_turn above right q (whole a) (whole b) (ha ∙ hc) (hb ∙ he)
        ∙ ap (λ (t : Bool). if t then pos 1 else pos 0) same
        ∙ sym (rising_turn above right q (whole c) (whole e) hc he)
    by_tests true false hc he = falling_turn above right q (whole a) (whole b) (ha ∙ hc) (hb ∙ he)
        ∙ ap (λ (t : Bool). if t then negsuc 0 else pos 0) same_turned
        ∙ sym (falling_turn above right q (whole c) (whole e) hc he)

-- ---- of three points in one direction the middle one is neither the highest nor the lowest
higher : (above : Bool) (q : Point) (a b : Pt) → pos 0 <ℤ q.d → is_over above q (whole a) ≡ false
    → is_over above q (whole b) ≡ true → pos 0 <ℤ (b.y -ℤ a.y)
unfolding is_over
higher true q a b d e f =
    let s = sub_mul b.y a.y q.d in
    let low : int_lt (q.y *ℤ pos 1) (a.y *ℤ q.d) ≡ false = e in
    let high : int_lt (q.y *ℤ pos 1) (b.y *ℤ q.d) ≡ true = f in
    pos_left (b.y -ℤ a.y) q.d d (omega (arith, ints))
higher false q a b d e f =
    let s = sub_mul b.y a.y q.d in
    let low : int_le (q.y *ℤ pos 1) (a.y *ℤ q.d) ≡ false = e in
    let high : int_le (q.y *ℤ pos 1) (b.y *ℤ q.d) ≡ true = f in
    pos_left (b.y -ℤ a.y) q.d d (omega (arith, ints))

clash : (s t : ℤ) → (s -ℤ t) <ℤ pos 0 → (t -ℤ s) <ℤ pos 0 → ⊥
clash s t h k = omega (arith, ints)

clash_above : (s t : ℤ) → pos 0 <ℤ (s -ℤ t) → pos 0 <ℤ (t -ℤ s) → ⊥
clash_above s t h k = omega (arith, ints)

no_peak : (a m b : Pt) → IsAhead a m b → IsAhead b m a → pos 0 <ℤ (m.y -ℤ a.y) → pos 0 <ℤ (m.y -ℤ b.y)
    → ⊥
no_peak a m b h k p r = clash b.y a.y
    (falls h.far h.near (b.y -ℤ a.y) (b.y -ℤ m.y) h.far_positive h.near_positive h.along (flipped m.y b.y r))
    (falls k.far k.near (a.y -ℤ b.y) (a.y -ℤ m.y) k.far_positive k.near_positive k.along (flipped m.y a.y p))

no_dip : (a m b : Pt) → IsAhead a m b → IsAhead b m a → pos 0 <ℤ (a.y -ℤ m.y) → pos 0 <ℤ (b.y -ℤ m.y)
    → ⊥
no_dip a m b h k p r = clash_above b.y a.y
    (climbs h.far h.near (b.y -ℤ a.y) (b.y -ℤ m.y) h.far_positive h.near_positive h.along r)
    (climbs k.far k.near (a.y -ℤ b.y) (a.y -ℤ m.y) k.far_positive k.near_positive k.along p)

-- ---- the two parts
pub parts_turn : (above right : Bool) (q : Point) → pos 0 <ℤ q.d → (a m b : Pt) → is_between a m b ≡ true
    → turn above right q (whole a) (whole m) +ℤ turn above right q (whole m) (whole b)
    ≡ turn above right q (whole a) (whole b)
parts_turn above right q d a m b t = by_tests (is_over above q (whole a)) (is_over above q (whole m))
    (is_over above q (whole b)) refl refl refl
  where
    on : IsAhead a m b
    on = ahead_on a a m b (ahead_itself a m) t

    back : IsAhead b m a
    back = ahead_on b b m a (ahead_itself b m) (between_turned a m b t)

    with_end : is_over above q (whole m) ≡ is_over above q (whole b)
        → turn above right q (whole a) (whole m) +ℤ turn above right q (whole m) (whole b)
        ≡ turn above right q (whole a) (whole b)
    with_end h =
        ap₂ (λ (s t : ℤ). s +ℤ t)
        (sym (alike above right q a b a m back.far back.near back.far_positive back.near_positive refl (sym h)
        (first_side q a m b back)))
        (flat_turn above right q (whole m) (whole b) h)
        ∙ +ℤ_idr (turn above right q (whole a) (whole b))

    with_start : is_over above q (whole a) ≡ is_over above q (whole m)
        → turn above right q (whole a) (whole m) +ℤ turn above right q (whole m) (whole b)
        ≡ turn above right q (whole a) (whole b)
    with_start h =
        ap₂ (λ (s t : ℤ). s +ℤ t)
        (flat_turn above right q (whole a) (whole m) h)
        (sym (alike above right q a b m b on.far on.near on.far_positive on.near_positive h refl
        (last_side q a m b on)))
        ∙ +ℤ_idl (turn above right q (whole a) (whole b))

    by_tests : (r s t : Bool) → is_over above q (whole a) ≡ r → is_over above q (whole m) ≡ s
        → is_over above q (whole b) ≡ t
        → turn above right q (whole a) (whole m) +ℤ turn above right q (whole m) (whole b)
        ≡ turn above right q (whole a) (whole b)
    by_tests r true true ha hm hb = with_end (hm ∙ sym hb)
    by_tests r false false ha hm hb = with_end (hm ∙ sym hb)
    by_tests true true false ha hm hb = with_start (ha ∙ sym hm)
    by_tests false false true ha hm hb = with_start (ha ∙ sym hm)
    by_tests false true false ha hm hb = absurd
        (no_peak a m b on back (higher above q a m d ha hm) (higher above q b m d hb hm))
    by_tests true false true ha hm hb = absurd
        (no_dip a m b on back (higher above q m a d hm ha) (higher above q m b d hm hb))

-- a segment and the same one backwards cancel, and one of no length doesn't turn
turned_side : (ax ay bx by x y d : ℤ) → (ax *ℤ pos 1 -ℤ bx *ℤ pos 1) *ℤ (y *ℤ pos 1 -ℤ by *ℤ d) -ℤ
    (ay *ℤ pos 1 -ℤ by *ℤ pos 1) *ℤ (x *ℤ pos 1 -ℤ bx *ℤ d)
    ≡ pos 0 -ℤ ((bx *ℤ pos 1 -ℤ ax *ℤ pos 1) *ℤ (y *ℤ pos 1 -ℤ ay *ℤ d) -ℤ
    (by *ℤ pos 1 -ℤ ay *ℤ pos 1) *ℤ (x *ℤ pos 1 -ℤ ax *ℤ d))
turned_side ax ay bx by x y d = ring (ax ∷ ay ∷ bx ∷ by ∷ x ∷ y ∷ d ∷ [])
    ((v0 ⊗ num (pos 1) ⊖ v2 ⊗ num (pos 1)) ⊗ (v5 ⊗ num (pos 1) ⊖ v3 ⊗ v6)
    ⊖ (v1 ⊗ num (pos 1) ⊖ v3 ⊗ num (pos 1)) ⊗ (v4 ⊗ num (pos 1) ⊖ v2 ⊗ v6))
    (num (pos 0) ⊖ ((v2 ⊗ num (pos 1) ⊖ v0 ⊗ num (pos 1)) ⊗ (v5 ⊗ num (pos 1) ⊖ v1 ⊗ v6)
    ⊖ (v3 ⊗ num (pos 1) ⊖ v1 ⊗ num (pos 1)) ⊗ (v4 ⊗ num (pos 1) ⊖ v0 ⊗ v6))) refl

side_turned : (q : Point) (a b : Pt) → side_by q (whole b) (whole a) ≡ pos 0 -ℤ side_by q (whole a) (whole b)
unfolding side_by
side_turned q a b = turned_side a.x a.y b.x b.y q.x q.y q.d

no_minus : (z : ℤ) → neg_ℤ (pos 0 -ℤ z) ≡ z
no_minus z = omega (arith, ints)

opposite : (t : Bool) → (if t then pos 1 else pos 0) +ℤ (if t then negsuc 0 else pos 0) ≡ pos 0
opposite true = refl
opposite false = refl

there_and_back : (above right : Bool) (q : Point) (a b : Pt) → is_over above q (whole a) ≡ false
    → is_over above q (whole b) ≡ true → turn above right q (whole a) (whole b) +ℤ turn above right q (whole b)
    (whole a) ≡ pos 0
there_and_back above right q a b ha hb =
    ap₂ (λ (s t : ℤ). s +ℤ t)
    (rising_turn above right q (whole a) (whole b) ha hb)
    (falling_turn above right q (whole b) (whole a) hb ha
    ∙ ap (λ (z : ℤ). if is_beyond right z then negsuc 0 else pos 0)
    (ap neg_ℤ (side_turned q a b) ∙ no_minus (side_by q (whole a) (whole b))))
    ∙ opposite (is_beyond right (side_by q (whole a) (whole b)))

pub opposites_cancel : (above right : Bool) (q : Point) (a b : Pt)
    → turn above right q (whole a) (whole b) +ℤ turn above right q (whole b) (whole a) ≡ pos 0
opposites_cancel above right q a b = by_tests (is_over above q (whole a)) (is_over above q (whole b)) refl refl
  where
    flat : is_over above q (whole a) ≡ is_over above q (whole b)
        → turn above right q (whole a) (whole b) +ℤ turn above right q (whole b) (whole a) ≡ pos 0
    flat h = ap₂ (λ (s t : ℤ). s +ℤ t) (flat_turn above right q (whole a) (whole b) h)
        (flat_turn above right q (whole b) (whole a) (sym h))

    by_tests : (s t : Bool) → is_over above q (whole a) ≡ s → is_over above q (whole b) ≡ t
        → turn above right q (whole a) (whole b) +ℤ turn above right q (whole b) (whole a) ≡ pos 0
    by_tests true true ha hb = flat (ha ∙ sym hb)
    by_tests false false ha hb = flat (ha ∙ sym hb)
    by_tests false true ha hb = there_and_back above right q a b ha hb
    by_tests true false ha hb = +ℤ_comm (turn above right q (whole a) (whole b))
        (turn above right q (whole b) (whole a)) ∙ there_and_back above right q b a hb ha
