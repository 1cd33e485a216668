-- A closed way with a point to the left of each of its sides winds round it: along such a way, seen from the point,
-- the angle grows, so the way can't stay above the point's height or below it, and each side that passes the height
-- upwards counts 1.
use Rattle.std.proofs.Common.{◌≡◌, ◌⊎◌, inl, inr, Bool, true, false, List, [], ◌∷◌, refl, sym, subst, ◌∙◌, arith, ℤ}
use Rattle.std.proofs.Common.{pos, neg_ℤ, ◌-ℤ◌, ◌*ℤ◌, ◌<ℤ◌}
use lib.Signed.{◌≤ℤ◌}
use Rattle.std.specs.Prelude.{int_lt, int_le, if◌then◌else◌}
use Rattle.std.specs.List.{AllByRecursion}
use Rattle.std.proofs.lemmas.Int.{ints}
use Rattle.std.proofs.lemmas.List.Elements.{recursion_from_All}
use Rattle.scad_base.proofs.Products.{positive_product}
use Rattle.scad_geom.specs.declared.point.Pt.{Pt}
use Rattle.scad_geom.specs.Loop.{path}
use Rattle.scad_geom.specs.Point.{Point, whole}
use Rattle.scad_geom.specs.Segment.{segments}
use Rattle.scad_geom.specs.Winding.{is_over, side_by, is_beyond, turn, wind_by}
use Rattle.scad_geom.proofs.Rising.{by_order, order}
use Rattle.scad_geom.proofs.Turns.{flat_turn, rising_turn, falling_turn}
use Rattle.scad_geom.proofs.Ring.{ring, num, ◌⊖◌, ◌⊗◌, v0, v1, v2, v3, v4, v5, v6}
use Rattle.winding_laws.proofs.Forms.{beyond_above}
use Rattle.plan_walls.specs.Rings.{IsStrictlyLeftOf, LeftIsWound}
use Rattle.plan_walls.proofs.Angles.{cross, Before, chain, itself}

-- ---- a way, seen from a point
-- how far a vertex lies to the right of the point and above it, over its divisor
rightward : Point → Pt → ℤ
rightward q p = p.x *ℤ q.d -ℤ q.x

upward : Point → Pt → ℤ
upward q p = p.y *ℤ q.d -ℤ q.y

side_seen : (ax ay bx by x y d : ℤ)
    → ((bx *ℤ pos 1 -ℤ ax *ℤ pos 1) *ℤ (y *ℤ pos 1 -ℤ ay *ℤ d) -ℤ (by *ℤ pos 1 -ℤ ay *ℤ pos 1) *ℤ
    (x *ℤ pos 1 -ℤ ax *ℤ d)) *ℤ d
    ≡ (ax *ℤ d -ℤ x) *ℤ (by *ℤ d -ℤ y) -ℤ (ay *ℤ d -ℤ y) *ℤ (bx *ℤ d -ℤ x)
side_seen ax ay bx by x y d = ring (ax ∷ ay ∷ bx ∷ by ∷ x ∷ y ∷ d ∷ [])
    (((v2 ⊗ num (pos 1) ⊖ v0 ⊗ num (pos 1)) ⊗ (v5 ⊗ num (pos 1) ⊖ v1 ⊗ v6) ⊖ (v3 ⊗ num (pos 1) ⊖ v1 ⊗ num (pos 1)) ⊗
    (v4 ⊗ num (pos 1) ⊖ v0 ⊗ v6)) ⊗ v6)
    ((v0 ⊗ v6 ⊖ v4) ⊗ (v3 ⊗ v6 ⊖ v5) ⊖ (v1 ⊗ v6 ⊖ v5) ⊗ (v2 ⊗ v6 ⊖ v4)) refl

left_cross : (q : Point) (a b : Pt) → pos 0 <ℤ q.d → pos 0 <ℤ side_by q (whole a) (whole b)
    → pos 0 <ℤ cross (rightward q a) (upward q a) (rightward q b) (upward q b)
unfolding side_by cross rightward upward
left_cross q a b h k =
    let m = positive_product _ q.d k h in
    let e = side_seen a.x a.y b.x b.y q.x q.y q.d in
    omega (arith, ints, m, e)

-- seen from the other side, turned by a half turn
turned_cross : (ux uy wx wy : ℤ) → cross (pos 0 -ℤ ux) (pos 0 -ℤ uy) (pos 0 -ℤ wx) (pos 0 -ℤ wy) ≡ cross ux uy wx wy
unfolding cross
turned_cross ux uy wx wy = ring (ux ∷ uy ∷ wx ∷ wy ∷ [])
    ((num (pos 0) ⊖ v0) ⊗ (num (pos 0) ⊖ v3) ⊖ (num (pos 0) ⊖ v1) ⊗ (num (pos 0) ⊖ v2)) (v0 ⊗ v3 ⊖ v1 ⊗ v2) refl

abbrev AllLeft : Point → Pt → List Pt → Pt → Type 0
AllLeft q from ps last = AllByRecursion (IsStrictlyLeftOf q) (segments (path from ps last))

-- along a way that stays in the half plane the angle grows
module _ (q : Point) (some : pos 0 <ℤ q.d) (X Y : Pt → ℤ)
    (left : (a b : Pt) → pos 0 <ℤ side_by q (whole a) (whole b) → pos 0 <ℤ cross (X a) (Y a) (X b) (Y b)) where
  grows : (from : Pt) (ps : List Pt) (last : Pt) → AllLeft q from ps last → pos 0 ≤ℤ Y from
      → AllByRecursion (λ p. pos 0 ≤ℤ Y p) ps → pos 0 ≤ℤ Y last → Before (X from) (Y from) (X last) (Y last)
  unfolding Before
  grows from [] last h a b c = inl (left from last h.0)
  grows from (p ∷ ps) last h a b c = chain (X from) (Y from) (X p) (Y p) (X last) (Y last) a b.0 c (left from p h.0)
      (grows p ps last h.1 b.0 b.1 c)

  no_way : (p : Pt) (ps : List Pt) → AllLeft q p ps p → pos 0 ≤ℤ Y p → AllByRecursion (λ p. pos 0 ≤ℤ Y p) ps → ⊥
  no_way p ps h a b = itself (X p) (Y p) (grows p ps p h a b a)

-- ---- the turns
module _ (above right : Bool) (q : Point) (some : pos 0 <ℤ q.d) where
  abbrev over : Pt → Bool
  over p = is_over above q (whole p)

  over_up : (p : Pt) → over p ≡ true → pos 0 ≤ℤ upward q p
  unfolding is_over upward
  over_up p h = by_test above h
    where
      by_test : (t : Bool) → (if t then int_lt (q.y *ℤ pos 1) (p.y *ℤ q.d) else int_le (q.y *ℤ pos 1) (p.y *ℤ q.d))
          ≡ true → pos 0 ≤ℤ (p.y *ℤ q.d -ℤ q.y)
      by_test true h = omega (arith, ints, h)
      by_test false h = omega (arith, ints, h)

  over_down : (p : Pt) → over p ≡ false → pos 0 ≤ℤ (pos 0 -ℤ upward q p)
  unfolding is_over upward
  over_down p h = by_test above h
    where
      by_test : (t : Bool) → (if t then int_lt (q.y *ℤ pos 1) (p.y *ℤ q.d) else int_le (q.y *ℤ pos 1) (p.y *ℤ q.d))
          ≡ false → pos 0 ≤ℤ (pos 0 -ℤ (p.y *ℤ q.d -ℤ q.y))
      by_test true h = omega (arith, ints, h)
      by_test false h = omega (arith, ints, h)

  not_beyond : (z : ℤ) → pos 0 <ℤ z → is_beyond right (neg_ℤ z) ≡ false
  unfolding is_beyond
  not_beyond z h = by_test right
    where
      by_test : (t : Bool) → (if t then int_lt (pos 0) (neg_ℤ z) else int_le (pos 0) (neg_ℤ z)) ≡ false
      by_test true = sym (omega (arith, ints, h))
      by_test false = sym (omega (arith, ints, h))

  abbrev turn_of : Pt → Pt → ℤ
  turn_of a b = turn above right q (whole a) (whole b)

  -- a side with the point to its left counts 1 where it passes the height upwards, else 0
  upward_turn : (a b : Pt) → pos 0 <ℤ side_by q (whole a) (whole b) → over a ≡ false → over b ≡ true
      → turn_of a b ≡ pos 1
  upward_turn a b h p r = rising_turn above right q (whole a) (whole b) p r
      ∙ rw (beyond_above right (side_by q (whole a) (whole b)) h) refl

  other_turn : (a b : Pt) → pos 0 <ℤ side_by q (whole a) (whole b) → (over a ≡ true) ⊎ (over b ≡ false)
      → turn_of a b ≡ pos 0
  other_turn a b h k = by_tests (over a) (over b) refl refl k
    where
      by_tests : (s t : Bool) → over a ≡ s → over b ≡ t → (over a ≡ true) ⊎ (over b ≡ false) → turn_of a b ≡ pos 0
      by_tests true true p r k = flat_turn above right q (whole a) (whole b) (p ∙ sym r)
      by_tests false false p r k = flat_turn above right q (whole a) (whole b) (p ∙ sym r)
      by_tests true false p r k = falling_turn above right q (whole a) (whole b) p r
          ∙ rw (not_beyond (side_by q (whole a) (whole b)) h) refl
      by_tests false true p r (inl k) = absurd (differ k p)
        where
          differ : {b : Bool} → b ≡ true → b ≡ false → ⊥
          differ p q = cc
      by_tests false true p r (inr k) = absurd (differ r k)
        where
          differ : {b : Bool} → b ≡ true → b ≡ false → ⊥
          differ p q = cc

  turn_at_least : (a b : Pt) → pos 0 <ℤ side_by q (whole a) (whole b) → pos 0 ≤ℤ turn_of a b
  turn_at_least a b h = by_tests (over a) (over b) refl refl
    where
      by_tests : (s t : Bool) → over a ≡ s → over b ≡ t → pos 0 ≤ℤ turn_of a b
      by_tests true t p r = let e = other_turn a b h (inl p) in omega (arith, ints, e)
      by_tests false false p r = let e = other_turn a b h (inr r) in omega (arith, ints, e)
      by_tests false true p r = let e = upward_turn a b h p r in omega (arith, ints, e)

  -- where it doesn't turn it doesn't pass upwards
  not_upward : (a b : Pt) → pos 0 <ℤ side_by q (whole a) (whole b) → turn_of a b ≤ℤ pos 0 → over a ≡ false
      → over b ≡ true → ⊥
  not_upward a b h z p r = let e = upward_turn a b h p r in omega (arith, ints, e, z)

  abbrev turns_of : Pt → List Pt → Pt → ℤ
  turns_of from ps last = wind_by above right q (segments (path from ps last))

  turns_at_least : (from : Pt) (ps : List Pt) (last : Pt) → AllLeft q from ps last → pos 0 ≤ℤ turns_of from ps last
  turns_at_least from [] last h = let a = turn_at_least from last h.0 in omega (arith, ints, a)
  turns_at_least from (p ∷ ps) last h = let a = turn_at_least from p h.0 in let r =
      turns_at_least p ps last h.1 in omega (arith, ints, a, r)

  -- a way that doesn't turn and ends above stays above
  stays_over : (from : Pt) (ps : List Pt) (last : Pt) → AllLeft q from ps last → turns_of from ps last ≤ℤ pos 0
      → over last ≡ true → (over from ≡ true) × AllByRecursion (λ p. over p ≡ true) ps
  stays_over from [] last h z e = (by_test (over from) refl, tt)
    where
      by_test : (t : Bool) → over from ≡ t → over from ≡ true
      by_test true p = p
      by_test false p = absurd (not_upward from last h.0 (omega (arith, ints, z)) p e)
  stays_over from (p ∷ ps) last h z e =
      let a = turn_at_least from p h.0 in
      let b = turns_at_least p ps last h.1 in
      let r = stays_over p ps last h.1 (omega (arith, ints, z, a)) e in
      (by_test (over from) refl (omega (arith, ints, z, b)) r.0, (r.0, r.1))
    where
      by_test : (t : Bool) → over from ≡ t → turn_of from p ≤ℤ pos 0 → over p ≡ true → over from ≡ true
      by_test true k z e = k
      by_test false k z e = absurd (not_upward from p h.0 z k e)

  -- and one that starts below stays below
  stays_under : (from : Pt) (ps : List Pt) (last : Pt) → AllLeft q from ps last → turns_of from ps last ≤ℤ pos 0
      → over from ≡ false → AllByRecursion (λ p. over p ≡ false) ps
  stays_under from [] last h z e = tt
  stays_under from (p ∷ ps) last h z e =
      let a = turn_at_least from p h.0 in
      let b = turns_at_least p ps last h.1 in
      let k = by_test (over p) refl (omega (arith, ints, z, b)) in
      (k, stays_under p ps last h.1 (omega (arith, ints, z, a)) k)
    where
      by_test : (t : Bool) → over p ≡ t → turn_of from p ≤ℤ pos 0 → over p ≡ false
      by_test false k z = k
      by_test true k z = absurd (not_upward from p h.0 z e k)

  all_up : (ps : List Pt) → AllByRecursion (λ p. over p ≡ true) ps → AllByRecursion (λ p. pos 0 ≤ℤ upward q p) ps
  all_up [] h = tt
  all_up (p ∷ ps) h = (over_up p h.0, all_up ps h.1)

  all_down : (ps : List Pt) → AllByRecursion (λ p. over p ≡ false) ps
      → AllByRecursion (λ p. pos 0 ≤ℤ (pos 0 -ℤ upward q p)) ps
  all_down [] h = tt
  all_down (p ∷ ps) h = (over_down p h.0, all_down ps h.1)

  way_turns : (p : Pt) (ps : List Pt) → AllLeft q p ps p → pos 0 <ℤ turns_of p ps p
  way_turns p ps h = by_order (order (turns_of p ps p) (pos 0)) (λ z. absurd (by_test (over p) refl z)) (λ z. z)
    where
      by_test : (t : Bool) → over p ≡ t → turns_of p ps p ≤ℤ pos 0 → ⊥
      by_test true e z =
          no_way q some (rightward q) (upward q) (λ a b k. left_cross q a b some k) p ps h (over_up p e)
          (all_up ps (stays_over p ps p h z e).1)
      by_test false e z =
          no_way q some (λ a. pos 0 -ℤ rightward q a) (λ a. pos 0 -ℤ upward q a)
          (λ a b k. subst (λ (z : ℤ). pos 0 <ℤ z)
          (sym (turned_cross (rightward q a) (upward q a) (rightward q b) (upward q b)))
          (left_cross q a b some k))
          p ps h (over_down p e) (all_down ps (stays_under p ps p h z e))

pub left_is_wound : LeftIsWound
left_is_wound p ps q some h above right = way_turns above right q some p ps
    (recursion_from_All (IsStrictlyLeftOf q) (segments (path p ps p)) h)
