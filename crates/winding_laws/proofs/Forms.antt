-- Round a point that is off a balanced list the four forms of the winding number are one.
use Rattle.std.proofs.Common.{◌≡◌, Bool, true, false, List, [], ◌∷◌, refl, sym, ap, ap₂, ◌∙◌, arith}
use lib.IntN.{ℤ, pos, ◌+ℤ◌, ◌-ℤ◌, ◌*ℤ◌}
use lib.Signed.{◌<ℤ◌, ◌≤ℤ◌}
use Rattle.std.specs.Prelude.{if◌then◌else◌, int_lt, int_le}
use Rattle.std.specs.List.{AllByRecursion}
use Rattle.std.proofs.lemmas.Int.{ints, by_lt_z}
use Rattle.std.proofs.lemmas.List.Elements.{recursion_from_All}
use Rattle.scad_base.proofs.Products.{positive_product}
use Rattle.scad_geom.specs.Point.{Point, is_same_point}
use Rattle.scad_geom.specs.Segment.{Segment}
use Rattle.scad_geom.specs.Winding.{counted, is_beyond, turn, wind_by, wind}
use Rattle.scad_geom.specs.Balance.{IsBalanced}
use Rattle.scad_geom.specs.Near.{mean}
use Rattle.scad_geom.proofs.Ring.{ring, num, ◌⊕◌, ◌⊖◌, ◌⊗◌, v0, v1, v2, v3}
use Rattle.scad_geom.proofs.Sums.{sum_z}
use Rattle.scad_geom.proofs.Turns.{beyond_mul}
use Rattle.winding_laws.specs.Region.{HalfPlane, HoldsOrigin}
use Rattle.winding_laws.specs.Nearness.{IsPoint, seen_from, IsFarSegment}
use Rattle.winding_laws.specs.OneWinding.{FormsWindAlike}
use Rattle.winding_laws.proofs.Views.{cross, swing, swing_turned, turn_seen, IsAlong}
use Rattle.winding_laws.proofs.Regions.{scaled, holds_scaled, holds_as}
use Rattle.winding_laws.proofs.Corners.{IsAway, away_turned}
use Rattle.winding_laws.proofs.Edges.{clear_seen, far_proper}
use Rattle.winding_laws.proofs.Sameness.{are_same, along_seen}
use Rattle.winding_laws.proofs.Totals.{starts, ends, balanced_totals, sums_apart, equal_by_gaps}
use Rattle.winding_laws.proofs.Triangles.{flat}
use Rattle.winding_laws.proofs.Weights.{some_weight}
use Rattle.scad_base.proofs.Integers.{at_most_of_less, zero_between}
use Rattle.std.proofs.Math.IntN.{zero-*ℤ}
use Rattle.scad_geom.proofs.Signs.{one-mul}
use Rattle.std.specs.Cmp.{both_ways}

-- ---- no mean of the ends lies at the origin
not_through : (region : List HalfPlane) → HoldsOrigin region → (a b : Point) → IsPoint a → IsPoint b
    → IsAway region a b → (s t : ℤ) → pos 0 ≤ℤ s → pos 0 ≤ℤ t → pos 0 <ℤ (s +ℤ t)
    → s *ℤ a.x +ℤ t *ℤ b.x ≡ pos 0 → s *ℤ a.y +ℤ t *ℤ b.y ≡ pos 0 → ⊥
not_through region o a b da db away s t hs ht more x y =
    let w : ℤ = s *ℤ a.d +ℤ t *ℤ b.d in
    away s t hs ht more
    (holds_as region (scaled (record { x = pos 0; y = pos 0; d = pos 1 }) w) (mean s t a b) (zero-*ℤ w ∙ sym x)
    (zero-*ℤ w ∙ sym y) (one-mul w)
    (holds_scaled region (record { x = pos 0; y = pos 0; d = pos 1 }) w
    (at_most_of_less (pos 0) w (some_weight s t a.d b.d hs ht more da db)) o))

-- ---- tests
-- hard by on the left and on the right a test differs at 0 alone
beyond_forms : (right : Bool) (z : ℤ) → (z ≡ pos 0 → ⊥) → is_beyond right z ≡ is_beyond true z
unfolding is_beyond
beyond_forms true z n = refl
beyond_forms false z n = by_lt_z (pos 0) z
    (λ h.
    let s : int_le (pos 0) z ≡ true = sym (omega (arith, ints)) in
    let t : int_lt (pos 0) z ≡ true = sym (omega (arith, ints)) in
    s ∙ sym t)
    (λ h. by_lt_z z (pos 0)
    (λ k.
    let s : int_le (pos 0) z ≡ false = sym (omega (arith, ints)) in
    let t : int_lt (pos 0) z ≡ false = sym (omega (arith, ints)) in
    s ∙ sym t)
    (λ k. absurd (n (zero_between z k h))))

pub beyond_above : (above : Bool) (z : ℤ) → pos 0 <ℤ z → is_beyond above z ≡ true
unfolding is_beyond
beyond_above true z h = sym (omega (arith, ints))
beyond_above false z h = sym (omega (arith, ints))

pub beyond_below : (above : Bool) (z : ℤ) → z <ℤ pos 0 → is_beyond above z ≡ false
unfolding is_beyond
beyond_below true z h = sym (omega (arith, ints))
beyond_below false z h = sym (omega (arith, ints))

at_zero_strict : (z : ℤ) → z ≡ pos 0 → is_beyond true z ≡ false
unfolding is_beyond
at_zero_strict z h = sym (omega (arith, ints))

at_zero_weak : (z : ℤ) → z ≡ pos 0 → is_beyond false z ≡ true
unfolding is_beyond
at_zero_weak z h = sym (omega (arith, ints))

least_of : (above : Bool) (z : ℤ) → is_beyond above z ≡ true → pos 0 ≤ℤ z
unfolding is_beyond
least_of true z h = let t : int_lt (pos 0) z ≡ true = h in omega (arith, ints)
least_of false z h = let t : int_le (pos 0) z ≡ true = h in omega (arith, ints)

most_of : (above : Bool) (z : ℤ) → is_beyond above z ≡ false → z ≤ℤ pos 0
unfolding is_beyond
most_of true z h = let t : int_lt (pos 0) z ≡ false = h in omega (arith, ints)
most_of false z h = let t : int_le (pos 0) z ≡ false = h in omega (arith, ints)

apart : (above : Bool) (y z : ℤ) → is_beyond above y ≡ false → is_beyond above z ≡ true
    → pos 0 <ℤ (z -ℤ y)
unfolding is_beyond
apart true y z h k =
    let s : int_lt (pos 0) y ≡ false = h in
    let t : int_lt (pos 0) z ≡ true = k in
    omega (arith, ints)
apart false y z h k =
    let s : int_le (pos 0) y ≡ false = h in
    let t : int_le (pos 0) z ≡ true = k in
    omega (arith, ints)

pub by_sign : {A : Type 0} (z : ℤ) → (z <ℤ pos 0 → A) → (z ≡ pos 0 → A) → (pos 0 <ℤ z → A) → A
by_sign z neg zero more = by_lt_z z (pos 0) neg (λ h. by_lt_z (pos 0) z more (λ k. zero (omega (arith, ints))))

module _ (region : List HalfPlane) (o : HoldsOrigin region) where
  -- ---- right and left: a segment off the origin that passes its height passes it on one side
  crossing : (above : Bool) (a b : Point) → IsPoint a → IsPoint b → IsAway region a b
      → is_beyond above a.y ≡ false → is_beyond above b.y ≡ true → cross a b ≡ pos 0 → ⊥
  unfolding cross
  crossing above a b da db away ha hb e =
      let low = most_of above a.y ha in
      let high = least_of above b.y hb in
      let more = apart above a.y b.y ha hb in
      not_through region o a b da db away b.y (pos 0 -ℤ a.y) high (omega (arith, ints)) (omega (arith, ints))
      (ring (a.x ∷ a.y ∷ b.x ∷ b.y ∷ []) (v3 ⊗ v0 ⊕ (num (pos 0) ⊖ v1) ⊗ v2) (v0 ⊗ v3 ⊖ v1 ⊗ v2)
      refl ∙ e)
      (ring (a.y ∷ b.y ∷ []) (v1 ⊗ v0 ⊕ (num (pos 0) ⊖ v0) ⊗ v1) (num (pos 0)) refl)

  rising : (above right : Bool) (a b : Point) → IsPoint a → IsPoint b → IsAway region a b
      → is_beyond above a.y ≡ false
      → is_beyond above b.y ≡ true → swing above right a b ≡ swing above true a b
  unfolding swing
  rising above right a b da db away ha hb =
      rw (ha, hb)
      (ap (λ (u : Bool). if u then pos 1 else pos 0)
      (ap (is_beyond right) (one-mul (cross a b))
      ∙ beyond_forms right (cross a b) (crossing above a b da db away ha hb)
      ∙ sym (ap (is_beyond true) (one-mul (cross a b)))))

  level : (above right : Bool) (a b : Point) (s : Bool) → is_beyond above a.y ≡ s → is_beyond above b.y ≡ s
      → swing above right a b ≡ pos 0
  unfolding swing
  level above right a b s ha hb = rw (ha, hb) (flat right s (cross a b))

  sideways : (above right : Bool) (a b : Point) → IsPoint a → IsPoint b → IsAway region a b
      → swing above right a b ≡ swing above true a b
  sideways above right a b da db away = by_tests (is_beyond above a.y) (is_beyond above b.y) refl refl
    where
      by_tests : (s t : Bool) → is_beyond above a.y ≡ s → is_beyond above b.y ≡ t
          → swing above right a b ≡ swing above
          true a b
      by_tests true true ha hb = level above right a b true ha hb ∙ sym (level above true a b true ha hb)
      by_tests false false ha hb = level above right a b false ha hb ∙ sym (level above true a b false ha hb)
      by_tests false true ha hb = rising above right a b da db away ha hb
      by_tests true false ha hb =
          swing_turned above right b a
          ∙ ap (λ (z : ℤ). pos 0 -ℤ z) (rising above right b a db da (away_turned region a b away) hb ha)
          ∙ sym (swing_turned above true b a)

  -- ---- above and below: an end at the point's height counts on one side of it
  -- 1 for a point at the height of the origin and to its right
  abbrev ahead : Point → ℤ
  ahead p = if is_beyond true p.y then pos 0 else if is_beyond false p.y then counted (is_beyond true p.x) else pos 0

  ahead_over : (p : Point) → pos 0 <ℤ p.y → ahead p ≡ pos 0
  ahead_over p h = ap (λ (t : Bool). if t then pos 0 else if is_beyond false p.y then counted (is_beyond true p.x) else
      pos 0) (beyond_above true p.y h)

  ahead_under : (p : Point) → p.y <ℤ pos 0 → ahead p ≡ pos 0
  ahead_under p h = ap₂ (λ (s t : Bool). if s then pos 0 else if t then counted (is_beyond true p.x) else pos 0)
      (beyond_below true p.y h) (beyond_below false p.y h)

  ahead_level : (p : Point) → p.y ≡ pos 0 → ahead p ≡ counted (is_beyond true p.x)
  ahead_level p h = ap₂ (λ (s t : Bool). if s then pos 0 else if t then counted (is_beyond true p.x) else pos 0)
      (at_zero_strict p.y h) (at_zero_weak p.y h)

  rise_value : (above : Bool) (a b : Point) → is_beyond above a.y ≡ false → is_beyond above b.y ≡ true
      → swing above true a b ≡ counted (is_beyond true (cross a b))
  unfolding swing
  rise_value above a b ha hb = rw (ha, hb) (ap (λ (z : ℤ). counted (is_beyond true z)) (one-mul (cross a b)))

  abbrev Steps : Point → Point → Type 0
  Steps a b = swing true true a b -ℤ swing false true a b ≡ ahead a -ℤ ahead b

  from_parts : (t f x y u v w z : ℤ) → t ≡ u → f ≡ v → x ≡ w → y ≡ z → u -ℤ v ≡ w -ℤ z
      → t -ℤ f ≡ x -ℤ y
  from_parts t f x y u v w z ht hf hx hy h = omega (arith, ints)

  itself : (z : ℤ) → z -ℤ z ≡ pos 0 -ℤ pos 0
  itself z = omega (arith, ints)

  -- the cross product with an end at the origin's height
  start_level : (a b : Point) → a.y ≡ pos 0 → pos 0 <ℤ b.y → is_beyond true (cross a b) ≡ is_beyond true a.x
  unfolding cross
  start_level a b h g =
      ap (is_beyond true) (ap (λ (y : ℤ). a.x *ℤ b.y -ℤ y *ℤ b.x) h ∙ ring (a.x ∷ b.x ∷ b.y ∷ [])
      (v0 ⊗ v2 ⊖ num (pos 0) ⊗ v1) (v0 ⊗ v2) refl)
      ∙ beyond_mul true b.y a.x g

  end_level : (a b : Point) → a.y <ℤ pos 0 → b.y ≡ pos 0 → is_beyond true (cross a b) ≡ is_beyond true b.x
  unfolding cross
  end_level a b g h =
      ap (is_beyond true) (ap (λ (y : ℤ). a.x *ℤ y -ℤ a.y *ℤ b.x) h ∙ ring (a.x ∷ a.y ∷ b.x ∷ [])
      (v0 ⊗ num (pos 0) ⊖ v1 ⊗ v2) (v2 ⊗ (num (pos 0) ⊖ v1)) refl)
      ∙ beyond_mul true (pos 0 -ℤ a.y) b.x (omega (arith, ints))

  module _ (a b : Point) (da : IsPoint a) (db : IsPoint b) (away : IsAway region a b) where
    from_below : a.y <ℤ pos 0 → Steps a b
    from_below h =
        by_sign b.y
        (λ g. from_parts _ _ _ _ (pos 0) (pos 0) (pos 0) (pos 0) (level true true a b false (beyond_below true a.y h)
        (beyond_below true b.y g)) (level false true a b false (beyond_below false a.y h)
        (beyond_below false b.y g)) (ahead_under a h) (ahead_under b g) refl)
        (λ g. from_parts _ _ _ _ (pos 0) (counted (is_beyond true b.x)) (pos 0) (counted (is_beyond true b.x))
        (level true true a b false (beyond_below true a.y h) (at_zero_strict b.y g))
        (rise_value false a b (beyond_below false a.y h) (at_zero_weak b.y g) ∙ ap counted (end_level a b h g))
        (ahead_under a h) (ahead_level b g) refl)
        (λ g. from_parts _ _ _ _ (counted (is_beyond true (cross a b))) (counted (is_beyond true (cross a b))) (pos 0)
        (pos 0)
        (rise_value true a b (beyond_below true a.y h) (beyond_above true b.y g))
        (rise_value false a b (beyond_below false a.y h) (beyond_above false b.y g)) (ahead_under a h)
        (ahead_over b g) (itself (counted (is_beyond true (cross a b)))))

    from_level : a.y ≡ pos 0 → pos 0 <ℤ b.y → Steps a b
    from_level h g =
        from_parts _ _ _ _ (counted (is_beyond true a.x)) (pos 0) (counted (is_beyond true a.x)) (pos 0)
        (rise_value true a b (at_zero_strict a.y h) (beyond_above true b.y g) ∙ ap counted (start_level a b h g))
        (level false true a b true (at_zero_weak a.y h) (beyond_above false b.y g)) (ahead_level a h) (ahead_over b g)
        refl

    over : pos 0 <ℤ a.y → pos 0 <ℤ b.y → Steps a b
    over h g =
        from_parts _ _ _ _ (pos 0) (pos 0) (pos 0) (pos 0) (level true true a b true (beyond_above true a.y h)
        (beyond_above true b.y g)) (level false true a b true (beyond_above false a.y h) (beyond_above false b.y g))
        (ahead_over a h) (ahead_over b g) refl

    -- both ends at the height, on one side
    one_side : a.y ≡ pos 0 → b.y ≡ pos 0 → is_beyond true a.x ≡ true → is_beyond true b.x ≡ true
    unfolding is_beyond
    one_side ha hb h =
        by_lt_z (pos 0) b.x (λ k. sym (omega (arith, ints)))
        (λ k.
        let more : int_lt (pos 0) a.x ≡ true = h in
        absurd (not_through region o a b da db away (pos 0 -ℤ b.x) a.x (omega (arith, ints)) (omega (arith, ints))
        (omega (arith, ints))
        (ring (a.x ∷ b.x ∷ []) ((num (pos 0) ⊖ v1) ⊗ v0 ⊕ v0 ⊗ v1) (num (pos 0)) refl)
        (ap₂ (λ (y z : ℤ). (pos 0 -ℤ b.x) *ℤ y +ℤ a.x *ℤ z) ha hb ∙ ring (a.x ∷ b.x ∷ [])
        ((num (pos 0) ⊖ v1) ⊗ num (pos 0) ⊕ v0 ⊗ num (pos 0)) (num (pos 0)) refl)))

  both_level : (a b : Point) → IsPoint a → IsPoint b → IsAway region a b → a.y ≡ pos 0 → b.y ≡ pos 0
      → Steps a b
  both_level a b da db away ha hb =
      let same : is_beyond true a.x ≡ is_beyond true b.x =
      both_ways (is_beyond true a.x) (is_beyond true b.x) (one_side a b da db away ha hb)
      (one_side b a db da (away_turned region a b away) hb ha) in
      from_parts _ _ _ _ (pos 0) (pos 0) (counted (is_beyond true b.x)) (counted (is_beyond true b.x))
      (level true true a b false (at_zero_strict a.y ha) (at_zero_strict b.y hb))
      (level false true a b true (at_zero_weak a.y ha) (at_zero_weak b.y hb))
      (ahead_level a ha ∙ ap counted same) (ahead_level b hb) (sym (itself (counted (is_beyond true b.x))))

  steps_turned : (a b : Point) → Steps b a → Steps a b
  steps_turned a b h =
      turned_steps (swing true true a b) (swing false true a b) (swing true true b a) (swing false true b a) (ahead a)
      (ahead b) (swing_turned true true b a) (swing_turned false true b a) h
    where
      turned_steps : (t f u v x y : ℤ) → t ≡ pos 0 -ℤ u → f ≡ pos 0 -ℤ v → u -ℤ v ≡ y -ℤ x
          → t -ℤ f ≡ x -ℤ y
      turned_steps t f u v x y h k e = omega (arith, ints)

  steps : (a b : Point) → IsPoint a → IsPoint b → IsAway region a b → Steps a b
  steps a b da db away =
      let back = away_turned region a b away in
      by_sign a.y (from_below a b da db away)
      (λ h. by_sign b.y (λ g. steps_turned a b (from_below b a db da back g)) (λ g. both_level a b da db away h g)
      (λ g. from_level a b da db away h g))
      (λ h. by_sign b.y (λ g. steps_turned a b (from_below b a db da back g))
      (λ g. steps_turned a b (from_level b a db da back g h)) (λ g. over a b da db away h g))

  -- ---- of a list
  module _ (q : Point) (dq : IsPoint q) where
    abbrev ahead_of : Point → ℤ
    ahead_of p = ahead (seen_from q p)

    beyond_along : (above : Bool) (x y k l : ℤ) → pos 0 <ℤ k → pos 0 <ℤ l → x *ℤ k ≡ y *ℤ l
        → is_beyond above x ≡ is_beyond above y
    beyond_along above x y k l hk hl e = sym (beyond_mul above k x hk) ∙ ap (is_beyond above) e
        ∙ beyond_mul above l y
        hl

    ahead_same : (p r : Point) → IsPoint p → IsPoint r → is_same_point p r ≡ true → ahead_of p ≡ ahead_of r
    ahead_same p r dp dr h =
        let al : IsAlong (seen_from q p) (seen_from q r) = along_seen q p r dp dr (are_same p r h) in
        let sp : Point = seen_from q p in
        let sr : Point = seen_from q r in
        ap₂ (λ (s t : Bool). if s then pos 0 else if t then counted (is_beyond true sp.x) else pos 0)
        (beyond_along true sp.y sr.y al.k al.l al.k_positive al.l_positive al.y) (beyond_along false sp.y sr.y al.k al.l
        al.k_positive al.l_positive al.y)
        ∙ ap (λ (u : Bool). if is_beyond true sr.y then pos 0 else if is_beyond false sr.y then counted u else pos 0)
        (beyond_along true sp.x sr.x al.k al.l al.k_positive al.l_positive al.x)

    edge_sideways : (above right : Bool) (s : Segment) → IsFarSegment region q s → turn above right q s.from s.to
        ≡ turn above true q s.from s.to
    edge_sideways above right s h =
        turn_seen above right q s.from s.to dq h.proper.from
        ∙ sideways above right (seen_from q s.from) (seen_from q s.to)
        (positive_product s.from.d q.d h.proper.from dq)
        (positive_product s.to.d q.d h.proper.to dq) (clear_seen region q s.from s.to h.far)
        ∙ sym (turn_seen above true q s.from s.to dq h.proper.from)

    list_sideways : (above right : Bool) (ss : List Segment) → AllByRecursion (IsFarSegment region q) ss
        → wind_by above right q ss ≡ wind_by above true q ss
    list_sideways above right [] h = refl
    list_sideways above right (s ∷ ss) h = ap₂ (λ (y z : ℤ). y +ℤ z) (edge_sideways above right s h.0)
        (list_sideways above right ss h.1)

    edge_steps : (s : Segment) → IsFarSegment region q s
        → turn true true q s.from s.to -ℤ turn false true q s.from s.to ≡ ahead_of s.from -ℤ ahead_of s.to
    edge_steps s h =
        ap₂ (λ (y z : ℤ). y -ℤ z) (turn_seen true true q s.from s.to dq h.proper.from)
        (turn_seen false true q s.from s.to dq h.proper.from)
        ∙ steps (seen_from q s.from) (seen_from q s.to) (positive_product s.from.d q.d h.proper.from dq)
        (positive_product s.to.d q.d h.proper.to dq) (clear_seen region q s.from s.to h.far)

    list_steps : (ss : List Segment) → AllByRecursion (IsFarSegment region q) ss
        → wind_by true true q ss -ℤ wind_by
        false true q ss ≡ sum_z ahead_of (starts ss) -ℤ sum_z ahead_of (ends ss)
    list_steps [] h = refl
    list_steps (s ∷ ss) h =
        sums_apart (turn true true q s.from s.to) (turn false true q s.from s.to) (ahead_of s.from) (ahead_of s.to)
        (wind_by true true q ss) (wind_by false true q ss) (sum_z ahead_of (starts ss)) (sum_z ahead_of (ends ss))
        (edge_steps s h.0) (list_steps ss h.1)

    alike : (above right : Bool) (ss : List Segment) → IsBalanced ss → AllByRecursion (IsFarSegment region q) ss
        → wind_by above right q ss ≡ wind q ss
    alike true right ss b h = list_sideways true right ss h
    alike false right ss b h =
        list_sideways false right ss h
        ∙ sym (equal_by_gaps (wind_by true true q ss) (wind_by false true q ss) (sum_z ahead_of (starts ss))
        (sum_z ahead_of (ends ss)) (list_steps ss h) (balanced_totals ahead_of ahead_same ss
        (far_proper region q ss h) b))

pub forms_wind_alike : FormsWindAlike
forms_wind_alike region o above right q d ss b h = alike region o q d above right ss b
    (recursion_from_All (IsFarSegment region q) ss h)
