-- Balanced segments with a point on the left of each wind round it; those that lie on one side of a line through it
-- don't.
use Rattle.std.proofs.Common.{◌≡◌, Bool, true, false, not, ◌&&◌, List, [], ◌∷◌, refl, sym, ap, ap₂, ◌∙◌, arith, subst}
use lib.IntN.{ℤ, pos, ◌+ℤ◌, ◌-ℤ◌, ◌*ℤ◌}
use lib.Signed.{◌<ℤ◌, ◌≤ℤ◌}
use Rattle.std.specs.Prelude.{int_lt, ◌||◌}
use Rattle.std.specs.List.{AllByRecursion}
use Rattle.std.proofs.lemmas.Int.{ints, by_lt_z}
use Rattle.scad_base.proofs.Products.{positive_product, negative_product}
use Rattle.scad_geom.specs.Point.{Point, is_same_point}
use Rattle.scad_geom.specs.Segment.{Segment}
use Rattle.scad_geom.specs.Winding.{is_beyond, counted, wind}
use Rattle.scad_geom.specs.Balance.{IsBalanced}
use Rattle.scad_geom.proofs.Sums.{sum_z}
use Rattle.scad_geom.proofs.Turns.{beyond_mul}
use Rattle.scad_geom.proofs.Ring.{Term, ring, num, ◌⊕◌, ◌⊖◌, ◌⊗◌, v0, v1, v2, v3, v4, v5, v6, v7}
use Rattle.scad_geom.proofs.Signs.{at_least_mul, at_most_mul, pos_left}
use Rattle.winding_laws.specs.Nearness.{IsPoint, IsProper, seen_from}
use Rattle.winding_laws.proofs.Views.{cross, swing_by, swing, swing_turned, swing_along, turn_seen, IsAlong}
use Rattle.winding_laws.proofs.Sameness.{along_seen, are_same}
use Rattle.winding_laws.proofs.Totals.{starts, ends, balanced_totals}
use Rattle.winding_laws.proofs.Triangles.{IsRound, triangle}
use Rattle.scad_hull.proofs.Steps.{step_on, step_up}

-- ---- what one segment adds, by tests: a and b of its ends' heights, l and m of their sides of a ray
weak : (z : ℤ) → pos 0 <ℤ z → pos 0 ≤ℤ z
weak z h = omega (arith, ints)

no_false : false ≡ true → ⊥
no_false e = cc

upper_step : (a b l m : Bool) (z : ℤ) → pos 0 <ℤ z → (a ≡ true → b ≡ true → l ≡ true → m ≡ true)
    → (counted (b && not m) -ℤ counted (a && not l)) ≤ℤ swing_by true a b z
upper_step false true l true z h k = let e = step_up z h in omega (arith, ints)
upper_step false true l false z h k = let e = step_up z h in omega (arith, ints)
upper_step true true true true z h k = let e = step_on true true z (weak z h) in omega (arith, ints)
upper_step true true true false z h k = absurd (no_false (k refl refl refl))
upper_step true true false true z h k = let e = step_on true true z (weak z h) in omega (arith, ints)
upper_step true true false false z h k = let e = step_on true true z (weak z h) in omega (arith, ints)
upper_step false false l m z h k = let e = step_on false false z (weak z h) in omega (arith, ints)
upper_step true false true m z h k = let e = step_on true false z (weak z h) in omega (arith, ints)
upper_step true false false m z h k = let e = step_on true false z (weak z h) in omega (arith, ints)

lower_step : (a b l m : Bool) (z : ℤ) → pos 0 <ℤ z → (a ≡ false → b ≡ false → l ≡ true → m ≡ true)
    → (counted (b || not m) -ℤ counted (a || not l)) ≤ℤ swing_by true a b z
lower_step false true true m z h k = let e = step_up z h in omega (arith, ints)
lower_step false true false m z h k = let e = step_up z h in omega (arith, ints)
lower_step true true l m z h k = let e = step_on true true z (weak z h) in omega (arith, ints)
lower_step true false l true z h k = let e = step_on true false z (weak z h) in omega (arith, ints)
lower_step true false l false z h k = let e = step_on true false z (weak z h) in omega (arith, ints)
lower_step false false true true z h k = let e = step_on false false z (weak z h) in omega (arith, ints)
lower_step false false true false z h k = absurd (no_false (k refl refl refl))
lower_step false false false true z h k = let e = step_on false false z (weak z h) in omega (arith, ints)
lower_step false false false false z h k = let e = step_on false false z (weak z h) in omega (arith, ints)

upper_first : (a b : Bool) (z : ℤ) → pos 0 <ℤ z → (a ≡ false → b ≡ true)
    → (pos 1 +ℤ (counted (b && not true) -ℤ counted (a && not false))) ≤ℤ swing_by true a b z
upper_first true true z h k = let e = step_on true true z (weak z h) in omega (arith, ints)
upper_first true false z h k = let e = step_on true false z (weak z h) in omega (arith, ints)
upper_first false true z h k = let e = step_up z h in omega (arith, ints)
upper_first false false z h k = absurd (no_false (k refl))

lower_first : (a b : Bool) (z : ℤ) → pos 0 <ℤ z → (b ≡ true → a ≡ false)
    → (pos 1 +ℤ (counted (b || not true) -ℤ counted (a || not false))) ≤ℤ swing_by true a b z
lower_first true true z h k = absurd (no_false (sym (k refl)))
lower_first true false z h k = let e = step_on true false z (weak z h) in omega (arith, ints)
lower_first false true z h k = let e = step_up z h in omega (arith, ints)
lower_first false false z h k = let e = step_on false false z (weak z h) in omega (arith, ints)

-- ---- turning on
between : (d a b : Point) → a.y *ℤ cross d b ≡ d.y *ℤ cross a b +ℤ b.y *ℤ cross d a
unfolding cross
between d a b =
    ring (d.x ∷ d.y ∷ a.x ∷ a.y ∷ b.x ∷ b.y ∷ []) (v3 ⊗ (v0 ⊗ v5 ⊖ v1 ⊗ v4))
    (v1 ⊗ (v2 ⊗ v5 ⊖ v3 ⊗ v4) ⊕ v5 ⊗ (v0 ⊗ v3 ⊖ v1 ⊗ v2)) refl

flip : (a b : ℤ) → a *ℤ b ≡ b *ℤ a
flip a b = ring (a ∷ b ∷ []) (v0 ⊗ v1) (v1 ⊗ v0) refl

sum_above : (s t u : ℤ) → s ≡ t +ℤ u → pos 0 <ℤ t → pos 0 ≤ℤ u → pos 0 <ℤ s
sum_above s t u e h k = omega (arith, ints)

sum_below : (s t u : ℤ) → s ≡ t +ℤ u → t <ℤ pos 0 → u ≤ℤ pos 0 → s <ℤ pos 0
sum_below s t u e h k = omega (arith, ints)

on_above : (d a b : Point) → pos 0 <ℤ d.y → pos 0 <ℤ a.y → pos 0 <ℤ b.y → pos 0 <ℤ cross a b
    → pos 0 <ℤ cross d a → pos 0 <ℤ cross d b
on_above d a b hd ha hb h k =
    pos_left (cross d b) a.y ha (subst (λ (z : ℤ). pos 0 <ℤ z) (flip a.y (cross d b))
    (sum_above (a.y *ℤ cross d b) (d.y *ℤ cross a b) (b.y *ℤ cross d a) (between d a b)
    (positive_product d.y (cross a b) hd h) (weak (b.y *ℤ cross d a) (positive_product b.y (cross d a) hb k))))

both_low : (y z : ℤ) → y ≤ℤ pos 0 → z ≤ℤ pos 0 → pos 0 ≤ℤ (y *ℤ z)
both_low y z h k = subst (λ (w : ℤ). pos 0 ≤ℤ w)
    (ring (y ∷ z ∷ []) ((num (pos 0) ⊖ v0) ⊗ (num (pos 0) ⊖ v1)) (v0 ⊗ v1) refl)
    (at_least_mul (pos 0 -ℤ y) (pos 0 -ℤ z) (omega (arith, ints)) (omega (arith, ints)))

on_below : (d a b : Point) → d.y <ℤ pos 0 → a.y ≤ℤ pos 0 → b.y ≤ℤ pos 0 → pos 0 <ℤ cross a b
    → pos 0 <ℤ cross d a → pos 0 <ℤ cross d b
on_below d a b hd ha hb h k = by_lt_z (pos 0) (cross d b) (λ g. g)
    (λ g.
    let s = sum_below (a.y *ℤ cross d b) (d.y *ℤ cross a b) (b.y *ℤ cross d a) (between d a b)
    (negative_product d.y (cross a b) h hd) (at_most_mul b.y (cross d a) hb (weak (cross d a) k)) in
    let t = both_low a.y (cross d b) ha g in
    absurd (omega (arith, ints)))

told : (z : ℤ) → is_beyond true z ≡ true → pos 0 <ℤ z
unfolding is_beyond
told z h = let f : int_lt (pos 0) z ≡ true = h in omega (arith, ints)

told_not : (z : ℤ) → is_beyond true z ≡ false → z ≤ℤ pos 0
unfolding is_beyond
told_not z h = let f : int_lt (pos 0) z ≡ false = h in omega (arith, ints)

yes : (z : ℤ) → pos 0 <ℤ z → is_beyond true z ≡ true
unfolding is_beyond
yes z h = let f : int_lt (pos 0) z ≡ true = sym (omega (arith, ints)) in f

no : (z : ℤ) → z ≤ℤ pos 0 → is_beyond true z ≡ false
unfolding is_beyond
no z h = let f : int_lt (pos 0) z ≡ false = sym (omega (arith, ints)) in f

add_up : (s t u v w x : ℤ) → (s -ℤ t) ≤ℤ u → (v -ℤ w) ≤ℤ x
    → ((s +ℤ v) -ℤ (t +ℤ w)) ≤ℤ (u +ℤ x)
add_up s t u v w x h k = omega (arith, ints)

module _ (q : Point) (dq : IsPoint q) where
  abbrev over : Point → Bool
  over p = is_beyond true (seen_from q p).y

  -- the point lies to the left of a segment
  pub record HasLeft (s : Segment) : Type 0 where
    pub proper : IsProper s
    pub left : pos 0 <ℤ cross (seen_from q s.from) (seen_from q s.to)

  proper_all : (ss : List Segment) → AllByRecursion HasLeft ss → AllByRecursion IsProper ss
  proper_all [] h = tt
  proper_all (s ∷ ss) h = (h.0.proper, proper_all ss h.1)

  -- ---- sums of a number that no segment raises by more than it turns
  module _ (g : Point → ℤ) (same : (p r : Point) → IsPoint p → IsPoint r → is_same_point p r ≡ true → g p ≡ g r)
      (step : (s : Segment) → HasLeft s → (g s.to -ℤ g s.from) ≤ℤ swing true true (seen_from q s.from)
      (seen_from q s.to)) where
    turned_by : (s : Segment) → HasLeft s → (g s.to -ℤ g s.from) ≤ℤ wind q (s ∷ [])
    turned_by s h =
        let e = turn_seen true true q s.from s.to dq h.proper.from in
        let f = step s h in
        omega (arith, ints)

    sums : (ss : List Segment) → AllByRecursion HasLeft ss
        → (sum_z g (ends ss) -ℤ sum_z g (starts ss)) ≤ℤ wind q ss
    sums [] h = omega (arith, ints)
    sums (s ∷ ss) h =
        let e = turn_seen true true q s.from s.to dq h.0.proper.from in
        let f = step s h.0 in
        let r = sums ss h.1 in
        omega (arith, ints)

    once_round : (s : Segment) (ss : List Segment) → AllByRecursion HasLeft (s ∷ ss) → IsBalanced (s ∷ ss)
        → (pos 1 +ℤ (g s.to -ℤ g s.from)) ≤ℤ swing true true (seen_from q s.from) (seen_from q s.to)
        → pos 1 ≤ℤ wind q (s ∷ ss)
    once_round s ss h balanced first =
        let e = turn_seen true true q s.from s.to dq h.0.proper.from in
        let r = sums ss h.1 in
        let t : g s.from +ℤ sum_z g (starts ss) ≡ g s.to +ℤ sum_z g (ends ss) = balanced_totals g same (s ∷ ss)
        (proper_all (s ∷ ss) h) balanced in
        omega (arith, ints)

  -- ---- by a ray
  beyond_same : (y z k l : ℤ) → pos 0 <ℤ k → pos 0 <ℤ l → y *ℤ k ≡ z *ℤ l
      → is_beyond true y ≡ is_beyond true z
  beyond_same y z k l hk hl e = sym (beyond_mul true k y hk) ∙ ap (is_beyond true) e ∙ beyond_mul true l z hl

  module _ (d : Point) where
    abbrev ahead : Point → Bool
    ahead p = is_beyond true (cross d (seen_from q p))

    cross_same : (a b : Point) (h : IsAlong a b) → cross d a *ℤ h.k ≡ cross d b *ℤ h.l
    unfolding cross
    cross_same a b h =
        ring (d.x ∷ d.y ∷ a.x ∷ a.y ∷ h.k ∷ []) ((v0 ⊗ v3 ⊖ v1 ⊗ v2) ⊗ v4)
        (v0 ⊗ (v3 ⊗ v4) ⊖ v1 ⊗ (v2 ⊗ v4)) refl
        ∙ ap₂ (λ (y x : ℤ). d.x *ℤ y -ℤ d.y *ℤ x) h.y h.x
        ∙ ring (d.x ∷ d.y ∷ b.x ∷ b.y ∷ h.l ∷ []) (v0 ⊗ (v3 ⊗ v4) ⊖ v1 ⊗ (v2 ⊗ v4))
        ((v0 ⊗ v3 ⊖ v1 ⊗ v2) ⊗ v4) refl

    over_same : (p r : Point) → IsPoint p → IsPoint r → is_same_point p r ≡ true → over p ≡ over r
    over_same p r dp dr e =
        let h = along_seen q p r dp dr (are_same p r e) in
        beyond_same (seen_from q p).y (seen_from q r).y h.k h.l h.k_positive h.l_positive h.y

    ahead_same : (p r : Point) → IsPoint p → IsPoint r → is_same_point p r ≡ true → ahead p ≡ ahead r
    ahead_same p r dp dr e =
        let h = along_seen q p r dp dr (are_same p r e) in
        beyond_same (cross d (seen_from q p)) (cross d (seen_from q r)) h.k h.l h.k_positive h.l_positive
        (cross_same (seen_from q p) (seen_from q r) h)

    abbrev upper : Point → ℤ
    upper p = counted (over p && not (ahead p))

    abbrev lower : Point → ℤ
    lower p = counted (over p || not (ahead p))

    upper_round : pos 0 <ℤ d.y → (s : Segment) (ss : List Segment) → AllByRecursion HasLeft (s ∷ ss)
        → IsBalanced (s ∷ ss)
        → ahead s.from ≡ false → ahead s.to ≡ true → (over s.from ≡ false → over s.to ≡ true)
        → pos 1 ≤ℤ wind q (s ∷ ss)
    unfolding swing
    upper_round hd s ss h balanced behind before o =
        once_round upper (λ p r dp dr e. ap₂ (λ a b. counted (a && not b)) (over_same p r dp dr e)
        (ahead_same p r dp dr e)) step s ss h balanced first
      where
        step : (t : Segment) → HasLeft t → (upper t.to -ℤ upper t.from) ≤ℤ swing true true
            (seen_from q t.from)
            (seen_from q t.to)
        step t k = upper_step (over t.from) (over t.to) (ahead t.from) (ahead t.to)
            (cross (seen_from q t.from) (seen_from q t.to)) k.left
            (λ a b l. yes (cross d (seen_from q t.to))
            (on_above d (seen_from q t.from) (seen_from q t.to) hd (told (seen_from q t.from).y a)
            (told (seen_from q t.to).y b) k.left (told (cross d (seen_from q t.from)) l)))

        first : (pos 1 +ℤ (upper s.to -ℤ upper s.from)) ≤ℤ swing true true (seen_from q s.from)
            (seen_from q s.to)
        first = subst (λ b. (pos 1 +ℤ (counted (over s.to && not b) -ℤ upper s.from)) ≤ℤ swing_by true
            (over s.from)
            (over s.to) (cross (seen_from q s.from) (seen_from q s.to))) (sym before)
            (subst (λ b. (pos 1 +ℤ (counted (over s.to && not true) -ℤ counted (over s.from && not b))) ≤ℤ
            swing_by
            true (over s.from) (over s.to) (cross (seen_from q s.from) (seen_from q s.to))) (sym behind)
            (upper_first (over s.from) (over s.to) (cross (seen_from q s.from) (seen_from q s.to)) h.0.left o))

    lower_round : d.y <ℤ pos 0 → (s : Segment) (ss : List Segment) → AllByRecursion HasLeft (s ∷ ss)
        → IsBalanced (s ∷ ss)
        → ahead s.from ≡ false → ahead s.to ≡ true → (over s.to ≡ true → over s.from ≡ false)
        → pos 1 ≤ℤ wind q (s ∷ ss)
    unfolding swing
    lower_round hd s ss h balanced behind before o =
        once_round lower (λ p r dp dr e. ap₂ (λ a b. counted (a || not b)) (over_same p r dp dr e)
        (ahead_same p r dp dr e)) step s ss h balanced first
      where
        step : (t : Segment) → HasLeft t → (lower t.to -ℤ lower t.from) ≤ℤ swing true true
            (seen_from q t.from)
            (seen_from q t.to)
        step t k = lower_step (over t.from) (over t.to) (ahead t.from) (ahead t.to)
            (cross (seen_from q t.from) (seen_from q t.to)) k.left
            (λ a b l. yes (cross d (seen_from q t.to))
            (on_below d (seen_from q t.from) (seen_from q t.to) hd (told_not (seen_from q t.from).y a)
            (told_not (seen_from q t.to).y b) k.left (told (cross d (seen_from q t.from)) l)))

        first : (pos 1 +ℤ (lower s.to -ℤ lower s.from)) ≤ℤ swing true true (seen_from q s.from)
            (seen_from q s.to)
        first = subst (λ b. (pos 1 +ℤ (counted (over s.to || not b) -ℤ lower s.from)) ≤ℤ swing_by true
            (over s.from)
            (over s.to) (cross (seen_from q s.from) (seen_from q s.to))) (sym before)
            (subst (λ b. (pos 1 +ℤ (counted (over s.to || not true) -ℤ counted (over s.from || not b))) ≤ℤ
            swing_by
            true (over s.from) (over s.to) (cross (seen_from q s.from) (seen_from q s.to))) (sym behind)
            (lower_first (over s.from) (over s.to) (cross (seen_from q s.from) (seen_from q s.to)) h.0.left o))

  -- ---- the first segment gives the ray
  cross_itself : (a : Point) → cross a a ≤ℤ pos 0
  unfolding cross
  cross_itself a = let e = flip a.x a.y in omega (arith, ints)

  mid : Point → Point → Point
  mid a b = record { x = a.x +ℤ b.x; y = a.y +ℤ b.y; d = pos 1 }

  mid_first : (a b : Point) → cross (mid a b) a ≡ pos 0 -ℤ cross a b
  unfolding cross mid
  mid_first a b = ring (a.x ∷ a.y ∷ b.x ∷ b.y ∷ []) ((v0 ⊕ v2) ⊗ v1 ⊖ (v1 ⊕ v3) ⊗ v0)
      (num (pos 0) ⊖ (v0 ⊗ v3 ⊖ v1 ⊗ v2)) refl

  mid_second : (a b : Point) → cross (mid a b) b ≡ cross a b
  unfolding cross mid
  mid_second a b = ring (a.x ∷ a.y ∷ b.x ∷ b.y ∷ []) ((v0 ⊕ v2) ⊗ v3 ⊖ (v1 ⊕ v3) ⊗ v2)
      (v0 ⊗ v3 ⊖ v1 ⊗ v2) refl

  mid_low : (a b : Point) → a.y ≤ℤ pos 0 → b.y <ℤ pos 0 → (mid a b).y <ℤ pos 0
  unfolding mid
  mid_low a b h k = omega (arith, ints)

  level : (a b : Point) → a.y ≡ pos 0 → b.y ≡ pos 0 → cross a b ≡ pos 0
  unfolding cross
  level a b ha hb = ap₂ (λ (u v : ℤ). a.x *ℤ u -ℤ v *ℤ b.x) hb ha
      ∙ ring (a.x ∷ b.x ∷ []) (v0 ⊗ num (pos 0) ⊖ num (pos 0) ⊗ v1) (num (pos 0)) refl

  at_zero : (z : ℤ) → z ≤ℤ pos 0 → pos 0 ≤ℤ z → z ≡ pos 0
  at_zero z h k = omega (arith, ints)

  clash : (z : ℤ) → pos 0 <ℤ z → z ≡ pos 0 → ⊥
  clash z h e = omega (arith, ints)

  below : (y z : ℤ) → y ≡ pos 0 -ℤ z → pos 0 <ℤ z → y ≤ℤ pos 0
  below y z e h = omega (arith, ints)

  at_most : (z : ℤ) → z <ℤ pos 0 → z ≤ℤ pos 0
  at_most z h = omega (arith, ints)

  never : (z : ℤ) → z ≤ℤ pos 0 → is_beyond true z ≡ true → ⊥
  never z h e = let t = told z e in omega (arith, ints)

  none_up : (z : ℤ) → pos 0 <ℤ z → is_beyond true z ≡ false → ⊥
  none_up z h e = let t = told_not z e in omega (arith, ints)

  -- nothing turns back
  only_on : (ss : List Segment) → AllByRecursion HasLeft ss → pos 0 ≤ℤ wind q ss
  unfolding swing
  only_on ss h =
      let s = sums (λ p. pos 0) (λ p r dp dr e. refl) (λ s k. on s k) ss h in
      let a = nought (ends ss) in
      let b = nought (starts ss) in
      omega (arith, ints)
    where
      on : (s : Segment) → HasLeft s → (pos 0 -ℤ pos 0) ≤ℤ swing true true (seen_from q s.from)
          (seen_from q s.to)
      on s k = step_on (over s.from) (over s.to) (cross (seen_from q s.from) (seen_from q s.to))
          (weak (cross (seen_from q s.from) (seen_from q s.to)) k.left)

      nought : (ps : List Point) → sum_z (λ p. pos 0) ps ≡ pos 0
      nought [] = refl
      nought (p ∷ ps) = let r = nought ps in omega (arith, ints)

  passes : (s : Segment) (ss : List Segment) → AllByRecursion HasLeft (s ∷ ss)
      → (seen_from q s.from).y ≤ℤ pos 0 → pos 0 <ℤ (seen_from q s.to).y → pos 1 ≤ℤ wind q (s ∷ ss)
  unfolding swing
  passes s ss h a b =
      let e = turn_seen true true q s.from s.to dq h.0.proper.from in
      let f = ap₂ (λ u v. swing_by true u v (cross (seen_from q s.from) (seen_from q s.to)))
      (no (seen_from q s.from).y a) (yes (seen_from q s.to).y b)
      ∙ step_up (cross (seen_from q s.from) (seen_from q s.to)) h.0.left in
      let r = only_on ss h.1 in
      let g : swing true true (seen_from q s.from) (seen_from q s.to) ≡ pos 1 = f in
      omega (arith, ints)

  -- balanced segments that all have the point on their left wind round it at least once
  pub winds : (s : Segment) (ss : List Segment) → AllByRecursion HasLeft (s ∷ ss) → IsBalanced (s ∷ ss)
      → pos 1 ≤ℤ wind q (s ∷ ss)
  winds s ss h balanced =
      let a = seen_from q s.from in
      let b = seen_from q s.to in
      by_lt_z (pos 0) a.y
      (λ up. upper_round a up s ss h balanced (no (cross a a) (cross_itself a)) (yes (cross a b) h.0.left)
      (λ e. absurd (none_up a.y up e)))
      (λ low. by_lt_z a.y (pos 0)
      (λ down. lower_round a down s ss h balanced (no (cross a a) (cross_itself a)) (yes (cross a b) h.0.left)
      (λ e. no a.y low))
      (λ high. by_lt_z (pos 0) b.y
      (λ up. passes s ss h low up)
      (λ lower. by_lt_z b.y (pos 0)
      (λ down.
      lower_round (mid a b) (mid_low a b low down) s ss h balanced
      (no (cross (mid a b) a) (below (cross (mid a b) a) (cross a b) (mid_first a b) h.0.left))
      (yes (cross (mid a b) b) (subst (λ (z : ℤ). pos 0 <ℤ z) (sym (mid_second a b)) h.0.left)) (λ e. no a.y low))
      (λ upper. absurd (clash (cross a b) h.0.left (level a b (at_zero a.y low high) (at_zero b.y lower upper)))))))

  -- ---- on one side of a line through the point
  module _ (u v : ℤ) where
    -- above 0 on one side
    abbrev pub along : Point → ℤ
    along a = u *ℤ a.x +ℤ v *ℤ a.y

    pub record IsBeside (s : Segment) : Type 0 where
      pub proper : IsProper s
      pub from : pos 0 <ℤ along (seen_from q s.from)
      pub to : pos 0 <ℤ along (seen_from q s.to)

    weighed : (a b c : Point) → cross b c *ℤ along a +ℤ (cross c a *ℤ along b +ℤ cross a b *ℤ along c)
        ≡ pos 0
    unfolding cross
    weighed a b c =
        let A = λ (x y : Term). (v6 ⊗ x ⊕ v7 ⊗ y) in
        ring (a.x ∷ a.y ∷ b.x ∷ b.y ∷ c.x ∷ c.y ∷ u ∷ v ∷ [])
        ((v2 ⊗ v5 ⊖ v3 ⊗ v4) ⊗ A v0 v1
        ⊕ ((v4 ⊗ v1 ⊖ v5 ⊗ v0) ⊗ A v2 v3 ⊕ (v0 ⊗ v3 ⊖ v1 ⊗ v2) ⊗ A v4 v5))
        (num (pos 0)) refl

    some_round : (r s t a b c : ℤ) → r *ℤ a +ℤ (s *ℤ b +ℤ t *ℤ c) ≡ pos 0 → pos 0 ≤ℤ r
        → pos 0 ≤ℤ s → pos 0 ≤ℤ t
        → pos 0 <ℤ (r +ℤ (s +ℤ t)) → pos 0 <ℤ a → pos 0 <ℤ b → pos 0 <ℤ c → ⊥
    some_round r s t a b c e hr hs ht o ha hb hc =
        let x = at_least_mul r a hr (weak a ha) in
        let y = at_least_mul s b hs (weak b hb) in
        let z = at_least_mul t c ht (weak c hc) in
        by_lt_z (pos 0) r (λ g. let p = positive_product r a g ha in omega (arith, ints))
        (λ g. by_lt_z (pos 0) s (λ k. let p = positive_product s b k hb in omega (arith, ints))
        (λ k. let m : pos 0 <ℤ t = omega (arith, ints) in let p = positive_product t c m hc in omega (arith, ints)))

    not_round : (a b c : Point) → pos 0 <ℤ along a → pos 0 <ℤ along b → pos 0 <ℤ along c
        → ¬ IsRound a b c
    not_round a b c ha hb hc h = some_round (cross b c) (cross c a) (cross a b) (along a) (along b) (along c)
        (weighed a b c) h.first h.second h.third h.some ha hb hc

    -- what a segment adds is the difference of what its ends see of a third point
    apart : (o a b : Point) → pos 0 <ℤ along o → pos 0 <ℤ along a → pos 0 <ℤ along b → swing true true a b
        ≡ swing true true a o -ℤ swing true true b o
    apart o a b ho ha hb =
        let t = triangle true true a b o (not_round a b o ha hb ho) (not_round a o b ha ho hb) in
        let e = swing_turned true true a o in
        omega (arith, ints)

    differences : (o : Point) → pos 0 <ℤ along o → (ss : List Segment) → AllByRecursion IsBeside ss
        → wind q ss ≡ sum_z (λ p. swing true true (seen_from q p) o) (starts ss) -ℤ sum_z
        (λ p. swing true true (seen_from q p) o) (ends ss)
    differences o ho [] h = refl
    differences o ho (s ∷ ss) h =
        let e = turn_seen true true q s.from s.to dq h.0.proper.from in
        let f = apart o (seen_from q s.from) (seen_from q s.to) ho h.0.from h.0.to in
        let r = differences o ho ss h.1 in
        omega (arith, ints)

    beside_proper : (ss : List Segment) → AllByRecursion IsBeside ss → AllByRecursion IsProper ss
    beside_proper [] h = tt
    beside_proper (s ∷ ss) h = (h.0.proper, beside_proper ss h.1)

    pub unwound : (ss : List Segment) → AllByRecursion IsBeside ss → IsBalanced ss → wind q ss ≡ pos 0
    unwound [] h balanced = refl
    unwound (s ∷ ss) h balanced =
        let o = seen_from q s.from in
        let d = differences o h.0.from (s ∷ ss) h in
        let t = balanced_totals (λ p. swing true true (seen_from q p) o)
        (λ p r dp dr e. swing_along true true (seen_from q p) (seen_from q r) o
        (along_seen q p r dp dr (are_same p r e))) (s ∷ ss) (beside_proper (s ∷ ss) h) balanced in
        omega (arith, ints)
