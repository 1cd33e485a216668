-- From no point that all triangles of a closed surface turn round do they lie in one direction alone.
use Rattle.std.proofs.Common.{◌≡◌, ◌⊎◌, inl, inr, ℕ, ◌+◌, Bool, true, false, ◌&&◌, List, [], ◌∷◌, map, refl, sym, ap, ap₂, ◌∙◌, arith, sum_by}
use lib.IntN.{ℤ, pos, negsuc, neg_ℤ, ◌+ℤ◌, ◌-ℤ◌, ◌*ℤ◌}
use lib.Signed.{◌<ℤ◌, ◌≤ℤ◌}
use Rattle.std.specs.Prelude.{int_lt, if◌then◌else◌}
use Rattle.std.specs.List.{AllByRecursion}
use Rattle.std.proofs.Math.Bool.{and_comm}
use Rattle.std.proofs.lemmas.Int.{ints, by_lt_z}
use Rattle.std.proofs.lemmas.List.Sums.{sum_by-cons}
use borrow.Author.Differences.{up, down}
use Rattle.scad_base.proofs.Products.{positive_product}
use Rattle.scad_geom.specs.declared.point3.Pt3.{Pt3}
use Rattle.scad_geom.specs.Point.{Point}
use Rattle.scad_geom.specs.Winding.{is_beyond}
use Rattle.scad_geom.proofs.Ring.{Term, ring, num, ◌⊕◌, ◌⊖◌, ◌⊗◌, v0, v1, v2, v3, v4, v5, v6, v7, v8, v9, v10, v11}
use Rattle.scad_geom.proofs.Signs.{at_most_mul}
use Rattle.scad_solid.specs.declared.side.Side.{Side}
use Rattle.scad_solid.specs.declared.triangle.Triangle.{Triangle}
use Rattle.scad_solid.specs.Side.{reversed}
use Rattle.scad_solid.specs.Surface.{sides, is_closed}
use Rattle.scad_solid.proofs.ClosedSides.{sum_by-reversed}
use Rattle.scad_solid.proofs.Flow.{flow}
use Rattle.winding_laws.proofs.Views.{cross, cross_turned, swing_by, swing, swing_turned}
use Rattle.winding_laws.proofs.Triangles.{IsRound, triangle}
use Rattle.scad_hull.proofs.Steps.{step_on, step_up}

-- ---- what flows along the sides of a closed surface comes to nothing
module _ (T : Side → ℤ) (turns : (s : Side) → T (reversed s) ≡ neg_ℤ (T s)) where
  up_back : (z : ℤ) → up (neg_ℤ z) ≡ down z
  up_back (pos n) = omega (arith, ints)
  up_back (negsuc n) = omega (arith, ints)

  by_parts : (ss : List Side) → flow T turns ss
      ≡ pos (sum_by (λ s. up (T s)) ss) -ℤ pos (sum_by (λ s. down (T s)) ss)
  by_parts [] = refl
  by_parts (s ∷ ss) =
      let a = sum_by-cons (λ s. up (T s)) s ss in
      let b = sum_by-cons (λ s. down (T s)) s ss in
      let r = by_parts ss in
      rw (a, b, r) (omega (arith, ints))

  ups_back : (ss : List Side) → sum_by (λ s. up (T s)) (map reversed ss) ≡ sum_by (λ s. down (T s)) ss
  ups_back [] = refl
  ups_back (s ∷ ss) =
      sum_by-cons (λ s. up (T s)) (reversed s) (map reversed ss)
      ∙ ap₂ (λ (m n : ℕ). m + n) (ap up (turns s) ∙ up_back (T s)) (ups_back ss)
      ∙ sym (sum_by-cons (λ s. down (T s)) s ss)

  pub closed_flow : (ts : List Triangle) → is_closed ts ≡ true → flow T turns (sides ts) ≡ pos 0
  closed_flow ts closed =
      let e = sum_by-reversed ts closed (λ s. up (T s)) in
      let f = ups_back (sides ts) in
      let p = by_parts (sides ts) in
      let same : sum_by (λ s. up (T s)) (sides ts) ≡ sum_by (λ s. down (T s)) (sides ts) = sym e ∙ f in
      p ∙ ap (λ (n : ℕ). pos n -ℤ pos (sum_by (λ s. down (T s)) (sides ts))) same ∙ omega (arith, ints)

-- ---- swings with the origin on the left
-- of three tests that aren't alike one that holds follows one that doesn't
round_up : (r s t : Bool) (l m n : ℤ) → pos 0 <ℤ l → pos 0 <ℤ m → pos 0 <ℤ n
    → (r ≡ s → s ≡ t → ⊥)
    → pos 1 ≤ℤ (swing_by true r s l +ℤ (swing_by true s t m +ℤ swing_by true t r n))
round_up true true true l m n a b c d = absurd (d refl refl)
round_up false false false l m n a b c d = absurd (d refl refl)
round_up false true t l m n a b c d =
    let e = step_up l a in let f = step_on true t m (weak m b) in let g = step_on t false n (weak n c) in omega (arith, ints)
  where
    weak : (z : ℤ) → pos 0 <ℤ z → pos 0 ≤ℤ z
    weak z h = omega (arith, ints)
round_up r false true l m n a b c d =
    let e = step_up m b in let f = step_on r false l (weak l a) in let g = step_on true r n (weak n c) in omega (arith, ints)
  where
    weak : (z : ℤ) → pos 0 <ℤ z → pos 0 ≤ℤ z
    weak z h = omega (arith, ints)
round_up true s false l m n a b c d =
    let e = step_up n c in let f = step_on true s l (weak l a) in let g = step_on s false m (weak m b) in omega (arith, ints)
  where
    weak : (z : ℤ) → pos 0 <ℤ z → pos 0 ≤ℤ z
    weak z h = omega (arith, ints)

weak : (z : ℤ) → pos 0 <ℤ z → pos 0 ≤ℤ z
weak z h = omega (arith, ints)

opposite : (y z : ℤ) → y ≡ pos 0 -ℤ z → pos 0 ≤ℤ y → z ≤ℤ pos 0
opposite y z e h = omega (arith, ints)

sum_up : (a b c s : ℤ) → a +ℤ (b +ℤ c) ≡ s → a ≤ℤ pos 0 → b ≤ℤ pos 0 → c ≤ℤ pos 0
    → pos 0 <ℤ s → ⊥
sum_up a b c s e ha hb hc hs = omega (arith, ints)

-- ---- seen along a direction (kx, ky, kw), in three coordinates x, y, w
module _ (x y w : Pt3 → ℤ) where
  -- six times the volume that the three points make with the origin, above 0 where they go round it counter-clockwise
  unfoldable pub volume : Pt3 → Pt3 → Pt3 → ℤ
  volume a b c = w a *ℤ (x b *ℤ y c -ℤ y b *ℤ x c) +ℤ
      (w b *ℤ (x c *ℤ y a -ℤ y c *ℤ x a) +ℤ w c *ℤ (x a *ℤ y b -ℤ y a *ℤ x b))

  -- all three corners lie ahead, and the triangle turns its left to the origin
  pub record IsToward (t : Triangle) : Type 0 where
    pub first : pos 0 <ℤ w t.a
    pub second : pos 0 <ℤ w t.b
    pub third : pos 0 <ℤ w t.c
    pub round : pos 0 <ℤ volume t.a t.b t.c

  -- all three corners lie behind, or beside
  pub record IsAway (t : Triangle) : Type 0 where
    pub first : w t.a ≤ℤ pos 0
    pub second : w t.b ≤ℤ pos 0
    pub third : w t.c ≤ℤ pos 0

  abbrev pub IsSided : Triangle → Type 0
  IsSided t = IsToward t ⊎ IsAway t

  abbrev is_ahead : Side → Bool
  is_ahead s = int_lt (pos 0) (w s.from) && int_lt (pos 0) (w s.to)

  module _ (kx ky kw : ℤ) (ahead : pos 0 <ℤ kw) where
    abbrev spot : Pt3 → Point
    spot p = record { x = kw *ℤ x p -ℤ kx *ℤ w p; y = kw *ℤ y p -ℤ ky *ℤ w p; d = pos 1 }

    abbrev T : Side → ℤ
    T s = if is_ahead s then swing true true (spot s.from) (spot s.to) else pos 0

    turned_by : (b : Bool) (y z : ℤ) → y ≡ pos 0 -ℤ z
        → (if b then y else pos 0) ≡ neg_ℤ (if b then z else pos 0)
    turned_by true y z e = omega (arith, ints)
    turned_by false y z e = omega (arith, ints)

    turns : (s : Side) → T (reversed s) ≡ neg_ℤ (T s)
    turns s =
        ap (λ (b : Bool). if b then swing true true (spot s.to) (spot s.from) else pos 0)
        (and_comm (int_lt (pos 0) (w s.to)) (int_lt (pos 0) (w s.from)))
        ∙ turned_by (is_ahead s) (swing true true (spot s.to) (spot s.from))
        (swing true true (spot s.from) (spot s.to)) (swing_turned true true (spot s.from) (spot s.to))

    is_up : (z : ℤ) → pos 0 <ℤ z → int_lt (pos 0) z ≡ true
    is_up z h = sym (omega (arith, ints))

    is_down : (z : ℤ) → z ≤ℤ pos 0 → int_lt (pos 0) z ≡ false
    is_down z h = sym (omega (arith, ints))

    seen_ahead : (p r : Pt3) → pos 0 <ℤ w p → pos 0 <ℤ w r
        → T (record { from = p; to = r }) ≡ swing true true (spot p) (spot r)
    seen_ahead p r hp hr = ap₂ (λ (a b : Bool). if a && b then swing true true (spot p) (spot r) else pos 0)
        (is_up (w p) hp) (is_up (w r) hr)

    unseen : (p r : Pt3) → w p ≤ℤ pos 0 → T (record { from = p; to = r }) ≡ pos 0
    unseen p r hp = ap (λ (a : Bool). if a && int_lt (pos 0) (w r) then swing true true (spot p) (spot r) else pos 0)
        (is_down (w p) hp)

    abbrev round_of : Triangle → ℤ
    round_of t = T (record { from = t.a; to = t.b }) +ℤ
        (T (record { from = t.b; to = t.c }) +ℤ T (record { from = t.c; to = t.a }))

    abbrev plain_round : Triangle → ℤ
    plain_round t = swing true true (spot t.a) (spot t.b) +ℤ
        (swing true true (spot t.b) (spot t.c) +ℤ swing true true (spot t.c) (spot t.a))

    round_plain : (t : Triangle) → IsToward t → round_of t ≡ plain_round t
    round_plain t h =
        ap₂ (λ (u v : ℤ). u +ℤ v) (seen_ahead t.a t.b h.first h.second)
        (ap₂ (λ (u v : ℤ). u +ℤ v) (seen_ahead t.b t.c h.second h.third) (seen_ahead t.c t.a h.third h.first))

    weighed : (a b c : Pt3) → w a *ℤ cross (spot b) (spot c) +ℤ
        (w b *ℤ cross (spot c) (spot a) +ℤ w c *ℤ cross (spot a) (spot b)) ≡ (kw *ℤ kw) *ℤ volume a b c
    unfolding volume cross
    weighed a b c =
        let X = λ (u v : Term). (v11 ⊗ u ⊖ v9 ⊗ v) in
        let Y = λ (u v : Term). (v11 ⊗ u ⊖ v10 ⊗ v) in
        ring (x a ∷ y a ∷ w a ∷ x b ∷ y b ∷ w b ∷ x c ∷ y c ∷ w c ∷ kx ∷ ky ∷ kw ∷ [])
        (v2 ⊗ (X v3 v5 ⊗ Y v7 v8 ⊖ Y v4 v5 ⊗ X v6 v8)
        ⊕ (v5 ⊗ (X v6 v8 ⊗ Y v1 v2 ⊖ Y v7 v8 ⊗ X v0 v2) ⊕ v8
        ⊗ (X v0 v2 ⊗ Y v4 v5 ⊖ Y v1 v2 ⊗ X v3 v5)))
        ((v11 ⊗ v11) ⊗ (v2 ⊗ (v3 ⊗ v7 ⊖ v4 ⊗ v6)
        ⊕ (v5 ⊗ (v6 ⊗ v1 ⊖ v7 ⊗ v0) ⊕ v8 ⊗ (v0 ⊗ v4 ⊖ v1 ⊗ v3)))) refl

    swing_on : (a b : Point) → pos 0 ≤ℤ cross a b → pos 0 ≤ℤ swing true true a b
    unfolding swing
    swing_on a b h = step_on (is_beyond true a.y) (is_beyond true b.y) (cross a b) h

    mul_low : (k z : ℤ) → pos 0 <ℤ k → z ≤ℤ pos 0 → (k *ℤ z) ≤ℤ pos 0
    mul_low k z h l = let m = at_most_mul z k l (weak k h) in rw (*ℤ_flip k z) m
      where
        *ℤ_flip : (k z : ℤ) → k *ℤ z ≡ z *ℤ k
        *ℤ_flip k z = ring (k ∷ z ∷ []) (v0 ⊗ v1) (v1 ⊗ v0) refl

    -- no triangle turns the other way round the direction
    not_back : (t : Triangle) → IsToward t → ¬ IsRound (spot t.a) (spot t.c) (spot t.b)
    not_back t h r =
        let f = h.first in
        let s = h.second in
        let o = h.third in
        let p = positive_product (kw *ℤ kw) (volume t.a t.b t.c) (positive_product kw kw ahead ahead) h.round in
        sum_up (w t.a *ℤ cross (spot t.b) (spot t.c)) (w t.b *ℤ cross (spot t.c) (spot t.a))
        (w t.c *ℤ cross (spot t.a) (spot t.b)) ((kw *ℤ kw) *ℤ volume t.a t.b t.c) (weighed t.a t.b t.c)
        (mul_low (w t.a) (cross (spot t.b) (spot t.c)) f
        (opposite (cross (spot t.c) (spot t.b)) (cross (spot t.b) (spot t.c)) (cross_turned (spot t.b) (spot t.c))
        r.first))
        (mul_low (w t.b) (cross (spot t.c) (spot t.a)) s
        (opposite (cross (spot t.a) (spot t.c)) (cross (spot t.c) (spot t.a)) (cross_turned (spot t.c) (spot t.a))
        r.third))
        (mul_low (w t.c) (cross (spot t.a) (spot t.b)) o
        (opposite (cross (spot t.b) (spot t.a)) (cross (spot t.a) (spot t.b)) (cross_turned (spot t.a) (spot t.b))
        r.second))
        p

    at_rest : (z : ℤ) → z ≡ pos 0 → pos 0 ≤ℤ z
    at_rest z e = omega (arith, ints)

    both_signs : (z : ℤ) → z <ℤ pos 0 → pos 0 ≤ℤ z → ⊥
    both_signs z h k = omega (arith, ints)

    sum_on : (a b c : ℤ) → pos 0 ≤ℤ a → pos 0 ≤ℤ b → pos 0 ≤ℤ c → pos 0 ≤ℤ (a +ℤ (b +ℤ c))
    sum_on a b c ha hb hc = omega (arith, ints)

    each_plain : (t : Triangle) → IsToward t → pos 0 ≤ℤ plain_round t
    each_plain t h =
        let none = λ (n : ¬ IsRound (spot t.a) (spot t.b) (spot t.c)). at_rest (plain_round t) (triangle true true (spot t.a) (spot t.b) (spot t.c) n (not_back t h)) in
        by_lt_z (cross (spot t.b) (spot t.c)) (pos 0)
        (λ l. none (λ r. both_signs (cross (spot t.b) (spot t.c)) l r.first))
        (λ f. by_lt_z (cross (spot t.c) (spot t.a)) (pos 0)
        (λ l. none (λ r. both_signs (cross (spot t.c) (spot t.a)) l r.second))
        (λ s. by_lt_z (cross (spot t.a) (spot t.b)) (pos 0)
        (λ l. none (λ r. both_signs (cross (spot t.a) (spot t.b)) l r.third))
        (λ o. sum_on (swing true true (spot t.a) (spot t.b)) (swing true true (spot t.b) (spot t.c))
        (swing true true (spot t.c) (spot t.a))
        (swing_on (spot t.a) (spot t.b) o) (swing_on (spot t.b) (spot t.c) f) (swing_on (spot t.c) (spot t.a) s))))

    each_on : (t : Triangle) → IsSided t → pos 0 ≤ℤ round_of t
    each_on t (inl h) = let e = round_plain t h in let f = each_plain t h in same_on (round_of t) (plain_round t) e f
      where
        same_on : (y z : ℤ) → y ≡ z → pos 0 ≤ℤ z → pos 0 ≤ℤ y
        same_on y z e h = omega (arith, ints)
    each_on t (inr h) =
        let a = unseen t.a t.b h.first in let b = unseen t.b t.c h.second in let c = unseen t.c t.a h.third in
        none (T (record { from = t.a; to = t.b })) (T (record { from = t.b; to = t.c }))
        (T (record { from = t.c; to = t.a })) a b c
      where
        none : (x y z : ℤ) → x ≡ pos 0 → y ≡ pos 0 → z ≡ pos 0 → pos 0 ≤ℤ (x +ℤ (y +ℤ z))
        none x y z a b c = omega (arith, ints)

    flow_on : (t : Triangle) (ts : List Triangle)
        → flow T turns (sides (t ∷ ts)) ≡ round_of t +ℤ flow T turns (sides ts)
    flow_on t ts = regroup (T (record { from = t.a; to = t.b })) (T (record { from = t.b; to = t.c }))
        (T (record { from = t.c; to = t.a })) (flow T turns (sides ts))
      where
        regroup : (x y z u : ℤ) → x +ℤ (y +ℤ (z +ℤ u)) ≡ (x +ℤ (y +ℤ z)) +ℤ u
        regroup x y z u = omega (arith, ints)

    more_on : (s t u : ℤ) → s ≡ t +ℤ u → pos 0 ≤ℤ t → pos 0 ≤ℤ u → pos 0 ≤ℤ s
    more_on s t u e h k = omega (arith, ints)

    all_on : (ts : List Triangle) → AllByRecursion IsSided ts → pos 0 ≤ℤ flow T turns (sides ts)
    all_on [] h = omega (arith, ints)
    all_on (t ∷ ts) h = more_on (flow T turns (sides (t ∷ ts))) (round_of t) (flow T turns (sides ts))
        (flow_on t ts) (each_on t h.0) (all_on ts h.1)

  -- ---- along the middle of a triangle
  module _ (t : Triangle) (h : IsToward t) where
    abbrev kx : ℤ
    kx = x t.a +ℤ (x t.b +ℤ x t.c)

    abbrev ky : ℤ
    ky = y t.a +ℤ (y t.b +ℤ y t.c)

    abbrev kw : ℤ
    kw = w t.a +ℤ (w t.b +ℤ w t.c)

    middle_ahead : pos 0 <ℤ kw
    middle_ahead = let f = h.first in let s = h.second in let o = h.third in omega (arith, ints)

    abbrev seen : Pt3 → Point
    seen p = spot kx ky kw middle_ahead p

    inside : cross (seen t.a) (seen t.b) ≡ kw *ℤ volume t.a t.b t.c
    unfolding volume cross
    inside =
        let A = v0 ⊕ (v3 ⊕ v6) in
        let B = v1 ⊕ (v4 ⊕ v7) in
        let C = v2 ⊕ (v5 ⊕ v8) in
        ring (x t.a ∷ y t.a ∷ w t.a ∷ x t.b ∷ y t.b ∷ w t.b ∷ x t.c ∷ y t.c ∷ w t.c ∷ [])
        ((C ⊗ v0 ⊖ A ⊗ v2) ⊗ (C ⊗ v4 ⊖ B ⊗ v5) ⊖ (C ⊗ v1 ⊖ B ⊗ v2) ⊗ (C ⊗ v3 ⊖ A ⊗ v5))
        (C ⊗ (v2 ⊗ (v3 ⊗ v7 ⊖ v4 ⊗ v6)
        ⊕ (v5 ⊗ (v6 ⊗ v1 ⊖ v7 ⊗ v0) ⊕ v8 ⊗ (v0 ⊗ v4 ⊖ v1 ⊗ v3)))) refl

    inside_second : cross (seen t.b) (seen t.c) ≡ kw *ℤ volume t.a t.b t.c
    unfolding volume cross
    inside_second =
        let A = v0 ⊕ (v3 ⊕ v6) in
        let B = v1 ⊕ (v4 ⊕ v7) in
        let C = v2 ⊕ (v5 ⊕ v8) in
        ring (x t.a ∷ y t.a ∷ w t.a ∷ x t.b ∷ y t.b ∷ w t.b ∷ x t.c ∷ y t.c ∷ w t.c ∷ [])
        ((C ⊗ v3 ⊖ A ⊗ v5) ⊗ (C ⊗ v7 ⊖ B ⊗ v8) ⊖ (C ⊗ v4 ⊖ B ⊗ v5) ⊗ (C ⊗ v6 ⊖ A ⊗ v8))
        (C ⊗ (v2 ⊗ (v3 ⊗ v7 ⊖ v4 ⊗ v6)
        ⊕ (v5 ⊗ (v6 ⊗ v1 ⊖ v7 ⊗ v0) ⊕ v8 ⊗ (v0 ⊗ v4 ⊖ v1 ⊗ v3)))) refl

    inside_third : cross (seen t.c) (seen t.a) ≡ kw *ℤ volume t.a t.b t.c
    unfolding volume cross
    inside_third =
        let A = v0 ⊕ (v3 ⊕ v6) in
        let B = v1 ⊕ (v4 ⊕ v7) in
        let C = v2 ⊕ (v5 ⊕ v8) in
        ring (x t.a ∷ y t.a ∷ w t.a ∷ x t.b ∷ y t.b ∷ w t.b ∷ x t.c ∷ y t.c ∷ w t.c ∷ [])
        ((C ⊗ v6 ⊖ A ⊗ v8) ⊗ (C ⊗ v1 ⊖ B ⊗ v2) ⊖ (C ⊗ v7 ⊖ B ⊗ v8) ⊗ (C ⊗ v0 ⊖ A ⊗ v2))
        (C ⊗ (v2 ⊗ (v3 ⊗ v7 ⊖ v4 ⊗ v6)
        ⊕ (v5 ⊗ (v6 ⊗ v1 ⊖ v7 ⊗ v0) ⊕ v8 ⊗ (v0 ⊗ v4 ⊖ v1 ⊗ v3)))) refl

    heights : (seen t.a).y +ℤ ((seen t.b).y +ℤ (seen t.c).y) ≡ pos 0
    heights =
        let B = v0 ⊕ (v2 ⊕ v4) in
        let C = v1 ⊕ (v3 ⊕ v5) in
        ring (y t.a ∷ w t.a ∷ y t.b ∷ w t.b ∷ y t.c ∷ w t.c ∷ [])
        ((C ⊗ v0 ⊖ B ⊗ v1) ⊕ ((C ⊗ v2 ⊖ B ⊗ v3) ⊕ (C ⊗ v4 ⊖ B ⊗ v5))) (num (pos 0)) refl

    some : pos 0 <ℤ (kw *ℤ volume t.a t.b t.c)
    some = positive_product kw (volume t.a t.b t.c) middle_ahead h.round

    positive_by : (z : ℤ) → z ≡ kw *ℤ volume t.a t.b t.c → pos 0 <ℤ z
    positive_by z e = let s = some in omega (arith, ints)

    all_up : (a b c : ℤ) → a +ℤ (b +ℤ c) ≡ pos 0 → int_lt (pos 0) a ≡ true → int_lt (pos 0) b ≡ true
        → int_lt (pos 0) c ≡ true → ⊥
    all_up a b c e ha hb hc = omega (arith, ints)

    all_flat : (a b c : ℤ) → a +ℤ (b +ℤ c) ≡ pos 0 → int_lt (pos 0) a ≡ false
        → int_lt (pos 0) b ≡ false → int_lt (pos 0) c ≡ false → a ≡ pos 0
    all_flat a b c e ha hb hc = omega (arith, ints)

    flat_second : (a b c : ℤ) → a +ℤ (b +ℤ c) ≡ pos 0 → int_lt (pos 0) a ≡ false
        → int_lt (pos 0) b ≡ false → int_lt (pos 0) c ≡ false → b ≡ pos 0
    flat_second a b c e ha hb hc = omega (arith, ints)

    flat_cross : (a b : Point) → a.y ≡ pos 0 → b.y ≡ pos 0 → cross a b ≡ pos 0
    unfolding cross
    flat_cross a b ha hb = ap₂ (λ (u v : ℤ). a.x *ℤ u -ℤ v *ℤ b.x) hb ha
        ∙ ring (a.x ∷ b.x ∷ []) (v0 ⊗ num (pos 0) ⊖ num (pos 0) ⊗ v1) (num (pos 0)) refl

    nothing : (z : ℤ) → pos 0 <ℤ z → z ≡ pos 0 → ⊥
    nothing z h e = omega (arith, ints)

    not_alike : (r : Bool) → is_beyond true (seen t.a).y ≡ r → is_beyond true (seen t.b).y ≡ r
        → is_beyond true (seen t.c).y ≡ r → ⊥
    unfolding is_beyond
    not_alike true a b c = all_up (seen t.a).y (seen t.b).y (seen t.c).y heights a b c
    not_alike false a b c =
        nothing (cross (seen t.a) (seen t.b)) (positive_by (cross (seen t.a) (seen t.b)) inside)
        (flat_cross (seen t.a) (seen t.b) (all_flat (seen t.a).y (seen t.b).y (seen t.c).y heights a b c)
        (flat_second (seen t.a).y (seen t.b).y (seen t.c).y heights a b c))

    goes_round : pos 1 ≤ℤ plain_round kx ky kw middle_ahead t
    unfolding swing
    goes_round =
        round_up (is_beyond true (seen t.a).y) (is_beyond true (seen t.b).y) (is_beyond true (seen t.c).y)
        (cross (seen t.a) (seen t.b)) (cross (seen t.b) (seen t.c)) (cross (seen t.c) (seen t.a))
        (positive_by (cross (seen t.a) (seen t.b)) inside) (positive_by (cross (seen t.b) (seen t.c)) inside_second)
        (positive_by (cross (seen t.c) (seen t.a)) inside_third)
        (λ e f. not_alike (is_beyond true (seen t.a).y) refl (sym e) (sym f ∙ sym e))

    too_much : (s r u p : ℤ) → s ≡ pos 0 → s ≡ r +ℤ u → r ≡ p → pos 1 ≤ℤ p → pos 0 ≤ℤ u
        → ⊥
    too_much s r u p a b c d e = omega (arith, ints)

    -- a closed surface whose triangles lie each ahead or behind, and turn their left to the origin where ahead, has
    -- none ahead
    pub one_open : (ts : List Triangle) → AllByRecursion IsSided ts → is_closed (t ∷ ts) ≡ true → ⊥
    one_open ts all closed =
        too_much (flow (T kx ky kw middle_ahead) (turns kx ky kw middle_ahead) (sides (t ∷ ts)))
        (round_of kx ky kw middle_ahead t) (flow (T kx ky kw middle_ahead) (turns kx ky kw middle_ahead) (sides ts))
        (plain_round kx ky kw middle_ahead t)
        (closed_flow (T kx ky kw middle_ahead) (turns kx ky kw middle_ahead) (t ∷ ts) closed)
        (flow_on kx ky kw middle_ahead t ts) (round_plain kx ky kw middle_ahead t h) goes_round
        (all_on kx ky kw middle_ahead ts all)
