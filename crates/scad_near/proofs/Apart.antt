-- Segments that don't cross are apart where no end of one is near to the other: weights of near points can be changed, along
-- a way that leaves the difference of the points as it is or makes it less, until one of them is 0.
use Rattle.std.proofs.Common.{◌≡◌, ◌⊎◌, inl, inr, Bool, true, false, List, [], ◌∷◌, refl, ap, sym, ◌∙◌, arith, ℤ, pos, negsuc, ◌+ℤ◌, ◌-ℤ◌, ◌*ℤ◌, ◌<ℤ◌}
use lib.Signed.{◌≤ℤ◌}
use Rattle.std.specs.Prelude.{◌||◌}
use Rattle.std.proofs.lemmas.Int.{ints}
use Rattle.scad_base.proofs.Tests.{int_lt-less, int_le-at_most}
use Rattle.scad_geom.specs.declared.point.Pt.{Pt}
use Rattle.scad_geom.specs.declared.point.Edge.{Edge}
use Rattle.scad_geom.specs.Point.{whole, halves}
use Rattle.scad_geom.proofs.Rising.{order}
use Rattle.scad_geom.proofs.Ring.{Term, ring, num, ◌⊕◌, ◌⊖◌, ◌⊗◌, v0, v1, v2, v3, v4, v5, v6, v7}
use Rattle.winding_laws.specs.Region.{HoldsOrigin}
use Rattle.scad_ring.specs.Octagon.{octagon}
use Rattle.scad_ring.specs.Nearness.{Closed, IsClear}
use Rattle.scad_near.specs.Tests.{offset, is_parted, crosses}
use Rattle.scad_near.specs.Edges.{AreApart}
use Rattle.scad_near.proofs.RegionTurns.{held_mirrored}
use Rattle.scad_near.proofs.Exits.{Change, Stops, exit}
use Rattle.scad_near.proofs.Spread.{spread, Weights, Way, weights_if_near, moved, end_near}

-- ---- the ways of two edges
-- how far a point lies to the left of the line from p to q, times the length of that
abbrev pub left_by : ℤ → ℤ → ℤ → ℤ → ℤ → ℤ → ℤ
left_by px py qx qy x y = (qx -ℤ px) *ℤ (y -ℤ py) -ℤ (qy -ℤ py) *ℤ (x -ℤ px)

abbrev left_term : Term → Term → Term → Term → Term → Term → Term
left_term px py qx qy x y = (qx ⊖ px) ⊗ (y ⊖ py) ⊖ (qy ⊖ py) ⊗ (x ⊖ px)

module _ (ax ay bx by cx cy dx dy : ℤ) where
  abbrev FA : ℤ
  FA = left_by cx cy dx dy ax ay

  abbrev FB : ℤ
  FB = left_by cx cy dx dy bx by

  abbrev EC : ℤ
  EC = left_by ax ay bx by cx cy

  abbrev ED : ℤ
  ED = left_by ax ay bx by dx dy

  abbrev fa : Term
  fa = left_term v4 v5 v6 v7 v0 v1

  abbrev fb : Term
  fb = left_term v4 v5 v6 v7 v2 v3

  abbrev ec : Term
  ec = left_term v0 v1 v2 v3 v4 v5

  abbrev ed : Term
  ed = left_term v0 v1 v2 v3 v6 v7

  pub sums_agree : FA -ℤ FB ≡ ED -ℤ EC
  sums_agree = ring (ax ∷ ay ∷ bx ∷ by ∷ cx ∷ cy ∷ dx ∷ dy ∷ []) (fa ⊖ fb) (ed ⊖ ec) refl

  pub meet_x : spread (pos 0 -ℤ FB) FA ED (pos 0 -ℤ EC) ax bx cx dx ≡ pos 0
  meet_x = ring (ax ∷ ay ∷ bx ∷ by ∷ cx ∷ cy ∷ dx ∷ dy ∷ [])
      ((ed ⊗ v4 ⊕ (num (pos 0) ⊖ ec) ⊗ v6) ⊖ ((num (pos 0) ⊖ fb) ⊗ v0 ⊕ fa ⊗ v2)) (num (pos 0)) refl

  pub meet_y : spread (pos 0 -ℤ FB) FA ED (pos 0 -ℤ EC) ay by cy dy ≡ pos 0
  meet_y = ring (ax ∷ ay ∷ bx ∷ by ∷ cx ∷ cy ∷ dx ∷ dy ∷ [])
      ((ed ⊗ v5 ⊕ (num (pos 0) ⊖ ec) ⊗ v7) ⊖ ((num (pos 0) ⊖ fb) ⊗ v1 ⊕ fa ⊗ v3)) (num (pos 0)) refl

  pub back_x : spread FB (pos 0 -ℤ FA) (pos 0 -ℤ ED) EC ax bx cx dx ≡ pos 0
  back_x = ring (ax ∷ ay ∷ bx ∷ by ∷ cx ∷ cy ∷ dx ∷ dy ∷ [])
      (((num (pos 0) ⊖ ed) ⊗ v4 ⊕ ec ⊗ v6) ⊖ (fb ⊗ v0 ⊕ (num (pos 0) ⊖ fa) ⊗ v2)) (num (pos 0)) refl

  pub back_y : spread FB (pos 0 -ℤ FA) (pos 0 -ℤ ED) EC ay by cy dy ≡ pos 0
  back_y = ring (ax ∷ ay ∷ bx ∷ by ∷ cx ∷ cy ∷ dx ∷ dy ∷ [])
      (((num (pos 0) ⊖ ed) ⊗ v5 ⊕ ec ⊗ v7) ⊖ (fb ⊗ v1 ⊕ (num (pos 0) ⊖ fa) ⊗ v3)) (num (pos 0)) refl

  -- along parallel edges
  pub along_x : spread (pos 0 -ℤ (dx -ℤ cx)) (dx -ℤ cx) (pos 0 -ℤ (bx -ℤ ax)) (bx -ℤ ax) ax bx cx dx ≡ pos 0
  along_x = ring (ax ∷ ay ∷ bx ∷ by ∷ cx ∷ cy ∷ dx ∷ dy ∷ [])
      (((num (pos 0) ⊖ (v2 ⊖ v0)) ⊗ v4 ⊕ (v2 ⊖ v0) ⊗ v6) ⊖ ((num (pos 0) ⊖ (v6 ⊖ v4)) ⊗ v0 ⊕ (v6 ⊖ v4) ⊗ v2))
      (num (pos 0)) refl

  pub along_x_y : spread (pos 0 -ℤ (dx -ℤ cx)) (dx -ℤ cx) (pos 0 -ℤ (bx -ℤ ax)) (bx -ℤ ax) ay by cy dy ≡ FA -ℤ FB
  along_x_y = ring (ax ∷ ay ∷ bx ∷ by ∷ cx ∷ cy ∷ dx ∷ dy ∷ [])
      (((num (pos 0) ⊖ (v2 ⊖ v0)) ⊗ v5 ⊕ (v2 ⊖ v0) ⊗ v7) ⊖ ((num (pos 0) ⊖ (v6 ⊖ v4)) ⊗ v1 ⊕ (v6 ⊖ v4) ⊗ v3))
      (fa ⊖ fb) refl

  pub along_y_x : spread (pos 0 -ℤ (dy -ℤ cy)) (dy -ℤ cy) (pos 0 -ℤ (by -ℤ ay)) (by -ℤ ay) ax bx cx dx ≡ FB -ℤ FA
  along_y_x = ring (ax ∷ ay ∷ bx ∷ by ∷ cx ∷ cy ∷ dx ∷ dy ∷ [])
      (((num (pos 0) ⊖ (v3 ⊖ v1)) ⊗ v4 ⊕ (v3 ⊖ v1) ⊗ v6) ⊖ ((num (pos 0) ⊖ (v7 ⊖ v5)) ⊗ v0 ⊕ (v7 ⊖ v5) ⊗ v2))
      (fb ⊖ fa) refl

  pub along_y : spread (pos 0 -ℤ (dy -ℤ cy)) (dy -ℤ cy) (pos 0 -ℤ (by -ℤ ay)) (by -ℤ ay) ay by cy dy ≡ pos 0
  along_y = ring (ax ∷ ay ∷ bx ∷ by ∷ cx ∷ cy ∷ dx ∷ dy ∷ [])
      (((num (pos 0) ⊖ (v3 ⊖ v1)) ⊗ v5 ⊕ (v3 ⊖ v1) ⊗ v7) ⊖ ((num (pos 0) ⊖ (v7 ⊖ v5)) ⊗ v1 ⊕ (v7 ⊖ v5) ⊗ v3))
      (num (pos 0)) refl

still : (p q r z : ℤ) → p ≡ q → spread (negsuc 0) (pos 1) (pos 0) (pos 0) p q r z ≡ pos 0
still p q r z e = omega (arith, ints, e)

-- ---- weights of which one is 0
replaced : (s w q : ℤ) → s ≡ w → s *ℤ q ≡ w *ℤ q
replaced s w q e = ap (λ (z : ℤ). z *ℤ q) e

gone_is : (s q : ℤ) → s ≡ pos 0 → s *ℤ q ≡ pos 0
gone_is s q e = replaced s (pos 0) q e ∙ ring (q ∷ []) (num (pos 0) ⊗ v0) (num (pos 0)) refl

-- no end of one segment is near to the other
pub record EndsAreClear (h u : ℤ) (a b c d : Pt) : Type 0 where
  pub first : IsClear Closed (octagon h u) (halves (pos 2 *ℤ a.x) (pos 2 *ℤ a.y)) (whole c) (whole d)
  pub second : IsClear Closed (octagon h u) (halves (pos 2 *ℤ b.x) (pos 2 *ℤ b.y)) (whole c) (whole d)
  pub third : IsClear Closed (octagon h u) (halves (pos 2 *ℤ c.x) (pos 2 *ℤ c.y)) (whole a) (whole b)
  pub fourth : IsClear Closed (octagon h u) (halves (pos 2 *ℤ d.x) (pos 2 *ℤ d.y)) (whole a) (whole b)

module _ (h u : ℤ) (a b c d : Pt) (clear : EndsAreClear h u a b c d) (s t k l : ℤ) (o : Weights h u a b c d s t k l) where
  sum : k +ℤ l ≡ s +ℤ t
  sum = sym o.same

  second_is : s ≡ pos 0 → (p q r z : ℤ) → spread s t k l p q r z ≡ (k *ℤ r +ℤ l *ℤ z) -ℤ (k +ℤ l) *ℤ q
  second_is e p q r z =
      let f = gone_is s p e in
      let g = replaced t (k +ℤ l) q (omega (arith, ints, e, sum)) in
      omega (arith, ints, f, g)

  first_is : t ≡ pos 0 → (p q r z : ℤ) → spread s t k l p q r z ≡ (k *ℤ r +ℤ l *ℤ z) -ℤ (k +ℤ l) *ℤ p
  first_is e p q r z =
      let f = gone_is t q e in
      let g = replaced s (k +ℤ l) p (omega (arith, ints, e, sum)) in
      omega (arith, ints, f, g)

  fourth_is : k ≡ pos 0 → (p q r z : ℤ) → pos 0 -ℤ spread s t k l p q r z ≡ (s *ℤ p +ℤ t *ℤ q) -ℤ (s +ℤ t) *ℤ z
  fourth_is e p q r z =
      let f = gone_is k r e in
      let g = replaced l (s +ℤ t) z (omega (arith, ints, e, sum)) in
      omega (arith, ints, f, g)

  third_is : l ≡ pos 0 → (p q r z : ℤ) → pos 0 -ℤ spread s t k l p q r z ≡ (s *ℤ p +ℤ t *ℤ q) -ℤ (s +ℤ t) *ℤ r
  third_is e p q r z =
      let f = gone_is l z e in
      let g = replaced k (s +ℤ t) r (omega (arith, ints, e, sum)) in
      omega (arith, ints, f, g)

  some_last : pos 0 <ℤ (k +ℤ l)
  some_last = let p = o.some in omega (arith, ints, p, sum)

  pub none_is_zero : (s ≡ pos 0) ⊎ ((t ≡ pos 0) ⊎ ((k ≡ pos 0) ⊎ (l ≡ pos 0))) → ⊥
  none_is_zero (inl e) = clear.second k l o.third o.fourth some_last
      (end_near h u b c d k l (spread s t k l a.x b.x c.x d.x) (spread s t k l a.y b.y c.y d.y) (s +ℤ t)
      (second_is e a.x b.x c.x d.x) (second_is e a.y b.y c.y d.y) o.same o.held)
  none_is_zero (inr (inl e)) = clear.first k l o.third o.fourth some_last
      (end_near h u a c d k l (spread s t k l a.x b.x c.x d.x) (spread s t k l a.y b.y c.y d.y) (s +ℤ t)
      (first_is e a.x b.x c.x d.x) (first_is e a.y b.y c.y d.y) o.same o.held)
  none_is_zero (inr (inr (inl e))) = clear.fourth s t o.first o.second o.some
      (end_near h u d a b s t (pos 0 -ℤ spread s t k l a.x b.x c.x d.x) (pos 0 -ℤ spread s t k l a.y b.y c.y d.y)
      (s +ℤ t) (fourth_is e a.x b.x c.x d.x) (fourth_is e a.y b.y c.y d.y) refl
      (held_mirrored h u (spread s t k l a.x b.x c.x d.x) (spread s t k l a.y b.y c.y d.y) (s +ℤ t) o.held))
  none_is_zero (inr (inr (inr e))) = clear.third s t o.first o.second o.some
      (end_near h u c a b s t (pos 0 -ℤ spread s t k l a.x b.x c.x d.x) (pos 0 -ℤ spread s t k l a.y b.y c.y d.y)
      (s +ℤ t) (third_is e a.x b.x c.x d.x) (third_is e a.y b.y c.y d.y) refl
      (held_mirrored h u (spread s t k l a.x b.x c.x d.x) (spread s t k l a.y b.y c.y d.y) (s +ℤ t) o.held))

-- ---- near points of segments of which no end is near
abbrev pub changes : ℤ → ℤ → ℤ → ℤ → ℤ → ℤ → ℤ → ℤ → List Change
changes s t k l v w x y =
    record { x = s; v = v } ∷ record { x = t; v = w } ∷ record { x = k; v = x } ∷ record { x = l; v = y } ∷ []

one_stops : (k j s t m n v w x y : ℤ) → Stops k j (changes s t m n v w x y)
    → (k *ℤ s +ℤ j *ℤ v ≡ pos 0)
    ⊎ ((k *ℤ t +ℤ j *ℤ w ≡ pos 0) ⊎ ((k *ℤ m +ℤ j *ℤ x ≡ pos 0) ⊎ (k *ℤ n +ℤ j *ℤ y ≡ pos 0)))
one_stops k j s t m n v w x y (inl e) = inl e
one_stops k j s t m n v w x y (inr (inl e)) = inr (inl e)
one_stops k j s t m n v w x y (inr (inr (inl e))) = inr (inr (inl e))
one_stops k j s t m n v w x y (inr (inr (inr (inl e)))) = inr (inr (inr e))
one_stops k j s t m n v w x y (inr (inr (inr (inr none)))) = elim none [ ]

module _ (h u : ℤ) (origin : HoldsOrigin (octagon h u)) (a b c d : Pt) (clear : EndsAreClear h u a b c d) where
  -- there is no way along which no weight falls but one that ends where the segments meet
  rises_only : (s t m n v w x y : ℤ) → Weights h u a b c d s t m n → Way a b c d v w x y
      → pos 0 ≤ℤ v × (pos 0 ≤ℤ w × (pos 0 ≤ℤ x × pos 0 ≤ℤ y))
  rises_only s t m n v w x y o g =
      elim (exit (changes s t m n v w x y) (o.first, (o.second, (o.third, (o.fourth, tt))))) [
        | inl rise ↦ (rise.0, (rise.1.0, (rise.1.1.0, rise.1.1.1.0)))
        | inr out ↦ absurd (none_is_zero h u a b c d clear (out.k *ℤ s +ℤ out.j *ℤ v) (out.k *ℤ t +ℤ out.j *ℤ w)
            (out.k *ℤ m +ℤ out.j *ℤ x) (out.k *ℤ n +ℤ out.j *ℤ y)
            (moved h u origin a b c d s t m n v w x y out.k out.j o g out.some out.from out.last.0 out.last.1.0
            out.last.1.1.0 out.last.1.1.1.0) (one_stops out.k out.j s t m n v w x y out.stops))
      ]

  abbrev FromA : ℤ
  FromA = left_by c.x c.y d.x d.y a.x a.y

  abbrev FromB : ℤ
  FromB = left_by c.x c.y d.x d.y b.x b.y

  abbrev FromC : ℤ
  FromC = left_by a.x a.y b.x b.y c.x c.y

  abbrev FromD : ℤ
  FromD = left_by a.x a.y b.x b.y d.x d.y

  -- near points of edges that aren't parallel are where these cross, one way or the other
  cross_up : (s t m n : ℤ) → Weights h u a b c d s t m n → FromB <ℤ FromA
      → FromB ≤ℤ pos 0 × (FromC ≤ℤ pos 0 × (pos 0 ≤ℤ FromA × pos 0 ≤ℤ FromD))
  cross_up s t m n o up =
      let e = sums_agree a.x a.y b.x b.y c.x c.y d.x d.y in
      let r = rises_only s t m n (pos 0 -ℤ FromB) FromA FromD (pos 0 -ℤ FromC) o (record {
        same = omega (arith, ints, e);
        from = omega (arith, ints, up);
        x = meet_x a.x a.y b.x b.y c.x c.y d.x d.y;
        y = meet_y a.x a.y b.x b.y c.x c.y d.x d.y;
      }) in
      let p = r.0 in
      let q = r.1.1.1 in
      (omega (arith, ints, p), (omega (arith, ints, q), (r.1.0, r.1.1.0)))

  cross_down : (s t m n : ℤ) → Weights h u a b c d s t m n → FromA <ℤ FromB
      → FromA ≤ℤ pos 0 × (FromD ≤ℤ pos 0 × (pos 0 ≤ℤ FromB × pos 0 ≤ℤ FromC))
  cross_down s t m n o down =
      let e = sums_agree a.x a.y b.x b.y c.x c.y d.x d.y in
      let r = rises_only s t m n FromB (pos 0 -ℤ FromA) (pos 0 -ℤ FromD) FromC o (record {
        same = omega (arith, ints, e);
        from = omega (arith, ints, down);
        x = back_x a.x a.y b.x b.y c.x c.y d.x d.y;
        y = back_y a.x a.y b.x b.y c.x c.y d.x d.y;
      }) in
      let p = r.1.0 in
      let q = r.1.1.0 in
      (omega (arith, ints, p), (omega (arith, ints, q), (r.0, r.1.1.1)))

  -- parallel edges have no near points
  level_x : (s t m n : ℤ) → Weights h u a b c d s t m n → FromA ≡ FromB → a.x ≡ b.x
  level_x s t m n o e =
      let f = along_x_y a.x a.y b.x b.y c.x c.y d.x d.y in
      let r = rises_only s t m n (pos 0 -ℤ (d.x -ℤ c.x)) (d.x -ℤ c.x) (pos 0 -ℤ (b.x -ℤ a.x)) (b.x -ℤ a.x) o
      (record {
        same = omega (arith, ints);
        from = omega (arith, ints);
        x = along_x a.x a.y b.x b.y c.x c.y d.x d.y;
        y = f ∙ no_gap FromA FromB e;
      }) in
      let p = r.1.1.0 in
      let q = r.1.1.1 in
      omega (arith, ints, p, q)
    where
      no_gap : (x y : ℤ) → x ≡ y → x -ℤ y ≡ pos 0
      no_gap x y g = omega (arith, ints, g)

  level_y : (s t m n : ℤ) → Weights h u a b c d s t m n → FromA ≡ FromB → a.y ≡ b.y
  level_y s t m n o e =
      let f = along_y_x a.x a.y b.x b.y c.x c.y d.x d.y in
      let r = rises_only s t m n (pos 0 -ℤ (d.y -ℤ c.y)) (d.y -ℤ c.y) (pos 0 -ℤ (b.y -ℤ a.y)) (b.y -ℤ a.y) o
      (record {
        same = omega (arith, ints);
        from = omega (arith, ints);
        x = f ∙ no_gap FromB FromA (sym e);
        y = along_y a.x a.y b.x b.y c.x c.y d.x d.y;
      }) in
      let p = r.1.1.0 in
      let q = r.1.1.1 in
      omega (arith, ints, p, q)
    where
      no_gap : (x y : ℤ) → x ≡ y → x -ℤ y ≡ pos 0
      no_gap x y g = omega (arith, ints, g)

  no_level : (s t m n : ℤ) → Weights h u a b c d s t m n → FromA ≡ FromB → ⊥
  no_level s t m n o e =
      let r = rises_only s t m n (negsuc 0) (pos 1) (pos 0) (pos 0) o (record {
        same = omega (arith, ints);
        from = omega (arith, ints);
        x = still a.x b.x c.x d.x (level_x s t m n o e);
        y = still a.y b.y c.y d.y (level_y s t m n o e);
      }) in
      let p = r.0 in
      absurd (omega (arith, ints, p))

-- ---- what the tests say
parted : (to start from end : ℤ) → to <ℤ from → to ≤ℤ pos 0 → start ≤ℤ pos 0 → pos 0 ≤ℤ from → pos 0 ≤ℤ end
    → is_parted to start from end ≡ true
unfolding is_parted
parted to start from end h i j k l =
    rw (
      int_lt-less to from h,
      int_le-at_most to (pos 0) i,
      int_le-at_most start (pos 0) j,
      int_le-at_most (pos 0) from k,
      int_le-at_most (pos 0) end l,
    ) refl

not_first : (p q : Bool) → (p || q) ≡ false → p ≡ true → ⊥
not_first true q e h = absurd (cc)
not_first false q e h = absurd (cc)

not_second : (p q : Bool) → (p || q) ≡ false → q ≡ true → ⊥
not_second true q e h = absurd (cc)
not_second false true e h = absurd (cc)
not_second false false e h = absurd (cc)

module _ (h u : ℤ) (origin : HoldsOrigin (octagon h u)) (e f : Edge) (clear : EndsAreClear h u e.a e.b f.a f.b) where
  no_weights : crosses e f ≡ false → (s t m n : ℤ) → Weights h u e.a e.b f.a f.b s t m n → ⊥
  unfolding crosses offset
  no_weights none s t m n o =
      elim (order (offset f e.a) (offset f e.b)) [
        | inl up ↦ elim (order (offset f e.b) (offset f e.a)) [
          | inl down ↦ no_level h u origin e.a e.b f.a f.b clear s t m n o (omega (arith, ints, up, down))
          | inr less ↦
              let r = cross_down h u origin e.a e.b f.a f.b clear s t m n o less in
              not_second
              (is_parted (offset f e.b) (offset e f.a) (offset f e.a) (offset e f.b))
              (is_parted (offset f e.a) (offset e f.b) (offset f e.b) (offset e f.a)) none
              (parted (offset f e.a) (offset e f.b) (offset f e.b) (offset e f.a) less r.0 r.1.0 r.1.1.0 r.1.1.1)
        ]
        | inr less ↦
            let r = cross_up h u origin e.a e.b f.a f.b clear s t m n o less in
            not_first
            (is_parted (offset f e.b) (offset e f.a) (offset f e.a) (offset e f.b))
            (is_parted (offset f e.a) (offset e f.b) (offset f e.b) (offset e f.a)) none
            (parted (offset f e.b) (offset e f.a) (offset f e.a) (offset e f.b) less r.0 r.1.0 r.1.1.0 r.1.1.1)
      ]

  pub apart : crosses e f ≡ false → AreApart Closed (octagon h u) (whole e.a) (whole e.b) (whole f.a) (whole f.b)
  apart none s t hs ht st k l hk hl kl near =
      no_weights none (s *ℤ (k +ℤ l)) (t *ℤ (k +ℤ l)) (k *ℤ (s +ℤ t)) (l *ℤ (s +ℤ t))
      (weights_if_near h u e.a e.b f.a f.b s t k l hs ht st hk hl kl near)
