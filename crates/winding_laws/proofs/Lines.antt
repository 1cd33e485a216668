-- Of three points on one line, in whatever order, each point between the first and the last lies between one of them
-- and the
-- middle one.
use Rattle.std.proofs.Common.{◌≡◌, ◌⊎◌, inl, inr, [], ◌∷◌, refl, ap, ap₂, ◌∙◌, subst, arith}
use lib.IntN.{ℤ, pos, ◌+ℤ◌, ◌-ℤ◌, ◌*ℤ◌}
use lib.Signed.{◌<ℤ◌, ◌≤ℤ◌}
use Rattle.std.proofs.lemmas.Int.{ints, by_lt_z}
use Rattle.scad_base.proofs.Products.{negative_product, positive_product, zero_factor}
use Rattle.scad_geom.specs.Point.{Point}
use Rattle.scad_geom.specs.Winding.{side_by}
use Rattle.scad_geom.proofs.Ring.{ring, num, ◌⊕◌, ◌⊖◌, ◌⊗◌, v0, v1, v2, v3, v4, v5}
use Rattle.scad_geom.proofs.Signs.{pos_left}
use Rattle.winding_laws.specs.Nearness.{IsPoint}
use Rattle.winding_laws.specs.Points.{IsOn}
use Rattle.winding_laws.specs.Approach.{LinesAreAll}
use Rattle.winding_laws.proofs.Parts.{on_turned, parts_are_on, parts_are_all}
use Rattle.winding_laws.proofs.Between.{rise, bend, bend_side, bend_turned, rises, rises_on, exchanged, side_exchanged, on_exchanged}
use Rattle.winding_laws.proofs.Weights.{some_weight}
use Rattle.scad_base.proofs.Integers.{at_most_of_less, equal_of_gap, zero_between}

-- ---- the ends
only_first : (x y : ℤ) → pos 1 *ℤ x ≡ pos 1 *ℤ x +ℤ pos 0 *ℤ y
only_first x y = ring (x ∷ y ∷ []) (num (pos 1) ⊗ v0) (num (pos 1) ⊗ v0 ⊕ num (pos 0) ⊗ v1) refl

pub start_on : (a b : Point) → IsOn a b a
start_on a b =
    record {
      k = pos 1;
      s = pos 1;
      t = pos 0;
      positive = omega (arith, ints);
      first = omega (arith, ints);
      second = omega (arith, ints);
      some = omega (arith, ints);
      x = only_first a.x b.x;
      y = only_first a.y b.y;
      d = only_first a.d b.d;
    }

pub end_on : (a b : Point) → IsOn a b b
end_on a b = on_turned b a b (start_on b a)

-- ---- by height
abbrev Either : Point → Point → Point → Point → Type 0
Either a m b p = IsOn a m p ⊎ IsOn m b p

-- one number of three points on one line, with one of them alone
alone_last : (u v w x y z : ℤ) → u *ℤ x +ℤ v *ℤ y -ℤ w *ℤ z ≡ pos 0
    → v *ℤ y ≡ (pos 0 -ℤ u) *ℤ x +ℤ w *ℤ z
alone_last u v w x y z h = equal_of_gap (v *ℤ y) ((pos 0 -ℤ u) *ℤ x +ℤ w *ℤ z)
    (ring (u ∷ v ∷ w ∷ x ∷ y ∷ z ∷ [])
    (v1 ⊗ v4 ⊖ ((num (pos 0) ⊖ v0) ⊗ v3 ⊕ v2 ⊗ v5)) (v0 ⊗ v3 ⊕ v1 ⊗ v4 ⊖ v2 ⊗ v5) refl ∙ h)

alone_first : (u v w x y z : ℤ) → u *ℤ x +ℤ v *ℤ y -ℤ w *ℤ z ≡ pos 0
    → u *ℤ x ≡ w *ℤ z +ℤ (pos 0 -ℤ v) *ℤ y
alone_first u v w x y z h = equal_of_gap (u *ℤ x) (w *ℤ z +ℤ (pos 0 -ℤ v) *ℤ y)
    (ring (u ∷ v ∷ w ∷ x ∷ y ∷ z ∷ [])
    (v0 ⊗ v3 ⊖ (v2 ⊗ v5 ⊕ (num (pos 0) ⊖ v1) ⊗ v4)) (v0 ⊗ v3 ⊕ v1 ⊗ v4 ⊖ v2 ⊗ v5) refl ∙ h)

alone_middle : (u v w x y z : ℤ) → u *ℤ x +ℤ v *ℤ y -ℤ w *ℤ z ≡ pos 0
    → w *ℤ z ≡ u *ℤ x +ℤ v *ℤ y
alone_middle u v w x y z h = omega (arith, ints)

no_rest : (u v w x y z : ℤ) → w *ℤ z ≡ u *ℤ x +ℤ v *ℤ y → u *ℤ x +ℤ v *ℤ y -ℤ w *ℤ z ≡ pos 0
no_rest u v w x y z h = omega (arith, ints)

module _ (a m b p : Point) (da : IsPoint a) (dm : IsPoint m) (db : IsPoint b) (up : pos 0 <ℤ rise a b) (flat : bend a b m ≡ pos 0) (o : IsOn a b p) where
  heights : rise m b *ℤ a.y +ℤ rise a m *ℤ b.y -ℤ rise a b *ℤ m.y ≡ pos 0
  heights = no_rest (rise m b) (rise a m) (rise a b) a.y b.y m.y (rises_on a b m)

  divisors : rise m b *ℤ a.d +ℤ rise a m *ℤ b.d -ℤ rise a b *ℤ m.d ≡ pos 0
  divisors = no_rest (rise m b) (rise a m) (rise a b) a.d b.d m.d (rises a b m)

  -- the middle point lies behind the last
  behind : rise m b <ℤ pos 0 → Either a m b p
  behind n =
      let all : pos 0 <ℤ (rise a b *ℤ m.d) = positive_product (rise a b) m.d up dm in
      let less = negative_product (rise m b) a.d da n in
      let sum = rises a b m in
      let more : pos 0 <ℤ rise a m = pos_left (rise a m) b.d db (omega (arith, ints)) in
      let on : IsOn a m b =
      record {
        k = rise a m;
        s = pos 0 -ℤ rise m b;
        t = rise a b;
        positive = more;
        first = omega (arith, ints);
        second = at_most_of_less (pos 0) (rise a b) up;
        some = omega (arith, ints);
        x = alone_last (rise m b) (rise a m) (rise a b) a.x b.x m.x flat;
        y = alone_last (rise m b) (rise a m) (rise a b) a.y b.y m.y heights;
        d = alone_last (rise m b) (rise a m) (rise a b) a.d b.d m.d divisors;
      } in
      inl (parts_are_on a m a b p (start_on a m) on o)

  -- it lies before the first
  before : rise a m <ℤ pos 0 → Either a m b p
  before n =
      let all : pos 0 <ℤ (rise a b *ℤ m.d) = positive_product (rise a b) m.d up dm in
      let less = negative_product (rise a m) b.d db n in
      let sum = rises a b m in
      let more : pos 0 <ℤ rise m b = pos_left (rise m b) a.d da (omega (arith, ints)) in
      let on : IsOn m b a =
      record {
        k = rise m b;
        s = rise a b;
        t = pos 0 -ℤ rise a m;
        positive = more;
        first = at_most_of_less (pos 0) (rise a b) up;
        second = omega (arith, ints);
        some = omega (arith, ints);
        x = alone_first (rise m b) (rise a m) (rise a b) a.x b.x m.x flat;
        y = alone_first (rise m b) (rise a m) (rise a b) a.y b.y m.y heights;
        d = alone_first (rise m b) (rise a m) (rise a b) a.d b.d m.d divisors;
      } in
      inr (parts_are_on m b a b p on (end_on m b) o)

  -- it lies between them
  between : pos 0 ≤ℤ rise m b → pos 0 ≤ℤ rise a m → Either a m b p
  between h k =
      let all : pos 0 <ℤ (rise a b *ℤ m.d) = positive_product (rise a b) m.d up dm in
      let sum = rises a b m in
      let some : pos 0 <ℤ (rise m b +ℤ rise a m) =
      by_lt_z (pos 0) (rise m b) (λ g. omega (arith, ints))
      (λ g. by_lt_z (pos 0) (rise a m) (λ f. omega (arith, ints))
      (λ f. absurd (none (rise m b) (rise a m) a.d b.d (zero_between _ h g) (zero_between _ k f)
      (subst (λ (z : ℤ). pos 0 <ℤ z) sum all)))) in
      parts_are_all a b m p
      (record {
        k = rise a b;
        s = rise m b;
        t = rise a m;
        positive = up;
        first = h;
        second = k;
        some = some;
        x = alone_middle (rise m b) (rise a m) (rise a b) a.x b.x m.x flat;
        y = rises_on a b m;
        d = rises a b m;
      })
      o
    where
      none : (u v x y : ℤ) → u ≡ pos 0 → v ≡ pos 0 → pos 0 <ℤ (u *ℤ x +ℤ v *ℤ y) → ⊥
      none u v x y hu hv h =
          let z : u *ℤ x +ℤ v *ℤ y ≡ pos 0 = ap₂ (λ (s t : ℤ). s *ℤ x +ℤ t *ℤ y) hu hv ∙ ring (x ∷ y ∷ [])
          (num (pos 0) ⊗ v0 ⊕ num (pos 0) ⊗ v1) (num (pos 0)) refl in
          omega (arith, ints)

  on_way_up : Either a m b p
  on_way_up = by_lt_z (rise m b) (pos 0) behind (λ h. by_lt_z (rise a m) (pos 0) before (λ k. between h k))

either_turned : (a m b p : Point) → Either b m a p → Either a m b p
either_turned a m b p (inl h) = inr (on_turned b m p h)
either_turned a m b p (inr h) = inl (on_turned m a p h)

either_exchanged : (a m b p : Point) → Either (exchanged a) (exchanged m) (exchanged b) (exchanged p)
    → Either a m b p
either_exchanged a m b p (inl h) = inl (on_exchanged a m p h)
either_exchanged a m b p (inr h) = inr (on_exchanged m b p h)

-- where the first and the last have different heights
tilted : (a m b p : Point) → IsPoint a → IsPoint m → IsPoint b → side_by m a b ≡ pos 0 → IsOn a b p
    → (rise a b ≡ pos 0 → Either a m b p) → Either a m b p
tilted a m b p da dm db e o other =
    let flat : bend a b m ≡ pos 0 = zero_factor (bend a b m) a.d da (bend_side a b m ∙ e) in
    by_lt_z (pos 0) (rise a b) (λ up. on_way_up a m b p da dm db up flat o)
    (λ h. by_lt_z (rise a b) (pos 0)
    (λ down. either_turned a m b p (on_way_up b m a p db dm da (omega (arith, ints))
    (bend_turned a b m ∙ ap (λ (z : ℤ). pos 0 -ℤ z) flat) (on_turned a b p o)))
    (λ k. other (omega (arith, ints))))

-- where they are one point
at_one : (a m b p : Point) → IsPoint a → IsPoint b → rise a b ≡ pos 0
    → rise (exchanged a) (exchanged b) ≡ pos 0 → (o : IsOn a b p) → IsOn a m p
at_one a m b p da db h g o =
    let more : pos 0 <ℤ (o.s *ℤ a.d +ℤ o.t *ℤ b.d) = some_weight o.s o.t a.d b.d o.first o.second o.some da db in
    record {
      k = a.d *ℤ o.k;
      s = o.s *ℤ a.d +ℤ o.t *ℤ b.d;
      t = pos 0;
      positive = positive_product a.d o.k da o.positive;
      first = at_most_of_less (pos 0) (o.s *ℤ a.d +ℤ o.t *ℤ b.d) more;
      second = omega (arith, ints);
      some = omega (arith, ints);
      x = one_number o.k o.s o.t a.d b.d a.x b.x p.x m.x g o.x;
      y = one_number o.k o.s o.t a.d b.d a.y b.y p.y m.y h o.y;
      d = one_number o.k o.s o.t a.d b.d a.d b.d p.d m.d (same a.d b.d) o.d;
    }
  where
    same : (d e : ℤ) → e *ℤ d -ℤ d *ℤ e ≡ pos 0
    same d e = ring (d ∷ e ∷ []) (v1 ⊗ v0 ⊖ v0 ⊗ v1) (num (pos 0)) refl

    one_number : (k s t d e x y p m : ℤ) → y *ℤ d -ℤ x *ℤ e ≡ pos 0 → k *ℤ p ≡ s *ℤ x +ℤ t *ℤ y
        → (d *ℤ k) *ℤ p ≡ (s *ℤ d +ℤ t *ℤ e) *ℤ x +ℤ pos 0 *ℤ m
    one_number k s t d e x y p m h q =
        ring (d ∷ k ∷ p ∷ []) ((v0 ⊗ v1) ⊗ v2) (v0 ⊗ (v1 ⊗ v2)) refl
        ∙ ap (λ (z : ℤ). d *ℤ z) q
        ∙ ring (d ∷ s ∷ x ∷ t ∷ y ∷ []) (v0 ⊗ (v1 ⊗ v2 ⊕ v3 ⊗ v4))
        ((v1 ⊗ v0) ⊗ v2 ⊕ v3 ⊗ (v4 ⊗ v0)) refl
        ∙ ap (λ (z : ℤ). (s *ℤ d) *ℤ x +ℤ t *ℤ z) (equal_of_gap (y *ℤ d) (x *ℤ e) h)
        ∙ ring (s ∷ d ∷ x ∷ t ∷ e ∷ m ∷ []) ((v0 ⊗ v1) ⊗ v2 ⊕ v3 ⊗ (v2 ⊗ v4))
        ((v0 ⊗ v1 ⊕ v3 ⊗ v4) ⊗ v2 ⊕ num (pos 0) ⊗
        v5) refl

pub lines_are_all : LinesAreAll
lines_are_all a m b p da dm db e o =
    tilted a m b p da dm db e o
    (λ level. either_exchanged a m b p
    (tilted (exchanged a) (exchanged m) (exchanged b) (exchanged p) da dm db
    (side_exchanged a b m ∙ ap (λ (z : ℤ). pos 0 -ℤ z) e)
    (on_exchanged (exchanged a) (exchanged b) (exchanged p) o)
    (λ same. inl (on_exchanged (exchanged a) (exchanged m) (exchanged p) (at_one a m b p da db level same o)))))
