-- A point on the line of a segment, strictly between the ends, is a point of the segment.
use Rattle.std.proofs.Common.{◌≡◌, inl, inr, [], ◌∷◌, refl, sym, ap, ◌∙◌, subst}
use lib.IntN.{ℤ, pos, ◌+ℤ◌, ◌-ℤ◌, ◌*ℤ◌}
use lib.Signed.{◌<ℤ◌}
use Rattle.scad_base.proofs.Products.{positive_product, zero_factor}
use Rattle.scad_geom.specs.Point.{Point}
use Rattle.scad_geom.specs.Winding.{side_by}
use Rattle.scad_geom.proofs.Ring.{ring, num, ◌⊕◌, ◌⊖◌, ◌⊗◌, v0, v1, v2, v3, v4, v5, v6, v7, v8}
use Rattle.scad_geom.proofs.Signs.{pos_left}
use Rattle.winding_laws.specs.Parts.{BetweenIsOn}
use Rattle.winding_laws.specs.Points.{IsOn, IsBetween}
use Rattle.winding_laws.proofs.Parts.{on_turned}
use Rattle.scad_base.proofs.Integers.{at_most_of_less, gap_of_less, both_positive, equal_of_gap}

-- how far p lies above a, over the product of the divisors
abbrev pub rise : Point → Point → ℤ
rise a p = p.y *ℤ a.d -ℤ a.y *ℤ p.d

-- 0 where three points lie on one line
abbrev pub bend : Point → Point → Point → ℤ
bend a b p = rise p b *ℤ a.x +ℤ rise a p *ℤ b.x -ℤ rise a b *ℤ p.x

pub bend_side : (a b p : Point) → bend a b p *ℤ a.d ≡ side_by p a b
unfolding side_by
bend_side a b p =
    ring (a.x ∷ a.y ∷ a.d ∷ b.x ∷ b.y ∷ b.d ∷ p.x ∷ p.y ∷ p.d ∷ [])
    (((v4 ⊗ v8 ⊖ v7 ⊗ v5) ⊗ v0 ⊕ (v7 ⊗ v2 ⊖ v1 ⊗ v8) ⊗ v3 ⊖ (v4 ⊗ v2 ⊖ v1 ⊗ v5) ⊗ v6)
    ⊗ v2)
    ((v3 ⊗ v2 ⊖ v0 ⊗ v5) ⊗ (v7 ⊗ v2 ⊖ v1 ⊗ v8) ⊖ (v4 ⊗ v2 ⊖ v1 ⊗ v5)
    ⊗ (v6 ⊗ v2 ⊖ v0 ⊗ v8)) refl

pub bend_turned : (a b p : Point) → bend b a p ≡ pos 0 -ℤ bend a b p
bend_turned a b p =
    ring (a.x ∷ a.y ∷ a.d ∷ b.x ∷ b.y ∷ b.d ∷ p.x ∷ p.y ∷ p.d ∷ [])
    ((v1 ⊗ v8 ⊖ v7 ⊗ v2) ⊗ v3 ⊕ (v7 ⊗ v5 ⊖ v4 ⊗ v8) ⊗ v0 ⊖ (v1 ⊗ v5 ⊖ v4 ⊗ v2) ⊗ v6)
    (num (pos 0) ⊖ ((v4 ⊗ v8 ⊖ v7 ⊗ v5) ⊗ v0 ⊕ (v7 ⊗ v2 ⊖ v1 ⊗ v8) ⊗ v3
    ⊖ (v4 ⊗ v2 ⊖ v1 ⊗ v5) ⊗ v6)) refl

pub rises : (a b p : Point) → rise a b *ℤ p.d ≡ rise p b *ℤ a.d +ℤ rise a p *ℤ b.d
rises a b p = ring (a.y ∷ a.d ∷ b.y ∷ b.d ∷ p.y ∷ p.d ∷ []) ((v2 ⊗ v1 ⊖ v0 ⊗ v3) ⊗ v5)
    ((v2 ⊗ v5 ⊖ v4 ⊗ v3) ⊗ v1 ⊕ (v4 ⊗ v1 ⊖ v0 ⊗ v5) ⊗ v3) refl

pub rises_on : (a b p : Point) → rise a b *ℤ p.y ≡ rise p b *ℤ a.y +ℤ rise a p *ℤ b.y
rises_on a b p = ring (a.y ∷ a.d ∷ b.y ∷ b.d ∷ p.y ∷ p.d ∷ []) ((v2 ⊗ v1 ⊖ v0 ⊗ v3) ⊗ v4)
    ((v2 ⊗ v5 ⊖ v4 ⊗ v3) ⊗ v0 ⊕ (v4 ⊗ v1 ⊖ v0 ⊗ v5) ⊗ v2) refl

on_way_up : (a b p : Point) → pos 0 <ℤ a.d → pos 0 <ℤ b.d → pos 0 <ℤ p.d → bend a b p ≡ pos 0
    → (a.y *ℤ p.d) <ℤ (p.y *ℤ a.d) → (p.y *ℤ b.d) <ℤ (b.y *ℤ p.d) → IsOn a b p
on_way_up a b p da db dp e h g =
    let s : pos 0 <ℤ rise p b = gap_of_less (p.y *ℤ b.d) (b.y *ℤ p.d) g in
    let t : pos 0 <ℤ rise a p = gap_of_less (a.y *ℤ p.d) (p.y *ℤ a.d) h in
    record {
      k = rise a b;
      s = rise p b;
      t = rise a p;
      positive = pos_left (rise a b) p.d dp (subst (λ (z : ℤ). pos 0 <ℤ z) (sym (rises a b p))
          (both_positive (rise p b *ℤ a.d) (rise a p *ℤ b.d) (positive_product (rise p b) a.d s da)
          (positive_product (rise a p) b.d t db)));
      first = at_most_of_less (pos 0) (rise p b) s;
      second = at_most_of_less (pos 0) (rise a p) t;
      some = both_positive (rise p b) (rise a p) s t;
      x = sym (equal_of_gap (rise p b *ℤ a.x +ℤ rise a p *ℤ b.x) (rise a b *ℤ p.x) e);
      y = rises_on a b p;
      d = rises a b p;
    }

pub on_by_heights : (a b p : Point) → pos 0 <ℤ a.d → pos 0 <ℤ b.d → pos 0 <ℤ p.d → side_by p a b ≡ pos 0
    → IsBetween (λ q. q.y) a p b → IsOn a b p
on_by_heights a b p da db dp e (inl h) = on_way_up a b p da db dp (zero_factor (bend a b p) a.d da
    (bend_side a b p ∙ e)) h.0 h.1
on_by_heights a b p da db dp e (inr h) =
    on_turned b a p (on_way_up b a p db da dp (bend_turned a b p ∙ ap (λ (z : ℤ). pos 0 -ℤ z)
    (zero_factor (bend a b p) a.d da (bend_side a b p ∙ e))) h.0 h.1)

-- ---- the axes exchanged
abbrev pub exchanged : Point → Point
exchanged p = record { x = p.y; y = p.x; d = p.d }

pub side_exchanged : (a b p : Point) → side_by (exchanged p) (exchanged a) (exchanged b) ≡ pos 0 -ℤ side_by p a b
unfolding side_by
side_exchanged a b p =
    ring (a.x ∷ a.y ∷ a.d ∷ b.x ∷ b.y ∷ b.d ∷ p.x ∷ p.y ∷ p.d ∷ [])
    ((v4 ⊗ v2 ⊖ v1 ⊗ v5) ⊗ (v6 ⊗ v2 ⊖ v0 ⊗ v8) ⊖ (v3 ⊗ v2 ⊖ v0 ⊗ v5)
    ⊗ (v7 ⊗ v2 ⊖ v1 ⊗ v8))
    (num (pos 0) ⊖ ((v3 ⊗ v2 ⊖ v0 ⊗ v5) ⊗ (v7 ⊗ v2 ⊖ v1 ⊗ v8) ⊖ (v4 ⊗ v2 ⊖ v1 ⊗ v5)
    ⊗ (v6 ⊗ v2 ⊖ v0 ⊗ v8))) refl

pub on_exchanged : (a b p : Point) → IsOn (exchanged a) (exchanged b) (exchanged p) → IsOn a b p
on_exchanged a b p h = record {
  k = h.k;
  s = h.s;
  t = h.t;
  positive = h.positive;
  first = h.first;
  second =
      h.second;
  some = h.some;
  x = h.y;
  y = h.x;
  d = h.d;
}

pub on_by_places : (a b p : Point) → pos 0 <ℤ a.d → pos 0 <ℤ b.d → pos 0 <ℤ p.d → side_by p a b ≡ pos 0
    → IsBetween (λ q. q.x) a p b → IsOn a b p
on_by_places a b p da db dp e h =
    on_exchanged a b p (on_by_heights (exchanged a) (exchanged b) (exchanged p) da db dp
    (side_exchanged a b p ∙ ap (λ (z : ℤ). pos 0 -ℤ z) e) h)

pub between_is_on : BetweenIsOn
between_is_on = record { heights = on_by_heights; places = on_by_places }
