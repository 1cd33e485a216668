-- Where an end of one edge is near to the other, or the edges cross, they come near.
use Rattle.std.proofs.Common.{◌≡◌, ◌⊎◌, inl, inr, Bool, true, false, [], ◌∷◌, refl, ap, sym, subst, ◌∙◌, arith, ℤ, pos, ◌+ℤ◌, ◌-ℤ◌, ◌*ℤ◌, ◌<ℤ◌}
use lib.Signed.{◌≤ℤ◌}
use Rattle.std.specs.Prelude.{◌||◌, int_lt, int_le}
use Rattle.std.proofs.lemmas.Int.{ints}
use Rattle.std.proofs.lemmas.Bool.{and_parts}
use Rattle.scad_base.proofs.Tests.{int_lt-true, int_le-true}
use Rattle.scad_base.proofs.Products.{positive_product}
use Rattle.scad_geom.specs.declared.point.Pt.{Pt}
use Rattle.scad_geom.specs.declared.point.Edge.{Edge}
use Rattle.scad_geom.specs.declared.half.Half.TheVariants.{Whole}
use Rattle.scad_geom.specs.Half.{meant}
use Rattle.scad_geom.specs.Point.{Point, whole}
use Rattle.scad_geom.specs.Near.{mean}
use Rattle.scad_geom.proofs.Ring.{ring, num, ◌⊕◌, ◌⊖◌, ◌⊗◌, v0, v1, v2, v3, v4, v5, v6, v7}
use Rattle.winding_laws.specs.Region.{HoldsOrigin}
use Rattle.scad_ring.specs.Octagon.{octagon}
use Rattle.scad_ring.specs.Nearness.{Closed, IsWithinRegion, Meets}
use Rattle.scad_near.specs.Edges.{ComeNear}
use Rattle.scad_near.specs.Tests.{offset, is_parted, crosses}
use Rattle.scad_near.proofs.RegionTurns.{Held, held_nearer, held_mirrored}
use Rattle.scad_near.proofs.Spread.{spread, Way, times_zero}
use Rattle.scad_near.proofs.Apart.{sums_agree, meet_x, meet_y, back_x, back_y}

-- ---- the ends of a segment are among its points
first_part : (x y : ℤ) → pos 2 *ℤ x +ℤ pos 0 *ℤ y ≡ pos 2 *ℤ x
first_part x y = omega (arith, ints)

last_part : (x y : ℤ) → pos 0 *ℤ x +ℤ pos 2 *ℤ y ≡ pos 2 *ℤ y
last_part x y = omega (arith, ints)

start_is : (a b : Pt) → mean (pos 2) (pos 0) (whole a) (whole b) ≡ meant Whole a
start_is a b = rw (first_part a.x b.x, first_part a.y b.y) refl

end_is : (a b : Pt) → mean (pos 0) (pos 2) (whole a) (whole b) ≡ meant Whole b
end_is a b = rw (last_part a.x b.x, last_part a.y b.y) refl

pub near_at_end : (h u : ℤ) (a b c d : Pt)
    → Meets Closed (octagon h u) (meant Whole a) (whole c) (whole d) ⊎ Meets Closed (octagon h u) (meant Whole b) (whole c) (whole d)
    → ComeNear Closed (octagon h u) (whole a) (whole b) (whole c) (whole d)
near_at_end h u a b c d (inl m) = record {
  s = pos 2;
  t = pos 0;
  from = omega (arith, ints);
  to = omega (arith, ints);
  some = omega (arith, ints);
  meets = subst (λ (p : Point). Meets Closed (octagon h u) p (whole c) (whole d)) (sym (start_is a b)) m;
}
near_at_end h u a b c d (inr m) = record {
  s = pos 0;
  t = pos 2;
  from = omega (arith, ints);
  to = omega (arith, ints);
  some = omega (arith, ints);
  meets = subst (λ (p : Point). Meets Closed (octagon h u) p (whole c) (whole d)) (sym (end_is a b)) m;
}

-- ---- the other way round
back_is : (x e y d : ℤ) → pos 0 -ℤ (x *ℤ e -ℤ y *ℤ d) ≡ y *ℤ d -ℤ x *ℤ e
back_is x e y d = omega (arith, ints)

product_back : (d e : ℤ) → d *ℤ e ≡ e *ℤ d
product_back d e = ring (d ∷ e ∷ []) (v0 ⊗ v1) (v1 ⊗ v0) refl

near_back : (h u : ℤ) (q p : Point) → IsWithinRegion Closed (octagon h u) q p → IsWithinRegion Closed (octagon h u) p q
near_back h u q p n =
    subst (λ (x : ℤ). Held (octagon h u) x (q.y *ℤ p.d -ℤ p.y *ℤ q.d) (q.d *ℤ p.d)) (back_is p.x q.d q.x p.d)
    (subst (λ (y : ℤ). Held (octagon h u) (pos 0 -ℤ (p.x *ℤ q.d -ℤ q.x *ℤ p.d)) y (q.d *ℤ p.d)) (back_is p.y q.d q.y p.d)
    (subst (λ (d : ℤ). Held (octagon h u) (pos 0 -ℤ (p.x *ℤ q.d -ℤ q.x *ℤ p.d)) (pos 0 -ℤ (p.y *ℤ q.d -ℤ q.y *ℤ p.d)) d)
    (product_back p.d q.d)
    (held_mirrored h u (p.x *ℤ q.d -ℤ q.x *ℤ p.d) (p.y *ℤ q.d -ℤ q.y *ℤ p.d) (p.d *ℤ q.d) n)))

pub come_near_back : (h u : ℤ) (a b c d : Point) → ComeNear Closed (octagon h u) c d a b
    → ComeNear Closed (octagon h u) a b c d
come_near_back h u a b c d o = record {
  s = o.meets.s;
  t = o.meets.t;
  from = o.meets.from;
  to = o.meets.to;
  some = o.meets.some;
  meets = record {
    s = o.s;
    t = o.t;
    from = o.from;
    to = o.to;
    some = o.some;
    near = near_back h u (mean o.s o.t c d) (mean o.meets.s o.meets.t a b) o.meets.near;
  };
}

-- ---- edges that cross
scaled : (s t k l p q r z : ℤ) → k +ℤ l ≡ s +ℤ t
    → (k *ℤ r +ℤ l *ℤ z) *ℤ (s *ℤ pos 1 +ℤ t *ℤ pos 1) -ℤ (s *ℤ p +ℤ t *ℤ q) *ℤ (k *ℤ pos 1 +ℤ l *ℤ pos 1)
    ≡ (s +ℤ t) *ℤ spread s t k l p q r z
scaled s t k l p q r z e =
    let f : (k *ℤ r +ℤ l *ℤ z) *ℤ (s *ℤ pos 1 +ℤ t *ℤ pos 1) -ℤ (s *ℤ p +ℤ t *ℤ q) *ℤ (k *ℤ pos 1 +ℤ l *ℤ pos 1)
    ≡ (k *ℤ r +ℤ l *ℤ z) *ℤ (s +ℤ t) -ℤ (s *ℤ p +ℤ t *ℤ q) *ℤ (k +ℤ l) = ring (s ∷ t ∷ k ∷ l ∷ p ∷ q ∷ r ∷ z ∷ [])
    ((v2 ⊗ v6 ⊕ v3 ⊗ v7) ⊗ (v0 ⊗ num (pos 1) ⊕ v1 ⊗ num (pos 1)) ⊖ (v0 ⊗ v4 ⊕ v1 ⊗ v5) ⊗
    (v2 ⊗ num (pos 1) ⊕ v3 ⊗ num (pos 1)))
    ((v2 ⊗ v6 ⊕ v3 ⊗ v7) ⊗ (v0 ⊕ v1) ⊖ (v0 ⊗ v4 ⊕ v1 ⊗ v5) ⊗ (v2 ⊕ v3)) refl in
    let g : (s *ℤ p +ℤ t *ℤ q) *ℤ (k +ℤ l) ≡ (s *ℤ p +ℤ t *ℤ q) *ℤ (s +ℤ t) =
    ap (λ (w : ℤ). (s *ℤ p +ℤ t *ℤ q) *ℤ w) e in
    let i : (s +ℤ t) *ℤ spread s t k l p q r z ≡ (k *ℤ r +ℤ l *ℤ z) *ℤ (s +ℤ t) -ℤ (s *ℤ p +ℤ t *ℤ q) *ℤ (s +ℤ t) =
    ring (s ∷ t ∷ k ∷ l ∷ p ∷ q ∷ r ∷ z ∷ []) ((v0 ⊕ v1) ⊗ ((v2 ⊗ v6 ⊕ v3 ⊗ v7) ⊖ (v0 ⊗ v4 ⊕ v1 ⊗ v5)))
    ((v2 ⊗ v6 ⊕ v3 ⊗ v7) ⊗ (v0 ⊕ v1) ⊖ (v0 ⊗ v4 ⊕ v1 ⊗ v5) ⊗ (v0 ⊕ v1)) refl in
    omega (arith, ints, f, g, i)

ones : (s t : ℤ) → s *ℤ pos 1 +ℤ t *ℤ pos 1 ≡ s +ℤ t
ones s t = omega (arith, ints)

module _ (h u : ℤ) (origin : HoldsOrigin (octagon h u)) (a b c d : Pt) where
  met_at : (s t k l : ℤ) → Way a b c d s t k l → pos 0 ≤ℤ s → pos 0 ≤ℤ t → pos 0 ≤ℤ k → pos 0 ≤ℤ l → pos 0 <ℤ (s +ℤ t)
      → ComeNear Closed (octagon h u) (whole a) (whole b) (whole c) (whole d)
  met_at s t k l g hs ht hk hl st =
      let e = g.same in
      let p = positive_product (k *ℤ pos 1 +ℤ l *ℤ pos 1) (s *ℤ pos 1 +ℤ t *ℤ pos 1) (omega (arith, ints, e, st))
      (omega (arith, ints, st)) in
      record {
        s = s;
        t = t;
        from = hs;
        to = ht;
        some = st;
        meets = record {
          s = k;
          t = l;
          from = hk;
          to = hl;
          some = omega (arith, ints, e, st);
          near = subst (λ (x : ℤ). Held (octagon h u) x
              ((k *ℤ c.y +ℤ l *ℤ d.y) *ℤ (s *ℤ pos 1 +ℤ t *ℤ pos 1) -ℤ (s *ℤ a.y +ℤ t *ℤ b.y) *ℤ (k *ℤ pos 1 +ℤ l *ℤ pos 1))
              ((k *ℤ pos 1 +ℤ l *ℤ pos 1) *ℤ (s *ℤ pos 1 +ℤ t *ℤ pos 1)))
              (sym (scaled s t k l a.x b.x c.x d.x (sym e) ∙ times_zero (s +ℤ t) (spread s t k l a.x b.x c.x d.x) g.x))
              (subst (λ (y : ℤ). Held (octagon h u) (pos 0) y ((k *ℤ pos 1 +ℤ l *ℤ pos 1) *ℤ (s *ℤ pos 1 +ℤ t *ℤ pos 1)))
              (sym (scaled s t k l a.y b.y c.y d.y (sym e) ∙ times_zero (s +ℤ t) (spread s t k l a.y b.y c.y d.y) g.y))
              (held_nearer (octagon h u) (pos 0) (pos 0) (pos 1)
              ((k *ℤ pos 1 +ℤ l *ℤ pos 1) *ℤ (s *ℤ pos 1 +ℤ t *ℤ pos 1)) origin (omega (arith, ints, p)) origin));
        };
      }

-- what the tests say
pub record Parted (to start from end : ℤ) : Type 0 where
  pub apart : to <ℤ from
  pub to_most : to ≤ℤ pos 0
  pub start_most : start ≤ℤ pos 0
  pub from_least : pos 0 ≤ℤ from
  pub end_least : pos 0 ≤ℤ end

parted_facts : (to start from end : ℤ) → is_parted to start from end ≡ true → Parted to start from end
unfolding is_parted
parted_facts to start from end h =
    let p = and_parts (int_lt to from) _ h in
    let q = and_parts (int_le to (pos 0)) _ p.1 in
    let r = and_parts (int_le start (pos 0)) _ q.1 in
    let s = and_parts (int_le (pos 0) from) _ r.1 in
    record {
      apart = int_lt-true to from p.0;
      to_most = int_le-true to (pos 0) q.0;
      start_most = int_le-true start (pos 0) r.0;
      from_least = int_le-true (pos 0) from s.0;
      end_least = int_le-true (pos 0) end s.1;
    }

either : (p q : Bool) → (p || q) ≡ true → (p ≡ true) ⊎ (q ≡ true)
either true q h = inl refl
either false q h = inr h

pub near_if_cross : (h u : ℤ) → HoldsOrigin (octagon h u) → (e f : Edge) → crosses e f ≡ true
    → ComeNear Closed (octagon h u) (whole e.a) (whole e.b) (whole f.a) (whole f.b)
unfolding crosses offset
near_if_cross h u origin e f c =
    let sums = sums_agree e.a.x e.a.y e.b.x e.b.y f.a.x f.a.y f.b.x f.b.y in
    elim (either (is_parted (offset f e.b) (offset e f.a) (offset f e.a) (offset e f.b))
    (is_parted (offset f e.a) (offset e f.b) (offset f e.b) (offset e f.a)) c) [
      | inl i ↦
          let p = parted_facts (offset f e.b) (offset e f.a) (offset f e.a) (offset e f.b) i in
          let less = p.apart in
          let to = p.to_most in
          let start = p.start_most in
          met_at h u origin e.a e.b f.a f.b (pos 0 -ℤ offset f e.b) (offset f e.a) (offset e f.b) (pos 0 -ℤ offset e f.a)
          (record {
            same = omega (arith, ints, sums);
            from = omega (arith, ints, less);
            x = meet_x e.a.x e.a.y e.b.x e.b.y f.a.x f.a.y f.b.x f.b.y;
            y = meet_y e.a.x e.a.y e.b.x e.b.y f.a.x f.a.y f.b.x f.b.y;
          }) (omega (arith, ints, to)) p.from_least p.end_least (omega (arith, ints, start)) (omega (arith, ints, less))
      | inr i ↦
          let p = parted_facts (offset f e.a) (offset e f.b) (offset f e.b) (offset e f.a) i in
          let less = p.apart in
          let to = p.to_most in
          let start = p.start_most in
          met_at h u origin e.a e.b f.a f.b (offset f e.b) (pos 0 -ℤ offset f e.a) (pos 0 -ℤ offset e f.b) (offset e f.a)
          (record {
            same = omega (arith, ints, sums);
            from = omega (arith, ints, less);
            x = back_x e.a.x e.a.y e.b.x e.b.y f.a.x f.a.y f.b.x f.b.y;
            y = back_y e.a.x e.a.y e.b.x e.b.y f.a.x f.a.y f.b.x f.b.y;
          }) p.from_least (omega (arith, ints, to)) (omega (arith, ints, start)) p.end_least (omega (arith, ints, less))
    ]
