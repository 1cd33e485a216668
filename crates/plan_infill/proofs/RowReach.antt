-- An edge comes near to a point of a row exactly where it lies beside the row and the point is in its reach.
use Rattle.std.proofs.Common.{◌≡◌, ◌⊎◌, inl, inr, ℕ, Bool, true, false, cond, ◌&&◌, [], ◌∷◌, refl, sym, subst, ◌∙◌, arith, ℤ, pos, neg_ℤ, negsuc, ◌+ℤ◌, ◌-ℤ◌, ◌*ℤ◌, ◌<ℤ◌, List}
use lib.Signed.{◌≤ℤ◌}
use Rattle.std.specs.Prelude.{int_lt, int_le, ◌↔◌}
use Rattle.std.specs.Int.{int_min, int_max}
use Rattle.std.specs.List.{AllByRecursion}
use Rattle.std.proofs.lemmas.Int.{ints}
use Rattle.std.proofs.lemmas.Bool.{and_parts, both_ways}
use Rattle.std.proofs.lemmas.List.Elements.{All-from_recursion}
use Rattle.scad_base.proofs.Products.{positive_product}
use Rattle.scad_geom.specs.declared.point.Pt.{Pt}
use Rattle.scad_geom.specs.declared.point.Edge.{Edge}
use Rattle.scad_geom.specs.Line.{low, high, rise, run, x_at}
use Rattle.scad_geom.specs.Point.{whole}
use Rattle.scad_geom.proofs.Rising.{by_order, order}
use Rattle.scad_geom.proofs.Signs.{pos_left}
use Rattle.scad_geom.proofs.Bounds.{rise_at_least}
use Rattle.scad_geom.proofs.Ring.{ring, num, ◌⊕◌, ◌⊖◌, ◌⊗◌, v0, v1, v2, v3, v4, v5, v6, v7, v8, v9}
use Rattle.scad_ring.specs.Octagon.{slant, reach, octagon, octagon_of}
use Rattle.scad_ring.specs.Nearness.{Open, Bounds, Meets}
use Rattle.scad_ring.specs.Tests.{breadth}
use Rattle.scad_ring.proofs.Convex.{cross}
use Rattle.scad_ring.proofs.EdgeTests.{meets_back}
use Rattle.plan_infill.specs.declared.line.Line.{Line}
use Rattle.plan_infill.specs.declared.line.Line.TheVariants.{Row, Column}
use Rattle.plan_infill.specs.declared.step.Step.{Step}
use Rattle.plan_infill.specs.declared.stretch.Stretch.{Stretch}
use Rattle.plan_infill.specs.Quotient.{IsFloor, IsCeiling}
use Rattle.plan_infill.specs.Reach.{line_reach, is_beside, exchanged, around, IsAround, IsBesideEnds, IsBesideLine, IsInReach, IsReached, AreThose}
use Rattle.plan_infill.specs.Steps.{up_to, ComesNear, IsApart, IsStep, Counts, AreNearSteps}
use Rattle.plan_infill.proofs.Quotients.{after_floor, after_quotient, before_ceiling, before_quotient}
use Rattle.plan_infill.proofs.Turning.{at}
use Rattle.plan_infill.proofs.Steps.{rise_is, x_at_weights}
use Rattle.plan_infill.proofs.Nearer.{LiesWithin, Inside, EndWithin, EndsWithin, IsLess, IsLineWithin, length_of, length_at_least, by_direction, inside_if_passes, passes_if_inside}

-- ---- near, and not near
pub apart_if : (c : ℕ) (line : Line) (z : ℤ) (e : Edge) → (ComesNear c line z e → ⊥) → IsApart c line z e
apart_if c line z e h s t from to some n = h (record { s = s; t = t; from = from; to = to; some = some; near = n })

pub not_near : (c : ℕ) (line : Line) (z : ℤ) (e : Edge) → IsApart c line z e → ComesNear c line z e → ⊥
not_near c line z e k m = k m.s m.t m.from m.to m.some m.near

-- ---- of points
place_is : (n m s t px py rx ry x y : ℤ)
    → n *ℤ ((s *ℤ px +ℤ t *ℤ rx) *ℤ pos 1 -ℤ x *ℤ (s *ℤ pos 1 +ℤ t *ℤ pos 1)) +ℤ m *ℤ
    ((s *ℤ py +ℤ t *ℤ ry) *ℤ pos 1 -ℤ y *ℤ (s *ℤ pos 1 +ℤ t *ℤ pos 1))
    ≡ n *ℤ (s *ℤ (px -ℤ x) +ℤ t *ℤ (rx -ℤ x)) +ℤ m *ℤ (s *ℤ (py -ℤ y) +ℤ t *ℤ (ry -ℤ y))
place_is n m s t px py rx ry x y = ring (n ∷ m ∷ s ∷ t ∷ px ∷ py ∷ rx ∷ ry ∷ x ∷ y ∷ [])
    (v0 ⊗ ((v2 ⊗ v4 ⊕ v3 ⊗ v6) ⊗ num (pos 1) ⊖ v8 ⊗ (v2 ⊗ num (pos 1) ⊕ v3 ⊗ num (pos 1))) ⊕ v1
    ⊗
    ((v2 ⊗ v5 ⊕ v3 ⊗ v7) ⊗ num (pos 1) ⊖ v9 ⊗ (v2 ⊗ num (pos 1) ⊕ v3 ⊗ num (pos 1))))
    (v0 ⊗ (v2 ⊗ (v4 ⊖ v8) ⊕ v3 ⊗ (v6 ⊖ v8)) ⊕ v1 ⊗ (v2 ⊗ (v5 ⊖ v9) ⊕ v3 ⊗ (v7 ⊖ v9))) refl

weight_is : (c s t : ℤ) → c *ℤ ((s *ℤ pos 1 +ℤ t *ℤ pos 1) *ℤ pos 1) ≡ c *ℤ (s +ℤ t)
weight_is c s t = ring (c ∷ s ∷ t ∷ []) (v0 ⊗ ((v1 ⊗ num (pos 1) ⊕ v2 ⊗ num (pos 1)) ⊗ num (pos 1)))
    (v0 ⊗ (v1 ⊕ v2)) refl

module _ (x y : ℤ) (p r : Pt) where
  -- p and r, as the point (x, y) sees them
  abbrev pub InsideFrom : ℤ → ℤ → Type 0
  InsideFrom c u = Inside c u (p.x -ℤ x) (p.y -ℤ y) (r.x -ℤ x) (r.y -ℤ y)

  abbrev Bound : ℤ → ℤ → ℤ → ℤ → ℤ → Type 0
  Bound n m c s t = (n *ℤ ((s *ℤ p.x +ℤ t *ℤ r.x) *ℤ pos 1 -ℤ x *ℤ (s *ℤ pos 1 +ℤ t *ℤ pos 1)) +ℤ
      m *ℤ
      ((s *ℤ p.y +ℤ t *ℤ r.y) *ℤ pos 1 -ℤ y *ℤ (s *ℤ pos 1 +ℤ t *ℤ pos 1))) <ℤ (c *ℤ
      ((s *ℤ pos 1 +ℤ t *ℤ pos 1) *ℤ pos 1))

  abbrev Lies : ℤ → ℤ → ℤ → ℤ → ℤ → Type 0
  Lies n m c s t = LiesWithin n m c s t (p.x -ℤ x) (p.y -ℤ y) (r.x -ℤ x) (r.y -ℤ y)

  bound : (n m c s t : ℤ) → Lies n m c s t → Bound n m c s t
  bound n m c s t l = rw (place_is n m s t p.x p.y r.x r.y x y, weight_is c s t) l

  lies : (n m c s t : ℤ) → Bound n m c s t → Lies n m c s t
  lies n m c s t b =
      let e = place_is n m s t p.x p.y r.x r.y x y in
      let w = weight_is c s t in
      omega (arith, ints, b, e, w)

  comes_if_inside : (c u : ℤ) → InsideFrom c u → Meets Open (octagon c u) (whole (at x y)) (whole p) (whole r)
  comes_if_inside c u a = record {
    s = a.s;
    t = a.t;
    from = a.from;
    to = a.to;
    some = a.some;
    near = (
      bound (pos 1) (pos 0) c a.s a.t a.right,
      (
        bound (neg_ℤ (pos 1)) (pos 0) c a.s a.t a.left,
        (
          bound (pos 0) (pos 1) c a.s a.t a.over,
          (
            bound (pos 0) (neg_ℤ (pos 1)) c a.s a.t a.below,
            (
              bound (pos 1) (pos 1) u a.s a.t a.over_right,
              (
                bound (pos 1) (neg_ℤ (pos 1)) u a.s a.t a.below_right,
                (
                  bound (neg_ℤ (pos 1)) (pos 1) u a.s a.t a.over_left,
                  (bound (neg_ℤ (pos 1)) (neg_ℤ (pos 1)) u a.s a.t a.below_left, tt),
                ),
              ),
            ),
          ),
        ),
      ),
    );
  }

  inside_if_comes : (c u : ℤ) → Meets Open (octagon c u) (whole (at x y)) (whole p) (whole r) → InsideFrom c u
  inside_if_comes c u f = record {
    s = f.s;
    t = f.t;
    from = f.from;
    to = f.to;
    some = f.some;
    right = lies (pos 1) (pos 0) c f.s f.t f.near.0;
    left = lies (neg_ℤ (pos 1)) (pos 0) c f.s f.t f.near.1.0;
    over = lies (pos 0) (pos 1) c f.s f.t f.near.1.1.0;
    below = lies (pos 0) (neg_ℤ (pos 1)) c f.s f.t f.near.1.1.1.0;
    over_right = lies (pos 1) (pos 1) u f.s f.t f.near.1.1.1.1.0;
    below_right = lies (pos 1) (neg_ℤ (pos 1)) u f.s f.t f.near.1.1.1.1.1.0;
    over_left = lies (neg_ℤ (pos 1)) (pos 1) u f.s f.t f.near.1.1.1.1.1.1.0;
    below_left = lies (neg_ℤ (pos 1)) (neg_ℤ (pos 1)) u f.s f.t f.near.1.1.1.1.1.1.1.0;
  }

-- from the lower end of an edge to the upper one
abbrev FromEnds : ℕ → ℤ → ℤ → Pt → Pt → Type 0
FromEnds c x y p r = Meets Open (octagon_of c) (whole (at x y)) (whole p) (whole r)

of_ends : (c : ℕ) (x y : ℤ) (e : Edge) → FromEnds c x y (low e) (high e) → FromEnds c x y e.a e.b
unfolding low high
of_ends c x y e = by_test (int_lt e.b.y e.a.y)
  where
    by_test : (t : Bool) → FromEnds c x y (cond t e.b e.a) (cond t e.a e.b) → FromEnds c x y e.a e.b
    by_test true f = meets_back Open (octagon_of c) (whole (at x y)) (whole e.b) (whole e.a) f
    by_test false f = f

to_ends : (c : ℕ) (x y : ℤ) (e : Edge) → FromEnds c x y e.a e.b → FromEnds c x y (low e) (high e)
unfolding low high
to_ends c x y e f = by_test (int_lt e.b.y e.a.y)
  where
    by_test : (t : Bool) → FromEnds c x y (cond t e.b e.a) (cond t e.a e.b)
    by_test true = meets_back Open (octagon_of c) (whole (at x y)) (whole e.a) (whole e.b) f
    by_test false = f

-- ---- the least and the greatest of two
min_first : (a b : ℤ) → a ≤ℤ b → int_min a b ≡ a
min_first a b o = let t : int_lt b a ≡ false = sym (omega (arith, ints, o)) in rw t refl

max_last : (a b : ℤ) → a ≤ℤ b → int_max a b ≡ b
max_last a b o = let t : int_lt b a ≡ false = sym (omega (arith, ints, o)) in rw t refl

min_last : (a b : ℤ) → b <ℤ a → int_min a b ≡ b
min_last a b o = let t : int_lt b a ≡ true = sym (omega (arith, ints, o)) in rw t refl

max_first : (a b : ℤ) → b <ℤ a → int_max a b ≡ a
max_first a b o = let t : int_lt b a ≡ true = sym (omega (arith, ints, o)) in rw t refl

least_end : (w a b z : ℤ) → (int_min a b -ℤ w) <ℤ z → ((a -ℤ z) <ℤ w) ⊎ ((b -ℤ z) <ℤ w)
least_end w a b z h = by_order (order a b)
    (λ o. let m = min_first a b o in inl (omega (arith, ints, h, m)))
    (λ o. let m = min_last a b o in inr (omega (arith, ints, h, m)))

most_end : (w a b z : ℤ) → z <ℤ (int_max a b +ℤ w) → ((z -ℤ a) <ℤ w) ⊎ ((z -ℤ b) <ℤ w)
most_end w a b z h = by_order (order a b)
    (λ o. let m = max_last a b o in inr (omega (arith, ints, h, m)))
    (λ o. let m = max_first a b o in inl (omega (arith, ints, h, m)))

end_least : (w a b z : ℤ) → ((a -ℤ z) <ℤ w) ⊎ ((b -ℤ z) <ℤ w) → (int_min a b -ℤ w) <ℤ z
end_least w a b z h = by_order (order a b)
    (λ o. let m = min_first a b o in by_order h (λ l. omega (arith, ints, l, m)) (λ l. omega (arith, ints, l, m, o)))
    (λ o. let m = min_last a b o in by_order h (λ l. omega (arith, ints, l, m, o)) (λ l. omega (arith, ints, l, m)))

end_most : (w a b z : ℤ) → ((z -ℤ a) <ℤ w) ⊎ ((z -ℤ b) <ℤ w) → z <ℤ (int_max a b +ℤ w)
end_most w a b z h = by_order (order a b)
    (λ o. let m = max_last a b o in by_order h (λ l. omega (arith, ints, l, m, o)) (λ l. omega (arith, ints, l, m)))
    (λ o. let m = max_first a b o in by_order h (λ l. omega (arith, ints, l, m)) (λ l. omega (arith, ints, l, m, o)))

-- what a half plane says of an end, by the value that it bounds
end_by : (n m w ax ay bx by a b : ℤ) → n *ℤ ax +ℤ m *ℤ ay ≡ a → n *ℤ bx +ℤ m *ℤ by ≡ b
    → (a <ℤ w) ⊎ (b <ℤ w) → EndWithin n m w ax ay bx by
end_by n m w ax ay bx by a b e f (inl h) = inl (omega (arith, ints, h, e))
end_by n m w ax ay bx by a b e f (inr h) = inr (omega (arith, ints, h, f))

by_end : (n m w ax ay bx by a b : ℤ) → n *ℤ ax +ℤ m *ℤ ay ≡ a → n *ℤ bx +ℤ m *ℤ by ≡ b
    → EndWithin n m w ax ay bx by → (a <ℤ w) ⊎ (b <ℤ w)
by_end n m w ax ay bx by a b e f (inl h) = inl (omega (arith, ints, h, e))
by_end n m w ax ay bx by a b e f (inr h) = inr (omega (arith, ints, h, f))

-- ---- the line of an edge, as a point sees it
cross_identity : (x y px py rx ry : ℤ) → (px -ℤ x) *ℤ (ry -ℤ y) -ℤ (py -ℤ y) *ℤ (rx -ℤ x)
    ≡ (px *ℤ (ry -ℤ y) +ℤ rx *ℤ (y -ℤ py)) -ℤ x *ℤ (ry -ℤ py)
cross_identity x y px py rx ry = ring (x ∷ y ∷ px ∷ py ∷ rx ∷ ry ∷ [])
    ((v2 ⊖ v0) ⊗ (v5 ⊖ v1) ⊖ (v3 ⊖ v1) ⊗ (v4 ⊖ v0))
    ((v2 ⊗ (v5 ⊖ v1) ⊕ v4 ⊗ (v1 ⊖ v3)) ⊖ v0 ⊗ (v5 ⊖ v3)) refl

cross_is : (x y : ℤ) (e : Edge)
    → cross ((low e).x -ℤ x) ((low e).y -ℤ y) ((high e).x -ℤ x) ((high e).y -ℤ y)
    ≡ x_at e y (pos 1) -ℤ x *ℤ rise e
unfolding rise
cross_is x y e =
    let w = x_at_weights e y in cross_identity x y (low e).x (low e).y (high e).x (high e).y ∙ rw w refl

run_is : (e : Edge) → run e ≡ (high e).x -ℤ (low e).x
unfolding run
run_is e = refl

-- a flat way lies within the corners' reach where its height does
flat_line : (c t x h : ℤ) → h <ℤ c → (pos 0 -ℤ c) <ℤ h → pos 0 <ℤ length_of x (pos 0)
    → IsLess (breadth c t x (pos 0)) (pos 0 -ℤ h *ℤ x)
flat_line c t x h over under long = by_order (order (pos 0) x)
    (λ o.
    let p : int_le (pos 0) x ≡ true = sym (omega (arith, ints, o)) in
    let l : length_of x (pos 0) ≡ pos 1 *ℤ x +ℤ pos 0 *ℤ pos 0 = by_direction (pos 1) (pos 0) x (pos 0) true
    (int_le (x +ℤ pos 0) (pos 0)) (int_le (pos 0) x) p refl refl in
    let b : breadth c t x (pos 0) ≡ c *ℤ x +ℤ t *ℤ pos 0 = by_direction c t x (pos 0) true
    (int_le (x +ℤ pos 0) (pos 0)) (int_le (pos 0) x) p refl refl in
    let some : pos 0 <ℤ x = omega (arith, ints, long, l) in
    let m = positive_product (c -ℤ h) x (omega (arith, ints, over)) some in
    let n = positive_product (c +ℤ h) x (omega (arith, ints, under)) some in
    let e = right_less c t h x in
    let g = right_more c t h x in
    record { from = omega (arith, ints, b, m, e); to = omega (arith, ints, b, n, g) })
    (λ o.
    let p : int_le (pos 0) x ≡ false = sym (omega (arith, ints, o)) in
    let q : int_le (x +ℤ pos 0) (pos 0) ≡ true = sym (omega (arith, ints, o)) in
    let b : breadth c t x (pos 0) ≡ t *ℤ pos 0 -ℤ c *ℤ x = by_direction c t x (pos 0) false true (int_le (pos 0) x) p q
    refl in
    let some : pos 0 <ℤ (pos 0 -ℤ x) = omega (arith, ints, o) in
    let m = positive_product (c -ℤ h) (pos 0 -ℤ x) (omega (arith, ints, over)) some in
    let n = positive_product (c +ℤ h) (pos 0 -ℤ x) (omega (arith, ints, under)) some in
    let e = left_less c t h x in
    let g = left_more c t h x in
    record { from = omega (arith, ints, b, n, g); to = omega (arith, ints, b, m, e) })
  where
    right_less : (c t h x : ℤ) → (c -ℤ h) *ℤ x ≡ (c *ℤ x +ℤ t *ℤ pos 0) -ℤ h *ℤ x
    right_less c t h x = ring (c ∷ t ∷ h ∷ x ∷ []) ((v0 ⊖ v2) ⊗ v3)
        ((v0 ⊗ v3 ⊕ v1 ⊗ num (pos 0)) ⊖ v2 ⊗ v3) refl

    right_more : (c t h x : ℤ) → (c +ℤ h) *ℤ x ≡ (c *ℤ x +ℤ t *ℤ pos 0) +ℤ h *ℤ x
    right_more c t h x = ring (c ∷ t ∷ h ∷ x ∷ []) ((v0 ⊕ v2) ⊗ v3)
        ((v0 ⊗ v3 ⊕ v1 ⊗ num (pos 0)) ⊕ v2 ⊗ v3) refl

    left_less : (c t h x : ℤ) → (c -ℤ h) *ℤ (pos 0 -ℤ x) ≡ (t *ℤ pos 0 -ℤ c *ℤ x) +ℤ h *ℤ x
    left_less c t h x = ring (c ∷ t ∷ h ∷ x ∷ []) ((v0 ⊖ v2) ⊗ (num (pos 0) ⊖ v3))
        ((v1 ⊗ num (pos 0) ⊖ v0 ⊗ v3) ⊕ v2 ⊗ v3) refl

    left_more : (c t h x : ℤ) → (c +ℤ h) *ℤ (pos 0 -ℤ x) ≡ (t *ℤ pos 0 -ℤ c *ℤ x) -ℤ h *ℤ x
    left_more c t h x = ring (c ∷ t ∷ h ∷ x ∷ []) ((v0 ⊕ v2) ⊗ (num (pos 0) ⊖ v3))
        ((v1 ⊗ num (pos 0) ⊖ v0 ⊗ v3) ⊖ v2 ⊗ v3) refl

-- ---- of an edge beside a row
-- what being beside says
record Beside (c : ℕ) (y : ℤ) (e : Edge) : Type 0 where
  some : pos 0 <ℤ pos c
  below : ((low e).y -ℤ y) <ℤ pos c
  over : (pos 0 -ℤ pos c) <ℤ ((high e).y -ℤ y)

beside : (c : ℕ) (y : ℤ) (e : Edge) → is_beside c y e ≡ true → Beside c y e
beside c y e h =
    let p = and_parts (int_lt (pos 0) (pos c)) (int_lt ((low e).y -ℤ y) (pos c) && int_lt (y -ℤ (high e).y) (pos c)) h in
    let q = and_parts (int_lt ((low e).y -ℤ y) (pos c)) (int_lt (y -ℤ (high e).y) (pos c)) p.1 in
    let a = p.0 in
    let b = q.0 in
    let d = q.1 in
    record { some = omega (arith, ints, a); below = omega (arith, ints, b); over = omega (arith, ints, d) }

is_so : (c : ℕ) (y : ℤ) (e : Edge) → Beside c y e → is_beside c y e ≡ true
is_so c y e b =
    let s = b.some in
    let l = b.below in
    let o = b.over in
    let p : int_lt (pos 0) (pos c) ≡ true = sym (omega (arith, ints, s)) in
    let q : int_lt ((low e).y -ℤ y) (pos c) ≡ true = sym (omega (arith, ints, l)) in
    let r : int_lt (y -ℤ (high e).y) (pos c) ≡ true = sym (omega (arith, ints, o)) in
    rw (p, q, r) refl

-- of the numbers of an octagon
thin : (c : ℕ) → pos 0 <ℤ pos c → pos (reach c) <ℤ (pos 2 *ℤ pos c)
thin c h = omega (arith, ints, h)

wide : (c : ℕ) → pos c ≤ℤ pos (reach c)
wide c = omega (arith, ints)

slant_is : (c : ℕ) → pos (reach c) -ℤ pos c ≡ pos (slant c)
slant_is c = omega (arith, ints)

module _ (c : ℕ) (x y : ℤ) (e : Edge) where
  abbrev ax : ℤ
  ax = (low e).x -ℤ x

  abbrev ay : ℤ
  ay = (low e).y -ℤ y

  abbrev bx : ℤ
  bx = (high e).x -ℤ x

  abbrev by : ℤ
  by = (high e).y -ℤ y

  up : pos 0 ≤ℤ (by -ℤ ay)
  up = let g = rise_at_least e in let t = rise_is e in omega (arith, ints, g, t)

  across_is : bx -ℤ ax ≡ run e
  across_is = let r = run_is e in omega (arith, ints, r)

  along_is : by -ℤ ay ≡ rise e
  along_is = let t = rise_is e in omega (arith, ints, t)

  -- ---- the tests from the reach
  ends_if : Beside c y e → IsBesideEnds c y e x → EndsWithin (pos c) (pos (reach c)) ax ay bx by
  ends_if b i =
      let l = b.below in
      let o = b.over in
      record {
        right = end_by (pos 1) (pos 0) (pos c) ax ay bx by ((low e).x -ℤ x) ((high e).x -ℤ x) (omega (arith, ints))
            (omega (arith, ints)) (least_end (pos c) (low e).x (high e).x x i.across.from);
        left = end_by (neg_ℤ (pos 1)) (pos 0) (pos c) ax ay bx by (x -ℤ (low e).x) (x -ℤ (high e).x)
            (omega (arith, ints)) (omega (arith, ints)) (most_end (pos c) (low e).x (high e).x x i.across.to);
        over = inl (omega (arith, ints, l));
        below = inr (omega (arith, ints, o));
        over_right = end_by (pos 1) (pos 1) (pos (reach c)) ax ay bx by (((low e).x +ℤ (low e).y) -ℤ (x +ℤ y))
            (((high e).x +ℤ (high e).y) -ℤ (x +ℤ y)) (omega (arith, ints)) (omega (arith, ints))
            (least_end (pos (reach c)) ((low e).x +ℤ (low e).y) ((high e).x +ℤ (high e).y) (x +ℤ y) i.sum.from);
        below_right = end_by (pos 1) (neg_ℤ (pos 1)) (pos (reach c)) ax ay bx by
            (((low e).x -ℤ (low e).y) -ℤ (x -ℤ y)) (((high e).x -ℤ (high e).y) -ℤ (x -ℤ y))
            (omega (arith, ints))
            (omega (arith, ints))
            (least_end (pos (reach c)) ((low e).x -ℤ (low e).y) ((high e).x -ℤ (high e).y) (x -ℤ y)
            i.difference.from);
        over_left = end_by (neg_ℤ (pos 1)) (pos 1) (pos (reach c)) ax ay bx by
            ((x -ℤ y) -ℤ ((low e).x -ℤ (low e).y)) ((x -ℤ y) -ℤ ((high e).x -ℤ (high e).y))
            (omega (arith, ints))
            (omega (arith, ints))
            (most_end (pos (reach c)) ((low e).x -ℤ (low e).y) ((high e).x -ℤ (high e).y) (x -ℤ y)
            i.difference.to);
        below_left = end_by (neg_ℤ (pos 1)) (neg_ℤ (pos 1)) (pos (reach c)) ax ay bx by
            ((x +ℤ y) -ℤ ((low e).x +ℤ (low e).y)) ((x +ℤ y) -ℤ ((high e).x +ℤ (high e).y))
            (omega (arith, ints))
            (omega (arith, ints))
            (most_end (pos (reach c)) ((low e).x +ℤ (low e).y) ((high e).x +ℤ (high e).y) (x +ℤ y) i.sum.to);
      }

  line_if : Beside c y e → IsInReach c y e x → IsLineWithin (pos c) (pos (reach c)) ax ay bx by
  line_if b i long = elim (order (rise e) (pos 0)) [
    | inl flat ↦
        let g = rise_at_least e in
        let t = rise_is e in
        let l = b.below in
        let o = b.over in
        let same : ay ≡ by = omega (arith, ints, flat, g, t) in
        let level : by -ℤ ay ≡ pos 0 = omega (arith, ints, same) in
        let d = flat_line (pos c) (pos (reach c) -ℤ pos c) (bx -ℤ ax) ay l (omega (arith, ints, o, same))
        (subst (λ (z : ℤ). pos 0 <ℤ length_of (bx -ℤ ax) z) level long) in
        let k : cross ax ay bx by ≡ pos 0 -ℤ ay *ℤ (bx -ℤ ax) = flat_cross ax ay bx by same in
        rw (level, k) d
    | inr o ↦
        let d = i.line o in
        let f = d.from in
        let t = d.to in
        let k = cross_is x y e in
        let w : breadth (pos c) (pos (reach c) -ℤ pos c) (bx -ℤ ax) (by -ℤ ay) ≡ line_reach c e = rw (
          slant_is c,
          across_is,
          along_is,
        ) refl in
        record { from = omega (arith, ints, t, k, w); to = omega (arith, ints, f, k, w) }
  ]
    where
      flat_cross : (ax ay bx by : ℤ) → ay ≡ by → cross ax ay bx by ≡ pos 0 -ℤ ay *ℤ (bx -ℤ ax)
      flat_cross ax ay bx by s = subst (λ (z : ℤ). cross ax ay bx z ≡ pos 0 -ℤ ay *ℤ (bx -ℤ ax)) s
          (ring (ax ∷ ay ∷ bx ∷ []) (v0 ⊗ v1 ⊖ v1 ⊗ v2) (num (pos 0) ⊖ v1 ⊗ (v2 ⊖ v0)) refl)

  -- ---- the reach from the tests
  ends_from : EndsWithin (pos c) (pos (reach c)) ax ay bx by → IsBesideEnds c y e x
  ends_from w = record {
    across = record {
      from = end_least (pos c) (low e).x (high e).x x
          (by_end (pos 1) (pos 0) (pos c) ax ay bx by ((low e).x -ℤ x) ((high e).x -ℤ x) (omega (arith, ints))
          (omega (arith, ints)) w.right);
      to = end_most (pos c) (low e).x (high e).x x
          (by_end (neg_ℤ (pos 1)) (pos 0) (pos c) ax ay bx by (x -ℤ (low e).x) (x -ℤ (high e).x)
          (omega (arith, ints))
          (omega (arith, ints)) w.left);
    };
    sum = record {
      from = end_least (pos (reach c)) ((low e).x +ℤ (low e).y) ((high e).x +ℤ (high e).y) (x +ℤ y)
          (by_end (pos 1) (pos 1) (pos (reach c)) ax ay bx by (((low e).x +ℤ (low e).y) -ℤ (x +ℤ y))
          (((high e).x +ℤ (high e).y) -ℤ (x +ℤ y)) (omega (arith, ints)) (omega (arith, ints)) w.over_right);
      to = end_most (pos (reach c)) ((low e).x +ℤ (low e).y) ((high e).x +ℤ (high e).y) (x +ℤ y)
          (by_end (neg_ℤ (pos 1)) (neg_ℤ (pos 1)) (pos (reach c)) ax ay bx by
          ((x +ℤ y) -ℤ ((low e).x +ℤ (low e).y)) ((x +ℤ y) -ℤ ((high e).x +ℤ (high e).y))
          (omega (arith, ints))
          (omega (arith, ints)) w.below_left);
    };
    difference = record {
      from = end_least (pos (reach c)) ((low e).x -ℤ (low e).y) ((high e).x -ℤ (high e).y) (x -ℤ y)
          (by_end (pos 1) (neg_ℤ (pos 1)) (pos (reach c)) ax ay bx by (((low e).x -ℤ (low e).y) -ℤ (x -ℤ y))
          (((high e).x -ℤ (high e).y) -ℤ (x -ℤ y)) (omega (arith, ints)) (omega (arith, ints)) w.below_right);
      to = end_most (pos (reach c)) ((low e).x -ℤ (low e).y) ((high e).x -ℤ (high e).y) (x -ℤ y)
          (by_end (neg_ℤ (pos 1)) (pos 1) (pos (reach c)) ax ay bx by ((x -ℤ y) -ℤ ((low e).x -ℤ (low e).y))
          ((x -ℤ y) -ℤ ((high e).x -ℤ (high e).y)) (omega (arith, ints)) (omega (arith, ints)) w.over_left);
    };
  }

  beside_from : pos 0 <ℤ pos c → EndsWithin (pos c) (pos (reach c)) ax ay bx by → Beside c y e
  beside_from some w =
      let u = up in
      record {
        some = some;
        below = elim w.over [ inl h ↦ omega (arith, ints, h) | inr h ↦ omega (arith, ints, h, u) ];
        over = elim w.below [ inl h ↦ omega (arith, ints, h, u) | inr h ↦ omega (arith, ints, h) ];
      }

  line_from : IsLineWithin (pos c) (pos (reach c)) ax ay bx by → pos 0 <ℤ rise e → IsBesideLine c y e x
  line_from l o =
      let t = rise_is e in
      let long = (length_at_least (bx -ℤ ax) (by -ℤ ay) up).0 in
      let d = l (omega (arith, ints, o, long, t)) in
      let f = d.from in
      let g = d.to in
      let k = cross_is x y e in
      let w : breadth (pos c) (pos (reach c) -ℤ pos c) (bx -ℤ ax) (by -ℤ ay) ≡ line_reach c e = rw (
        slant_is c,
        across_is,
        along_is,
      ) refl in
      record { from = omega (arith, ints, g, k, w); to = omega (arith, ints, f, k, w) }

-- a width within which something lies is above 0
some_width : (c : ℕ) (u ax ay bx by : ℤ) → Inside (pos c) u ax ay bx by → pos 0 <ℤ pos c
some_width c u ax ay bx by f =
    let r = f.right in
    let l = f.left in
    pos_left (pos c) (f.s +ℤ f.t) f.some (omega (arith, ints, r, l))

pub record Told (c : ℕ) (x y : ℤ) (e : Edge) : Type 0 where
  pub beside : is_beside c y e ≡ true
  pub reach : IsInReach c y e x

-- ---- the steps
pub comes : (c : ℕ) (x y : ℤ) (e : Edge) → is_beside c y e ≡ true → IsInReach c y e x
    → ComesNear c (Row y) x e
comes c x y e h i =
    let b = beside c y e h in
    of_ends c x y e (comes_if_inside x y (low e) (high e) (pos c) (pos (reach c))
    (inside_if_passes (pos c) (pos (reach c)) ((low e).x -ℤ x) ((low e).y -ℤ y) ((high e).x -ℤ x)
    ((high e).y -ℤ y)
    (thin c b.some) (wide c) b.some (up c x y e) (ends_if c x y e b i.ends) (line_if c x y e b i)))

pub told : (c : ℕ) (x y : ℤ) (e : Edge) → ComesNear c (Row y) x e → Told c x y e
told c x y e f =
    let i = inside_if_comes x y (low e) (high e) (pos c) (pos (reach c)) (to_ends c x y e f) in
    let some = some_width c (pos (reach c)) ((low e).x -ℤ x) ((low e).y -ℤ y) ((high e).x -ℤ x) ((high e).y -ℤ y) i in
    let p = passes_if_inside (pos c) (pos (reach c)) ((low e).x -ℤ x) ((low e).y -ℤ y) ((high e).x -ℤ x)
    ((high e).y -ℤ y) (thin c some) (wide c) some (up c x y e) i in
    record {
      beside = is_so c y e (beside_from c x y e some p.0);
      reach = record { ends = ends_from c x y e p.0; line = line_from c x y e p.1 };
    }

pub near_steps : (c : ℕ) (y : ℤ) (e : Edge) (s : Stretch) (steps : List Step) → is_beside c y e ≡ true
    → IsReached c y e s → Counts s steps → AreNearSteps c (Row y) e steps
near_steps c y e s steps h r k =
    record { give = λ x. give x (order s.from x) (order s.until x); each = k.each; other = k.other }
  where
    out : (x : ℤ) → ((s.from ≤ℤ x) × (x <ℤ s.until) → ⊥)
        → ((up_to (λ t. t.near) x steps ≡ pos 0) × IsApart c (Row y) x e)
    out x n = (k.outside x n, apart_if c (Row y) x e (λ f. n ((r x).1 (told c x y e f).reach)))

    give : (x : ℤ) → (s.from ≤ℤ x) ⊎ (x <ℤ s.from) → (s.until ≤ℤ x) ⊎ (x <ℤ s.until)
        → ((up_to (λ t. t.near) x steps ≡ pos 1) × ComesNear c (Row y) x e)
        ⊎ ((up_to (λ t. t.near) x steps ≡ pos 0) × IsApart c (Row y) x e)
    give x (inl a) (inr b) = inl (k.inside x a b, comes c x y e h ((r x).0 (a, b)))
    give x (inl a) (inl b) = inr (out x (λ p. let q = p.1 in omega (arith, ints, b, q)))
    give x (inr a) b = inr (out x (λ p. let q = p.0 in omega (arith, ints, a, q)))

pub no_near_steps : (c : ℕ) (y : ℤ) (e : Edge) → is_beside c y e ≡ false → AreNearSteps c (Row y) e []
no_near_steps c y e h = record {
  give = λ x. inr (refl, apart_if c (Row y) x e (λ f. both_ways _ h ((told c x y e f).beside)));
  each = All-from_recursion IsStep [] tt;
  other = All-from_recursion (λ t. t.turns ≡ pos 0) [] tt;
}

-- a column is a row of the plane with x and y exchanged
swapped : (n m x y w : ℤ) → (n *ℤ x +ℤ m *ℤ y) <ℤ w → (m *ℤ y +ℤ n *ℤ x) <ℤ w
swapped n m x y w h = omega (arith, ints, h)

exchange_near : (c u x y d : ℤ) → AllByRecursion (Bounds Open (record { x = x; y = y; d = d })) (octagon c u)
    → AllByRecursion (Bounds Open (record { x = y; y = x; d = d })) (octagon c u)
exchange_near c u x y d h = (
  swapped (pos 0) (pos 1) x y (c *ℤ d) h.1.1.0,
  (
    swapped (pos 0) (neg_ℤ (pos 1)) x y (c *ℤ d) h.1.1.1.0,
    (
      swapped (pos 1) (pos 0) x y (c *ℤ d) h.0,
      (
        swapped (neg_ℤ (pos 1)) (pos 0) x y (c *ℤ d) h.1.0,
        (
          swapped (pos 1) (pos 1) x y (u *ℤ d) h.1.1.1.1.0,
          (
            swapped (neg_ℤ (pos 1)) (pos 1) x y (u *ℤ d) h.1.1.1.1.1.1.0,
            (
              swapped (pos 1) (neg_ℤ (pos 1)) x y (u *ℤ d) h.1.1.1.1.1.0,
              (swapped (neg_ℤ (pos 1)) (neg_ℤ (pos 1)) x y (u *ℤ d) h.1.1.1.1.1.1.1.0, tt),
            ),
          ),
        ),
      ),
    ),
  ),
)

-- a mean of a and b as z sees it, and its divisor
abbrev axis : ℤ → ℤ → ℤ → ℤ → ℤ → ℤ
axis s t a b z = (s *ℤ a +ℤ t *ℤ b) *ℤ pos 1 -ℤ z *ℤ (s *ℤ pos 1 +ℤ t *ℤ pos 1)

abbrev divisor : ℤ → ℤ → ℤ
divisor s t = (s *ℤ pos 1 +ℤ t *ℤ pos 1) *ℤ pos 1

pub exchange : (c : ℕ) (x z : ℤ) (e : Edge) → ComesNear c (Row x) z (exchanged e) → ComesNear c (Column x) z e
exchange c x z e f = record {
  s = f.s;
  t = f.t;
  from = f.from;
  to = f.to;
  some = f.some;
  near = exchange_near (pos c) (pos (reach c)) (axis f.s f.t e.a.y e.b.y z) (axis f.s f.t e.a.x e.b.x x)
      (divisor f.s f.t) f.near;
}

pub exchange_back : (c : ℕ) (x z : ℤ) (e : Edge) → ComesNear c (Column x) z e
    → ComesNear c (Row x) z (exchanged e)
exchange_back c x z e f = record {
  s = f.s;
  t = f.t;
  from = f.from;
  to = f.to;
  some = f.some;
  near = exchange_near (pos c) (pos (reach c)) (axis f.s f.t e.a.x e.b.x x) (axis f.s f.t e.a.y e.b.y z)
      (divisor f.s f.t) f.near;
}

pub exchanged_steps : (c : ℕ) (x : ℤ) (e : Edge) (steps : List Step) → AreNearSteps c (Row x) (exchanged e) steps
    → AreNearSteps c (Column x) e steps
exchanged_steps c x e steps k = record {
  give = λ z. elim (k.give z) [
    | inl p ↦ inl (p.0, exchange c x z e p.1)
    | inr p ↦ inr (
      p.0,
      apart_if c (Column x) z e
          (λ f. not_near c (Row x) z (exchanged e) p.1 (exchange_back c x z e f)),
    )
  ];
  each = k.each;
  other = k.other;
}

-- ---- the stretch in reach
pub line_reached : (n m d f u x : ℤ) → pos 0 <ℤ d → IsFloor n d f → IsCeiling m d u
    → (((f +ℤ pos 1) ≤ℤ x) × (x <ℤ u)) ↔ ((n <ℤ (x *ℤ d)) × ((x *ℤ d) <ℤ m))
line_reached n m d f u x h k l = (
  (λ p. (after_floor n d f x h k p.0, before_ceiling m d u x h l p.1)),
  (λ p. (after_quotient n d f x h k p.0, before_quotient m d u x h l p.1)),
)

pub line_those : (c : ℕ) (y : ℤ) (e : Edge) (f u : ℤ) → pos 0 <ℤ rise e
    → IsFloor (x_at e y (pos 1) -ℤ line_reach c e) (rise e) f
    → IsCeiling (x_at e y (pos 1) +ℤ line_reach c e) (rise e) u
    → AreThose (IsBesideLine c y e) (record { from = f +ℤ pos 1; until = u })
line_those c y e f u h k l x =
    let w = line_reached (x_at e y (pos 1) -ℤ line_reach c e) (x_at e y (pos 1) +ℤ line_reach c e) (rise e) f u x h k l in (
      (λ p. let q = w.0 p in record { from = q.0; to = q.1 }),
      (λ i. w.1 (i.from, i.to)),
    )

-- a place moved on by a way
pub around_those : (w a b way : ℤ) → AreThose (λ x. IsAround w a b (x +ℤ way)) (around w a b way)
around_those w a b way x = (
  (λ p. let l = p.0 in let r = p.1 in record { from = omega (arith, ints, l); to = omega (arith, ints, r) }),
  (λ i. let f = i.from in let t = i.to in (omega (arith, ints, f), omega (arith, ints, t))),
)

-- what lies in two stretches
pub both_those : (P Q : ℤ → Type 0) (s r b : Stretch) → AreThose P s → AreThose Q r
    → b.from ≡ int_max s.from r.from → b.until ≡ int_min s.until r.until → AreThose (λ x. P x × Q x) b
both_those P Q s r b h k p q x = (
  (λ i.
      let f = max_at_most _ _ _ _ p i.0 in
      let t = min_above _ _ _ _ q i.1 in ((h x).0 (f.0, t.0), (k x).0 (f.1, t.1))),
  (λ i.
      let f = (h x).1 i.0 in
      let t = (k x).1 i.1 in (at_most_max _ _ _ _ p f.0 t.0, above_min _ _ _ _ q f.1 t.1)),
)
  where
    max_at_most : (a b r x : ℤ) → r ≡ int_max a b → r ≤ℤ x → (a ≤ℤ x) × (b ≤ℤ x)
    max_at_most a b r x e h = by_order (order a b)
        (λ o. let m = e ∙ max_last a b o in (omega (arith, ints, m, h, o), omega (arith, ints, m, h)))
        (λ o. let m = e ∙ max_first a b o in (omega (arith, ints, m, h), omega (arith, ints, m, h, o)))

    at_most_max : (a b r x : ℤ) → r ≡ int_max a b → a ≤ℤ x → b ≤ℤ x → r ≤ℤ x
    at_most_max a b r x e h k = by_order (order a b) (λ o. let m = e ∙ max_last a b o in omega (arith, ints, m, k)) (λ o. let m = e ∙ max_first a b o in omega (arith, ints, m, h))

    min_above : (a b r x : ℤ) → r ≡ int_min a b → x <ℤ r → (x <ℤ a) × (x <ℤ b)
    min_above a b r x e h = by_order (order a b)
        (λ o. let m = e ∙ min_first a b o in (omega (arith, ints, m, h), omega (arith, ints, m, h, o)))
        (λ o. let m = e ∙ min_last a b o in (omega (arith, ints, m, h, o), omega (arith, ints, m, h)))

    above_min : (a b r x : ℤ) → r ≡ int_min a b → x <ℤ a → x <ℤ b → x <ℤ r
    above_min a b r x e h k = by_order (order a b) (λ o. let m = e ∙ min_first a b o in omega (arith, ints, m, h)) (λ o. let m = e ∙ min_last a b o in omega (arith, ints, m, k))

moved : (w a b z y : ℤ) → z ≡ y → IsAround w a b z → IsAround w a b y
moved w a b z y e i = let f = i.from in let t = i.to in record {
  from = omega (arith, ints, f, e);
  to = omega (arith, ints, t, e);
}

-- the three stretches of an edge's ends
pub ends_those : (c : ℕ) (y : ℤ) (e : Edge) (s : Stretch)
    → AreThose (λ x. IsAround (pos c) (low e).x (high e).x (x +ℤ pos 0)
    × (IsAround (pos (reach c)) ((low e).x +ℤ (low e).y) ((high e).x +ℤ (high e).y) (x +ℤ y)
    × IsAround (pos (reach c)) ((low e).x -ℤ (low e).y) ((high e).x -ℤ (high e).y) (x +ℤ (pos 0 -ℤ y)))) s
    → AreThose (IsBesideEnds c y e) s
ends_those c y e s h x = (
  (λ p.
      let i = (h x).0 p in
      record {
        across = moved (pos c) (low e).x (high e).x (x +ℤ pos 0) x (omega (arith, ints)) i.0;
        sum = i.1.0;
        difference = moved (pos (reach c)) ((low e).x -ℤ (low e).y) ((high e).x -ℤ (high e).y)
            (x +ℤ (pos 0 -ℤ y))
            (x -ℤ y) (omega (arith, ints)) i.1.1;
      }),
  (λ i. (h x).1 (
    moved (pos c) (low e).x (high e).x x (x +ℤ pos 0) (omega (arith, ints)) i.across,
    (
      i.sum,
      moved (pos (reach c)) ((low e).x -ℤ (low e).y) ((high e).x -ℤ (high e).y) (x -ℤ y) (x +ℤ (pos 0 -ℤ y))
          (omega (arith, ints)) i.difference,
    ),
  )),
)

-- a stretch that begins and ends as another
as_stretch : (P : ℤ → Type 0) (s t : Stretch) → AreThose P s → t.from ≡ s.from → t.until ≡ s.until
    → AreThose P t
as_stretch P s t h f u x = (
  (λ p. let a = p.0 in let b = p.1 in (h x).0 (omega (arith, ints, a, f), omega (arith, ints, b, u))),
  (λ i. let q = (h x).1 i in let a = q.0 in let b = q.1 in (omega (arith, ints, a, f), omega (arith, ints, b, u))),
)

-- a stretch is the one round two values
pub record IsRound (w a b way : ℤ) (s : Stretch) : Type 0 where
  pub from : s.from ≡ (around w a b way).from
  pub until : s.until ≡ (around w a b way).until

round_those : (w a b way : ℤ) (s : Stretch) → IsRound w a b way s → AreThose (λ x. IsAround w a b (x +ℤ way)) s
round_those w a b way s r =
    as_stretch (λ x. IsAround w a b (x +ℤ way)) (around w a b way) s (around_those w a b way) r.from r.until

-- by the stretches of each pair of half planes
pub by_stretches : (c : ℕ) (y : ℤ) (e : Edge) (a r f b s : Stretch)
    → IsRound (pos c) (low e).x (high e).x (pos 0) a
    → IsRound (pos (reach c)) ((low e).x +ℤ (low e).y) ((high e).x +ℤ (high e).y) y r
    → IsRound (pos (reach c)) ((low e).x -ℤ (low e).y) ((high e).x -ℤ (high e).y) (pos 0 -ℤ y) f
    → b.from ≡ int_max r.from f.from → b.until ≡ int_min r.until f.until
    → s.from ≡ int_max a.from b.from → s.until ≡ int_min a.until b.until
    → AreThose (IsBesideEnds c y e) s
by_stretches c y e a r f b s ha hr hf bf bu sf su =
    let P : ℤ → Type 0 = λ x. IsAround (pos c) (low e).x (high e).x (x +ℤ pos 0) in
    let Q : ℤ → Type 0 = λ x. IsAround (pos (reach c)) ((low e).x +ℤ (low e).y) ((high e).x +ℤ (high e).y) (x +ℤ y) in
    let R : ℤ → Type 0 = λ x. IsAround (pos (reach c)) ((low e).x -ℤ (low e).y) ((high e).x -ℤ (high e).y)
    (x +ℤ (pos 0 -ℤ y)) in
    let p = round_those (pos c) (low e).x (high e).x (pos 0) a ha in
    let q = round_those (pos (reach c)) ((low e).x +ℤ (low e).y) ((high e).x +ℤ (high e).y) y r hr in
    let t = round_those (pos (reach c)) ((low e).x -ℤ (low e).y) ((high e).x -ℤ (high e).y) (pos 0 -ℤ y) f hf in
    ends_those c y e s (both_those P (λ x. Q x × R x) a b s p (both_those Q R r f b q t bf bu) sf su)

pub flat_reached : (c : ℕ) (y : ℤ) (e : Edge) (s : Stretch) → rise e ≤ℤ pos 0
    → AreThose (IsBesideEnds c y e) s → IsReached c y e s
flat_reached c y e s h k x = (
  (λ p. record { ends = (k x).0 p; line = λ o. absurd (omega (arith, ints, o, h)) }),
  (λ i. (k x).1 i.ends),
)

pub both_reached : (c : ℕ) (y : ℤ) (e : Edge) (s r b : Stretch) → pos 0 <ℤ rise e
    → AreThose (IsBesideEnds c y e) s
    → AreThose (IsBesideLine c y e) r → b.from ≡ int_max s.from r.from → b.until ≡ int_min s.until r.until
    → IsReached c y e b
both_reached c y e s r b h k l p q x =
    let t = both_those (IsBesideEnds c y e) (IsBesideLine c y e) s r b k l p q x in (
      (λ i. let u = t.0 i in record { ends = u.0; line = λ o. u.1 }),
      (λ i. t.1 (i.ends, i.line h)),
    )

-- ---- counting a stretch
abbrev pub near_at : ℤ → ℤ → Step
near_at at near = record { at = at; turns = pos 0; near = near }

pub counts : (s : Stretch) → s.from <ℤ s.until
    → Counts s (near_at s.from (pos 1) ∷ (near_at s.until (negsuc 0) ∷ []))
counts s h = record {
  inside = λ z a b.
      let p : int_le s.from z ≡ true = sym (omega (arith, ints, a)) in
      let q : int_le s.until z ≡ false = sym (omega (arith, ints, b)) in
      rw (p, q) refl;
  outside = λ z n. out z n (order s.from z) (order s.until z);
  each = All-from_recursion IsStep (near_at s.from (pos 1) ∷ (near_at s.until (negsuc 0) ∷ [])) (
    record { turns = omega arith; near = omega arith; place = inl refl },
    (record { turns = omega arith; near = omega arith; place = inl refl }, tt),
  );
  other = All-from_recursion (λ t. t.turns ≡ pos 0) (near_at s.from (pos 1) ∷ (near_at s.until (negsuc 0) ∷ []))
      (refl, (refl, tt));
}
  where
    out : (z : ℤ) → ((s.from ≤ℤ z) × (z <ℤ s.until) → ⊥) → (s.from ≤ℤ z) ⊎ (z <ℤ s.from)
        → (s.until ≤ℤ z) ⊎ (z <ℤ s.until)
        → up_to (λ t. t.near) z (near_at s.from (pos 1) ∷ (near_at s.until (negsuc 0) ∷ [])) ≡ pos 0
    out z n (inl a) (inr b) = absurd (n (a, b))
    out z n (inl a) (inl b) =
        let p : int_le s.from z ≡ true = sym (omega (arith, ints, a)) in
        let q : int_le s.until z ≡ true = sym (omega (arith, ints, b)) in
        rw (p, q) refl
    out z n (inr a) b =
        let p : int_le s.from z ≡ false = sym (omega (arith, ints, a)) in
        let q : int_le s.until z ≡ false = sym (omega (arith, ints, a, h)) in
        rw (p, q) refl

pub counts_none : (s : Stretch) → s.until ≤ℤ s.from → Counts s []
counts_none s h = record {
  inside = λ z a b. absurd (omega (arith, ints, h, a, b));
  outside = λ z n. refl;
  each = All-from_recursion IsStep [] tt;
  other = All-from_recursion (λ t. t.turns ≡ pos 0) [] tt;
}
