-- Which places of a row lie within a gap of an edge along both axes: those that aren't far from its ends, nor from its
-- line.
use Rattle.std.proofs.Common.{◌≡◌, ℕ, ◌*◌, [], ◌∷◌, refl, sym, subst, arith, ℤ, pos, ◌+ℤ◌, ◌-ℤ◌, ◌*ℤ◌, ◌<ℤ◌}
use lib.Signed.{◌≤ℤ◌}
use Rattle.std.proofs.lemmas.Int.{ints}
use Rattle.scad_geom.specs.declared.point.Pt.{Pt}
use Rattle.scad_geom.specs.Point.{whole}
use Rattle.scad_geom.specs.Near.{mean, IsHalf, IsClose, MeetsBox}
use Rattle.scad_geom.proofs.Ring.{ring, num, ◌⊕◌, ◌⊖◌, ◌⊗◌, v0, v1, v2, v3, v4, v5, v6}
use Rattle.scad_geom.proofs.Rising.{Lies, Found, found, passes}
use Rattle.plan_support.specs.Spans.{point_at}

-- ---- points of an edge, seen from a whole point
place : (s t a b x : ℤ) → (s *ℤ a +ℤ t *ℤ b) *ℤ pos 1 -ℤ x *ℤ (s *ℤ pos 1 +ℤ t *ℤ pos 1)
    ≡ s *ℤ (a -ℤ x) +ℤ t *ℤ (b -ℤ x)
place s t a b x = ring (s ∷ t ∷ a ∷ b ∷ x ∷ [])
    ((v0 ⊗ v2 ⊕ v1 ⊗ v3) ⊗ num (pos 1) ⊖ v4 ⊗ (v0 ⊗ num (pos 1) ⊕ v1 ⊗ num (pos 1)))
    (v0 ⊗ (v2 ⊖ v4) ⊕ v1 ⊗ (v3 ⊖ v4)) refl

weight : (g s t : ℤ) → (pos 2 *ℤ g) *ℤ ((s *ℤ pos 1 +ℤ t *ℤ pos 1) *ℤ pos 1) ≡ pos 2 *ℤ (g *ℤ (s +ℤ t))
weight g s t = ring (g ∷ s ∷ t ∷ []) ((num (pos 2) ⊗ v0) ⊗ ((v1 ⊗ num (pos 1) ⊕ v2 ⊗ num (pos 1)) ⊗ num (pos 1)))
    (num (pos 2) ⊗ (v0 ⊗ (v1 ⊕ v2))) refl

doubled_gap : (gap : ℕ) → pos (2 * gap) ≡ pos 2 *ℤ pos gap
doubled_gap gap = omega (arith, ints)

half_of : (gap : ℕ) (s t a b x : ℤ) → Lies (pos gap) s t (a -ℤ x) (b -ℤ x)
    → IsHalf (pos (2 * gap)) ((s *ℤ a +ℤ t *ℤ b) *ℤ pos 1 -ℤ x *ℤ (s *ℤ pos 1 +ℤ t *ℤ pos 1))
    ((s *ℤ pos 1 +ℤ t *ℤ pos 1) *ℤ pos 1)
half_of gap s t a b x l =
    subst (λ (h : ℤ). IsHalf h ((s *ℤ a +ℤ t *ℤ b) *ℤ pos 1 -ℤ x *ℤ (s *ℤ pos 1 +ℤ t *ℤ pos 1))
    ((s *ℤ pos 1 +ℤ t *ℤ pos 1) *ℤ pos 1))
    (sym (doubled_gap gap))
    (let f = l.from in
    let g = l.to in
    let p = place s t a b x in
    let w = weight (pos gap) s t in
    record { from = omega (arith, ints, f, p, w); to = omega (arith, ints, g, p, w) })

lies_of : (gap : ℕ) (s t a b x : ℤ)
    → IsHalf (pos (2 * gap)) ((s *ℤ a +ℤ t *ℤ b) *ℤ pos 1 -ℤ x *ℤ (s *ℤ pos 1 +ℤ t *ℤ pos 1))
    ((s *ℤ pos 1 +ℤ t *ℤ pos 1) *ℤ pos 1)
    → Lies (pos gap) s t (a -ℤ x) (b -ℤ x)
lies_of gap s t a b x h =
    let k = subst
    (λ (z : ℤ). IsHalf z ((s *ℤ a +ℤ t *ℤ b) *ℤ pos 1 -ℤ x *ℤ (s *ℤ pos 1 +ℤ t *ℤ pos 1))
    ((s *ℤ pos 1 +ℤ t *ℤ pos 1) *ℤ pos 1))
    (doubled_gap gap) h in
    let f = k.from in
    let g = k.to in
    let p = place s t a b x in
    let w = weight (pos gap) s t in
    record { from = omega (arith, ints, f, p, w); to = omega (arith, ints, g, p, w) }

abbrev pub FoundFor : ℕ → ℤ → ℤ → Pt → Pt → Type 0
FoundFor gap x y a b = Found (pos gap) (a.x -ℤ x) (a.y -ℤ y) (b.x -ℤ x) (b.y -ℤ y)

pub meets_if : (gap : ℕ) (x y : ℤ) (a b : Pt) → FoundFor gap x y a b
    → MeetsBox (pos (2 * gap)) (whole (point_at x y)) (whole a) (whole b)
meets_if gap x y a b f = record {
  s = f.s;
  t = f.t;
  from = f.from;
  to = f.to;
  some = f.some;
  close = record { across = half_of gap f.s f.t a.x b.x x f.x; along = half_of gap f.s f.t a.y b.y y f.y };
}

pub found_if : (gap : ℕ) (x y : ℤ) (a b : Pt) (s t : ℤ) → pos 0 ≤ℤ s → pos 0 ≤ℤ t → pos 0 <ℤ (s +ℤ t)
    → IsClose (pos (2 * gap)) (whole (point_at x y)) (mean s t (whole a) (whole b)) → FoundFor gap x y a b
found_if gap x y a b s t from to some c = record {
  s = s;
  t = t;
  from = from;
  to = to;
  some = some;
  x = lies_of gap s t a.x b.x x c.across;
  y = lies_of gap s t a.y b.y y c.along;
}

-- the same with the ends exchanged
turned_lies : (w s t a b : ℤ) → Lies w s t a b → Lies w t s b a
turned_lies w s t a b l = let f = l.from in let g = l.to in
    record { from = omega (arith, ints, f, e); to = omega (arith, ints, g, e) }
  where
    e : w *ℤ (t +ℤ s) ≡ w *ℤ (s +ℤ t)
    e = ring (w ∷ s ∷ t ∷ []) (v0 ⊗ (v2 ⊕ v1)) (v0 ⊗ (v1 ⊕ v2)) refl

pub turned : (w ax ay bx by : ℤ) → Found w ax ay bx by → Found w bx by ax ay
turned w ax ay bx by f =
    let n = f.some in
    record {
      s = f.t;
      t = f.s;
      from = f.to;
      to = f.from;
      some = omega (arith, ints, n);
      x = turned_lies w f.s f.t ax bx f.x;
      y = turned_lies w f.s f.t ay by f.y;
    }

-- and mirrored across
pub mirrored_lies : (w s t a b x : ℤ) → Lies w s t (a -ℤ x) (b -ℤ x) → Lies w s t (x -ℤ a) (x -ℤ b)
mirrored_lies w s t a b x l = let f = l.from in let g = l.to in
    record { from = omega (arith, ints, g, e); to = omega (arith, ints, f, e) }
  where
    e : s *ℤ (x -ℤ a) +ℤ t *ℤ (x -ℤ b) ≡ pos 0 -ℤ (s *ℤ (a -ℤ x) +ℤ t *ℤ (b -ℤ x))
    e = ring (s ∷ t ∷ a ∷ b ∷ x ∷ []) (v0 ⊗ (v4 ⊖ v2) ⊕ v1 ⊗ (v4 ⊖ v3))
        (num (pos 0) ⊖ (v0 ⊗ (v2 ⊖ v4) ⊕ v1 ⊗ (v3 ⊖ v4))) refl

pub mirrored_back : (w s t a b x : ℤ) → Lies w s t (x -ℤ a) (x -ℤ b) → Lies w s t (a -ℤ x) (b -ℤ x)
mirrored_back w s t a b x l = let f = l.from in let g = l.to in
    record { from = omega (arith, ints, g, e); to = omega (arith, ints, f, e) }
  where
    e : s *ℤ (a -ℤ x) +ℤ t *ℤ (b -ℤ x) ≡ pos 0 -ℤ (s *ℤ (x -ℤ a) +ℤ t *ℤ (x -ℤ b))
    e = ring (s ∷ t ∷ a ∷ b ∷ x ∷ []) (v0 ⊗ (v2 ⊖ v4) ⊕ v1 ⊗ (v3 ⊖ v4))
        (num (pos 0) ⊖ (v0 ⊗ (v4 ⊖ v2) ⊕ v1 ⊗ (v4 ⊖ v3))) refl

-- ---- the tests of an edge read upwards, from (lx, ly) to (hx, hy)
-- how far a point lies to the side of its line, times its length
pub cross_is : (lx ly hx hy x y : ℤ) → (hx -ℤ x) *ℤ (ly -ℤ y) -ℤ (lx -ℤ x) *ℤ (hy -ℤ y)
    ≡ x *ℤ (hy -ℤ ly) -ℤ ((hx -ℤ lx) *ℤ y +ℤ ((hy -ℤ ly) *ℤ lx -ℤ (hx -ℤ lx) *ℤ ly) *ℤ pos 1)
cross_is lx ly hx hy x y = ring (lx ∷ ly ∷ hx ∷ hy ∷ x ∷ y ∷ [])
    ((v2 ⊖ v4) ⊗ (v1 ⊖ v5) ⊖ (v0 ⊖ v4) ⊗ (v3 ⊖ v5))
    (v4 ⊗ (v3 ⊖ v1) ⊖ ((v2 ⊖ v0) ⊗ v5 ⊕ ((v3 ⊖ v1) ⊗ v0 ⊖ (v2 ⊖ v0) ⊗ v1) ⊗ num (pos 1))) refl

weights_are : (g lx ly hx hy x y : ℤ) → g *ℤ ((hx -ℤ x) -ℤ (lx -ℤ x)) +ℤ g *ℤ ((hy -ℤ y) -ℤ (ly -ℤ y))
    ≡ g *ℤ ((hx -ℤ lx) +ℤ (hy -ℤ ly))
weights_are g lx ly hx hy x y = ring (g ∷ lx ∷ ly ∷ hx ∷ hy ∷ x ∷ y ∷ [])
    (v0 ⊗ ((v3 ⊖ v5) ⊖ (v1 ⊖ v5)) ⊕ v0 ⊗ ((v4 ⊖ v6) ⊖ (v2 ⊖ v6)))
    (v0 ⊗ ((v3 ⊖ v1) ⊕ (v4 ⊖ v2))) refl

-- what is told of the place x of a row at the height y, beside an edge that doesn't run to the left on its way up
pub record IsTold (g lx ly hx hy x y : ℤ) : Type 0 where
  pub left : (lx -ℤ g) ≤ℤ x
  pub right : x ≤ℤ (hx +ℤ g)
  pub below : (ly -ℤ g) ≤ℤ y
  pub above : y ≤ℤ (hy +ℤ g)
  pub most : ((hx -ℤ x) *ℤ (ly -ℤ y) -ℤ (lx -ℤ x) *ℤ (hy -ℤ y)) ≤ℤ (g *ℤ ((hx -ℤ lx) +ℤ (hy -ℤ ly)))
  pub least : (pos 0 -ℤ ((hx -ℤ x) *ℤ (ly -ℤ y) -ℤ (lx -ℤ x) *ℤ (hy -ℤ y))) ≤ℤ (g *ℤ ((hx -ℤ lx) +ℤ (hy -ℤ ly)))

pub found_by : (g lx ly hx hy x y : ℤ) → pos 0 ≤ℤ g → lx ≤ℤ hx → ly ≤ℤ hy → IsTold g lx ly hx hy x y
    → Found g (lx -ℤ x) (ly -ℤ y) (hx -ℤ x) (hy -ℤ y)
found_by g lx ly hx hy x y some rx ry k =
    let a = k.left in
    let b = k.right in
    let c = k.below in
    let d = k.above in
    let m = k.most in
    let n = k.least in
    let w = weights_are g lx ly hx hy x y in
    found g (lx -ℤ x) (ly -ℤ y) (hx -ℤ x) (hy -ℤ y) some (omega (arith, ints, rx)) (omega (arith, ints, ry)) (record {
      left = omega (arith, ints, a);
      right = omega (arith, ints, b);
      below = omega (arith, ints, c);
      over = omega (arith, ints, d);
      most = omega (arith, ints, m, w);
      least = omega (arith, ints, n, w);
    })

pub told_of : (g lx ly hx hy x y : ℤ) → lx ≤ℤ hx → ly ≤ℤ hy → Found g (lx -ℤ x) (ly -ℤ y) (hx -ℤ x) (hy -ℤ y)
    → IsTold g lx ly hx hy x y
told_of g lx ly hx hy x y rx ry f =
    let p = passes g (lx -ℤ x) (ly -ℤ y) (hx -ℤ x) (hy -ℤ y) (omega (arith, ints, rx)) (omega (arith, ints, ry)) f in
    let a = p.left in
    let b = p.right in
    let c = p.below in
    let d = p.over in
    let m = p.most in
    let n = p.least in
    let w = weights_are g lx ly hx hy x y in
    record {
      left = omega (arith, ints, a);
      right = omega (arith, ints, b);
      below = omega (arith, ints, c);
      above = omega (arith, ints, d);
      most = omega (arith, ints, m, w);
      least = omega (arith, ints, n, w);
    }
