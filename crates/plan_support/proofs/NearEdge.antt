-- What is told of an edge's ends and of its line decides which places of a row lie near to it.
use Rattle.std.proofs.Common.{◌≡◌, ℕ, ◌*◌, Bool, true, false, cond, Option, None, [], ◌∷◌, refl, sym, ap, subst, ◌∙◌, arith, ℤ, pos, ◌+ℤ◌, ◌-ℤ◌, ◌*ℤ◌, ◌<ℤ◌}
use lib.Signed.{◌≤ℤ◌}
use Rattle.std.specs.Prelude.{int_lt, int_le, unsigned_abs, ◌&&◌}
use Rattle.std.specs.Int.{int_min, int_max}
use Rattle.std.proofs.lemmas.Int.{ints}
use Rattle.std.proofs.lemmas.Bool.{both_ways, and_parts}
use Rattle.std.proofs.lemmas.List.Elements.{All-nil}
use Rattle.scad_geom.specs.declared.point.Edge.{Edge}
use Rattle.scad_geom.specs.Point.{whole}
use Rattle.scad_geom.specs.Line.{low, high, rise, run, offset, x_at}
use Rattle.scad_geom.specs.Near.{MeetsBox, IsClear}
use Rattle.scad_geom.proofs.Ring.{ring, num, ◌⊕◌, ◌⊖◌, ◌⊗◌, v0, v1, v2, v3, v4, v5}
use Rattle.scad_geom.proofs.Rising.{Lies, Found, by_order, order}
use Rattle.scad_geom.proofs.Signs.{at_least_mul}
use Rattle.scad_geom.proofs.Bounds.{rise_at_least}
use Rattle.plan_infill.specs.declared.run.Run.{Run}
use Rattle.plan_support.specs.declared.reach.Reach.{Reach}
use Rattle.plan_support.specs.Spans.{point_at}
use Rattle.plan_support.specs.Near.{AreNear, IsBesideEnds, IsBesideLine, IsReach, IsClipped}
use Rattle.plan_infill.proofs.Extents.{lesser, greater}
use Rattle.plan_support.proofs.NearRow.{FoundFor, meets_if, found_if, turned, mirrored_lies, mirrored_back, cross_is, IsTold, found_by, told_of}

-- ---- in numbers, of an edge from (lx, ly) up to (hx, hy), and the place x of a row at the height y
pub record IsBeside (g lx ly hx hy x y v : ℤ) : Type 0 where
  pub below : (ly -ℤ g) ≤ℤ y
  pub above : y ≤ℤ (hy +ℤ g)
  pub from : (int_min lx hx -ℤ g) ≤ℤ x
  pub to : x ≤ℤ (int_max lx hx +ℤ g)
  pub line_from : pos 0 <ℤ (hy -ℤ ly)
      → (((hx -ℤ lx) *ℤ y +ℤ ((hy -ℤ ly) *ℤ lx -ℤ (hx -ℤ lx) *ℤ ly) *ℤ pos 1) -ℤ v) ≤ℤ (x *ℤ (hy -ℤ ly))
  pub line_to : pos 0 <ℤ (hy -ℤ ly)
      → (x *ℤ (hy -ℤ ly)) ≤ℤ (((hx -ℤ lx) *ℤ y +ℤ ((hy -ℤ ly) *ℤ lx -ℤ (hx -ℤ lx) *ℤ ly) *ℤ pos 1) +ℤ v)

-- a flat edge's line lies as far off as the row
flat_cross : (lx ly hx x y : ℤ) → (hx -ℤ x) *ℤ (ly -ℤ y) -ℤ (lx -ℤ x) *ℤ (ly -ℤ y) ≡ (hx -ℤ lx) *ℤ (ly -ℤ y)
flat_cross lx ly hx x y = ring (lx ∷ ly ∷ hx ∷ x ∷ y ∷ [])
    ((v2 ⊖ v3) ⊗ (v1 ⊖ v4) ⊖ (v0 ⊖ v3) ⊗ (v1 ⊖ v4)) ((v2 ⊖ v0) ⊗ (v1 ⊖ v4)) refl

flat_over : (g lx ly hx y : ℤ) → (hx -ℤ lx) *ℤ (g -ℤ (ly -ℤ y))
    ≡ g *ℤ ((hx -ℤ lx) +ℤ (ly -ℤ ly)) -ℤ (hx -ℤ lx) *ℤ (ly -ℤ y)
flat_over g lx ly hx y = ring (g ∷ lx ∷ ly ∷ hx ∷ y ∷ [])
    ((v3 ⊖ v1) ⊗ (v0 ⊖ (v2 ⊖ v4))) (v0 ⊗ ((v3 ⊖ v1) ⊕ (v2 ⊖ v2)) ⊖ (v3 ⊖ v1) ⊗ (v2 ⊖ v4)) refl

flat_under : (g lx ly hx y : ℤ) → (hx -ℤ lx) *ℤ (g +ℤ (ly -ℤ y))
    ≡ g *ℤ ((hx -ℤ lx) +ℤ (ly -ℤ ly)) +ℤ (hx -ℤ lx) *ℤ (ly -ℤ y)
flat_under g lx ly hx y = ring (g ∷ lx ∷ ly ∷ hx ∷ y ∷ [])
    ((v3 ⊖ v1) ⊗ (v0 ⊕ (v2 ⊖ v4))) (v0 ⊗ ((v3 ⊖ v1) ⊕ (v2 ⊖ v2)) ⊕ (v3 ⊖ v1) ⊗ (v2 ⊖ v4)) refl

record IsCrossed (g lx ly hx hy x y : ℤ) : Type 0 where
  most : ((hx -ℤ x) *ℤ (ly -ℤ y) -ℤ (lx -ℤ x) *ℤ (hy -ℤ y)) ≤ℤ (g *ℤ ((hx -ℤ lx) +ℤ (hy -ℤ ly)))
  least : (pos 0 -ℤ ((hx -ℤ x) *ℤ (ly -ℤ y) -ℤ (lx -ℤ x) *ℤ (hy -ℤ y))) ≤ℤ (g *ℤ ((hx -ℤ lx) +ℤ (hy -ℤ ly)))

crossed_flat : (g lx ly hx hy x y : ℤ) → ly ≡ hy → lx ≤ℤ hx → (ly -ℤ g) ≤ℤ y → y ≤ℤ (hy +ℤ g)
    → IsCrossed g lx ly hx hy x y
crossed_flat g lx ly hx hy x y e r b a =
    subst (λ (h : ℤ). IsCrossed g lx ly hx h x y) e
    (let c = flat_cross lx ly hx x y in
    let o = flat_over g lx ly hx y in
    let u = flat_under g lx ly hx y in
    let m = at_least_mul (hx -ℤ lx) (g -ℤ (ly -ℤ y)) (omega (arith, ints, r)) (omega (arith, ints, b)) in
    let n = at_least_mul (hx -ℤ lx) (g +ℤ (ly -ℤ y)) (omega (arith, ints, r)) (omega (arith, ints, a, e)) in
    record { most = omega (arith, ints, c, o, m); least = omega (arith, ints, c, u, n) })

module _ (g lx ly hx hy x y : ℤ) (up : ly ≤ℤ hy) (r : lx ≤ℤ hx) where
  told_if : IsBeside g lx ly hx hy x y (g *ℤ ((hx -ℤ lx) +ℤ (hy -ℤ ly))) → IsTold g lx ly hx hy x y
  told_if k =
      let f = k.from in
      let t = k.to in
      let low = (lesser lx hx (int_min lx hx) refl).greatest lx (omega (arith, ints)) r in
      let high = (greater lx hx (int_max lx hx) refl).least hx r (omega (arith, ints)) in
      let s : IsCrossed g lx ly hx hy x y = by_order (order hy ly)
      (λ o. crossed_flat g lx ly hx hy x y (omega (arith, ints, o, up)) r k.below k.above)
      (λ o.
      let p = k.line_from (omega (arith, ints, o)) in
      let q = k.line_to (omega (arith, ints, o)) in
      let c = cross_is lx ly hx hy x y in
      record { most = omega (arith, ints, c, q); least = omega (arith, ints, c, p) }) in
      record {
        left = omega (arith, ints, f, low);
        right = omega (arith, ints, t, high);
        below = k.below;
        above = k.above;
        most = s.most;
        least = s.least;
      }

  of_told : IsTold g lx ly hx hy x y → IsBeside g lx ly hx hy x y (g *ℤ ((hx -ℤ lx) +ℤ (hy -ℤ ly)))
  of_told k =
      let f = k.left in
      let t = k.right in
      let m = k.most in
      let n = k.least in
      let low = (lesser lx hx (int_min lx hx) refl).first in
      let high = (greater lx hx (int_max lx hx) refl).second in
      let c = cross_is lx ly hx hy x y in
      record {
        below = k.below;
        above = k.above;
        from = omega (arith, ints, f, low);
        to = omega (arith, ints, t, high);
        line_from = λ _. omega (arith, ints, c, n);
        line_to = λ _. omega (arith, ints, c, m);
      }

-- ---- of one that runs to the left on its way up, by its mirror image
mirror_cross : (lx ly hx hy x y : ℤ)
    → ((pos 0 -ℤ hx) -ℤ (pos 0 -ℤ x)) *ℤ (ly -ℤ y) -ℤ ((pos 0 -ℤ lx) -ℤ (pos 0 -ℤ x)) *ℤ (hy -ℤ y)
    ≡ ((hx -ℤ lx) *ℤ y +ℤ ((hy -ℤ ly) *ℤ lx -ℤ (hx -ℤ lx) *ℤ ly) *ℤ pos 1) -ℤ x *ℤ (hy -ℤ ly)
mirror_cross lx ly hx hy x y = ring (lx ∷ ly ∷ hx ∷ hy ∷ x ∷ y ∷ [])
    (((num (pos 0) ⊖ v2) ⊖ (num (pos 0) ⊖ v4)) ⊗ (v1 ⊖ v5) ⊖ ((num (pos 0) ⊖ v0) ⊖ (num (pos 0) ⊖ v4)) ⊗ (v3 ⊖ v5))
    (((v2 ⊖ v0) ⊗ v5 ⊕ ((v3 ⊖ v1) ⊗ v0 ⊖ (v2 ⊖ v0) ⊗ v1) ⊗ num (pos 1)) ⊖ v4 ⊗ (v3 ⊖ v1)) refl

module _ (g lx ly hx hy x y : ℤ) (up : ly ≤ℤ hy) (r : hx ≤ℤ lx) where
  mirrored_r : (pos 0 -ℤ lx) ≤ℤ (pos 0 -ℤ hx)
  mirrored_r = omega (arith, ints, r)

  mirror_told_if : IsBeside g lx ly hx hy x y (g *ℤ (((pos 0 -ℤ hx) -ℤ (pos 0 -ℤ lx)) +ℤ (hy -ℤ ly)))
      → IsTold g (pos 0 -ℤ lx) ly (pos 0 -ℤ hx) hy (pos 0 -ℤ x) y
  mirror_told_if k =
      let f = k.from in
      let t = k.to in
      let low = (lesser lx hx (int_min lx hx) refl).greatest hx r (omega (arith, ints)) in
      let high = (greater lx hx (int_max lx hx) refl).least lx (omega (arith, ints)) r in
      let s : IsCrossed g (pos 0 -ℤ lx) ly (pos 0 -ℤ hx) hy (pos 0 -ℤ x) y = by_order (order hy ly)
      (λ o. crossed_flat g (pos 0 -ℤ lx) ly (pos 0 -ℤ hx) hy (pos 0 -ℤ x) y (omega (arith, ints, o, up)) mirrored_r
      k.below k.above)
      (λ o.
      let p = k.line_from (omega (arith, ints, o)) in
      let q = k.line_to (omega (arith, ints, o)) in
      let c = mirror_cross lx ly hx hy x y in
      record { most = omega (arith, ints, c, p); least = omega (arith, ints, c, q) }) in
      record {
        left = omega (arith, ints, t, high);
        right = omega (arith, ints, f, low);
        below = k.below;
        above = k.above;
        most = s.most;
        least = s.least;
      }

  mirror_of_told : IsTold g (pos 0 -ℤ lx) ly (pos 0 -ℤ hx) hy (pos 0 -ℤ x) y
      → IsBeside g lx ly hx hy x y (g *ℤ (((pos 0 -ℤ hx) -ℤ (pos 0 -ℤ lx)) +ℤ (hy -ℤ ly)))
  mirror_of_told k =
      let f = k.left in
      let t = k.right in
      let m = k.most in
      let n = k.least in
      let low = (lesser lx hx (int_min lx hx) refl).second in
      let high = (greater lx hx (int_max lx hx) refl).first in
      let c = mirror_cross lx ly hx hy x y in
      record {
        below = k.below;
        above = k.above;
        from = omega (arith, ints, t, low);
        to = omega (arith, ints, f, high);
        line_from = λ _. omega (arith, ints, c, m);
        line_to = λ _. omega (arith, ints, c, n);
      }

difference : (a x : ℤ) → (pos 0 -ℤ a) -ℤ (pos 0 -ℤ x) ≡ x -ℤ a
difference a x = omega (arith, ints)

module _ (g lx ly hx hy x y : ℤ) where
  found_of_mirror : Found g ((pos 0 -ℤ lx) -ℤ (pos 0 -ℤ x)) (ly -ℤ y) ((pos 0 -ℤ hx) -ℤ (pos 0 -ℤ x)) (hy -ℤ y)
      → Found g (lx -ℤ x) (ly -ℤ y) (hx -ℤ x) (hy -ℤ y)
  found_of_mirror f = record {
    s = f.s;
    t = f.t;
    from = f.from;
    to = f.to;
    some = f.some;
    x = mirrored_back g f.s f.t lx hx x
        (subst (λ (b : ℤ). Lies g f.s f.t (x -ℤ lx) b) (difference hx x)
        (subst (λ (a : ℤ). Lies g f.s f.t a ((pos 0 -ℤ hx) -ℤ (pos 0 -ℤ x))) (difference lx x) f.x));
    y = f.y;
  }

  mirror_of_found : Found g (lx -ℤ x) (ly -ℤ y) (hx -ℤ x) (hy -ℤ y)
      → Found g ((pos 0 -ℤ lx) -ℤ (pos 0 -ℤ x)) (ly -ℤ y) ((pos 0 -ℤ hx) -ℤ (pos 0 -ℤ x)) (hy -ℤ y)
  mirror_of_found f = record {
    s = f.s;
    t = f.t;
    from = f.from;
    to = f.to;
    some = f.some;
    x = subst (λ (a : ℤ). Lies g f.s f.t a ((pos 0 -ℤ hx) -ℤ (pos 0 -ℤ x))) (sym (difference lx x))
        (subst (λ (b : ℤ). Lies g f.s f.t (x -ℤ lx) b) (sym (difference hx x))
        (mirrored_lies g f.s f.t lx hx x f.x));
    y = f.y;
  }

-- ---- both
size_up : (z : ℤ) → pos 0 ≤ℤ z → pos (unsigned_abs z) ≡ z
size_up z h = omega (arith, ints)

size_down : (z : ℤ) → z ≤ℤ pos 0 → pos (unsigned_abs z) ≡ pos 0 -ℤ z
size_down z h = omega (arith, ints)

reach_up : (g lx ly hx hy : ℤ) → lx ≤ℤ hx
    → g *ℤ (pos (unsigned_abs (hx -ℤ lx)) +ℤ (hy -ℤ ly)) ≡ g *ℤ ((hx -ℤ lx) +ℤ (hy -ℤ ly))
reach_up g lx ly hx hy r = ap (λ (z : ℤ). g *ℤ (z +ℤ (hy -ℤ ly))) (size_up (hx -ℤ lx) (omega (arith, ints, r)))

reach_down : (g lx ly hx hy : ℤ) → hx ≤ℤ lx
    → g *ℤ (pos (unsigned_abs (hx -ℤ lx)) +ℤ (hy -ℤ ly)) ≡ g *ℤ (((pos 0 -ℤ hx) -ℤ (pos 0 -ℤ lx)) +ℤ (hy -ℤ ly))
reach_down g lx ly hx hy r = ap (λ (z : ℤ). g *ℤ (z +ℤ (hy -ℤ ly)))
    (size_down (hx -ℤ lx) (omega (arith, ints, r)) ∙ turn hx lx)
  where
    turn : (a b : ℤ) → pos 0 -ℤ (a -ℤ b) ≡ (pos 0 -ℤ a) -ℤ (pos 0 -ℤ b)
    turn a b = omega (arith, ints)

module _ (g lx ly hx hy x y : ℤ) (some : pos 0 ≤ℤ g) (up : ly ≤ℤ hy) where
  found_beside : IsBeside g lx ly hx hy x y (g *ℤ (pos (unsigned_abs (hx -ℤ lx)) +ℤ (hy -ℤ ly)))
      → Found g (lx -ℤ x) (ly -ℤ y) (hx -ℤ x) (hy -ℤ y)
  found_beside k = by_order (order lx hx)
      (λ o. found_by g lx ly hx hy x y some o up
      (told_if g lx ly hx hy x y up o (subst (IsBeside g lx ly hx hy x y) (reach_up g lx ly hx hy o) k)))
      (λ o.
      let r : hx ≤ℤ lx = omega (arith, ints, o) in
      found_of_mirror g lx ly hx hy x y
      (found_by g (pos 0 -ℤ lx) ly (pos 0 -ℤ hx) hy (pos 0 -ℤ x) y some (omega (arith, ints, r)) up
      (mirror_told_if g lx ly hx hy x y up r (subst (IsBeside g lx ly hx hy x y) (reach_down g lx ly hx hy r) k))))

  beside_found : Found g (lx -ℤ x) (ly -ℤ y) (hx -ℤ x) (hy -ℤ y)
      → IsBeside g lx ly hx hy x y (g *ℤ (pos (unsigned_abs (hx -ℤ lx)) +ℤ (hy -ℤ ly)))
  beside_found f = by_order (order lx hx)
      (λ o. subst (IsBeside g lx ly hx hy x y) (sym (reach_up g lx ly hx hy o))
      (of_told g lx ly hx hy x y up o (told_of g lx ly hx hy x y o up f)))
      (λ o.
      let r : hx ≤ℤ lx = omega (arith, ints, o) in
      subst (IsBeside g lx ly hx hy x y) (sym (reach_down g lx ly hx hy r))
      (mirror_of_told g lx ly hx hy x y up r
      (told_of g (pos 0 -ℤ lx) ly (pos 0 -ℤ hx) hy (pos 0 -ℤ x) y (omega (arith, ints, r)) up
      (mirror_of_found g lx ly hx hy x y f))))

-- ---- of an edge
pub record IsBesideRow (e : Edge) (y : ℤ) (gap : ℕ) : Type 0 where
  pub below : ((low e).y -ℤ pos gap) ≤ℤ y
  pub above : y ≤ℤ ((high e).y +ℤ pos gap)

module _ (e : Edge) (gap : ℕ) (x y : ℤ) where
  goes_up : (low e).y ≤ℤ (high e).y
  unfolding rise
  goes_up = let r : pos 0 ≤ℤ ((high e).y -ℤ (low e).y) = rise_at_least e in omega (arith, ints, r)

  pub found_if_beside : IsBesideRow e y gap → IsBesideEnds e gap x → (pos 0 <ℤ rise e → IsBesideLine e y gap x)
      → FoundFor gap x y (low e) (high e)
  unfolding x_at offset run rise
  found_if_beside b ends line =
      found_beside (pos gap) (low e).x (low e).y (high e).x (high e).y x y (omega (arith, ints)) goes_up
      (record {
        below = b.below;
        above = b.above;
        from = ends.from;
        to = ends.to;
        line_from =
            λ r. (line r).from;
        line_to = λ r. (line r).to;
      })

  told : FoundFor gap x y (low e) (high e) → IsBeside (pos gap) (low e).x (low e).y (high e).x (high e).y x y
      (pos gap *ℤ (pos (unsigned_abs ((high e).x -ℤ (low e).x)) +ℤ ((high e).y -ℤ (low e).y)))
  told f = beside_found (pos gap) (low e).x (low e).y (high e).x (high e).y x y (omega (arith, ints)) goes_up f

  pub row_if_found : FoundFor gap x y (low e) (high e) → IsBesideRow e y gap
  row_if_found f = record { below = (told f).below; above = (told f).above }

  pub ends_if_found : FoundFor gap x y (low e) (high e) → IsBesideEnds e gap x
  ends_if_found f = record { from = (told f).from; to = (told f).to }

  pub line_if_found : FoundFor gap x y (low e) (high e) → pos 0 <ℤ rise e → IsBesideLine e y gap x
  unfolding x_at offset run rise
  line_if_found f r = record { from = (told f).line_from r; to = (told f).line_to r }

  -- read upwards or as it is
  as_it_is : FoundFor gap x y (low e) (high e) → FoundFor gap x y e.a e.b
  unfolding low high
  as_it_is f = by_test (int_lt e.b.y e.a.y) f
    where
      by_test : (t : Bool) → FoundFor gap x y (cond t e.b e.a) (cond t e.a e.b) → FoundFor gap x y e.a e.b
      by_test true f = turned (pos gap) (e.b.x -ℤ x) (e.b.y -ℤ y) (e.a.x -ℤ x) (e.a.y -ℤ y) f
      by_test false f = f

  upwards : FoundFor gap x y e.a e.b → FoundFor gap x y (low e) (high e)
  unfolding low high
  upwards f = by_test (int_lt e.b.y e.a.y)
    where
      by_test : (t : Bool) → FoundFor gap x y (cond t e.b e.a) (cond t e.a e.b)
      by_test true = turned (pos gap) (e.a.x -ℤ x) (e.a.y -ℤ y) (e.b.x -ℤ x) (e.b.y -ℤ y) f
      by_test false = f

  pub meets : FoundFor gap x y (low e) (high e)
      → MeetsBox (pos (2 * gap)) (whole (point_at x y)) (whole e.a) (whole e.b)
  meets f = meets_if gap x y e.a e.b (as_it_is f)

  pub clear : (FoundFor gap x y (low e) (high e) → ⊥)
      → IsClear (pos (2 * gap)) (whole (point_at x y)) (whole e.a) (whole e.b)
  clear n s t from to some c = n (upwards (found_if gap x y e.a e.b s t from to some c))

-- ---- the places of a row
module _ (e : Edge) (y : ℤ) (gap : ℕ) where
  beside_row : (int_le ((low e).y -ℤ pos gap) y && int_le y ((high e).y +ℤ pos gap)) ≡ true → IsBesideRow e y gap
  beside_row h =
      let p = and_parts (int_le ((low e).y -ℤ pos gap) y) (int_le y ((high e).y +ℤ pos gap)) h in
      let f = p.0 in
      let g = p.1 in
      record { below = omega (arith, ints, f); above = omega (arith, ints, g) }

  row_beside : IsBesideRow e y gap → (int_le ((low e).y -ℤ pos gap) y && int_le y ((high e).y +ℤ pos gap)) ≡ true
  row_beside b =
      let f = b.below in
      let g = b.above in
      let p : int_le ((low e).y -ℤ pos gap) y ≡ true = sym (omega (arith, ints, f)) in
      let q : int_le y ((high e).y +ℤ pos gap) ≡ true = sym (omega (arith, ints, g)) in
      rw (p, q) refl

  pub near_some : (r : Reach) (found : Option Run)
      → (int_le ((low e).y -ℤ pos gap) y && int_le y ((high e).y +ℤ pos gap)) ≡ true
      → IsReach e y gap r → IsClipped r.from r.to found → AreNear e y gap found
  near_some r found b w c = record {
    some = c.some;
    meets = λ x p o.
        let i = (c.is x p).0 o in
        let k = (w x).0 (record { from = i.0; to = i.1 }) in
        meets e gap x y (found_if_beside e gap x y (beside_row b) k.0 k.1);
    clear = λ x p o. clear e gap x y (λ f.
        let i = (w x).1 (ends_if_found e gap x y f, line_if_found e gap x y f) in
        both_ways _ o ((c.is x p).1 (i.from, i.to)));
  }

  pub near_none : (int_le ((low e).y -ℤ pos gap) y && int_le y ((high e).y +ℤ pos gap)) ≡ false → AreNear e y gap None
  near_none b = record {
    some = All-nil (λ (r : Run). r.from ≤ℤ r.to);
    meets = λ x p o. absurd (both_ways _ refl o);
    clear = λ x p o. clear e gap x y (λ f. both_ways _ b (row_beside (row_if_found e gap x y f)));
  }
