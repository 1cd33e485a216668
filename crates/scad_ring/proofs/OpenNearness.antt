-- Where nearness is open. A point that comes near without the octagon's border stays near with it where the other point
-- is moved a little along an axis; and what is near by a closed octagon is near by an open one, greater by 1 along each
-- axis, to what lies less than 1 away.
use Rattle.std.proofs.Common.{◌≡◌, [], ◌∷◌, refl, arith, ℤ, pos, neg_ℤ, ◌+ℤ◌, ◌-ℤ◌, ◌*ℤ◌, ◌<ℤ◌}
use lib.Signed.{◌≤ℤ◌}
use Rattle.std.proofs.lemmas.Int.{ints}
use Rattle.scad_geom.specs.Point.{Point}
use Rattle.scad_geom.proofs.Signs.{at_least_mul, pos_left}
use Rattle.scad_base.proofs.Products.{positive_product}
use Rattle.scad_geom.proofs.Ring.{ring, num, ◌⊕◌, ◌⊖◌, ◌⊗◌, v0, v1, v2, v3, v4, v5, v6, v7, v8, v9, v10, v11, v12}
use Rattle.winding_laws.specs.Points.{IsWithinOne}
use Rattle.scad_ring.specs.Octagon.{octagon}
use Rattle.scad_ring.specs.Nearness.{Closed, Open, IsWithinRegion}
use Rattle.scad_ring.proofs.Octants.{IsSize}

-- a point moved by u to the right and v upwards, in parts of its divisor times k
abbrev pub shifted : ℤ → ℤ → ℤ → Point → Point
shifted k u v q = record { x = q.x *ℤ k +ℤ u; y = q.y *ℤ k +ℤ v; d = q.d *ℤ k }

-- a step of at most 1 along both axes together
pub record IsStep (x y : ℤ) : Type 0 where
  pub sum : IsSize (pos 1) (x +ℤ y)
  pub difference : IsSize (pos 1) (x -ℤ y)

-- of one half plane: p near to q, moved in parts of both divisors
by_step : (n m c px py d qx qy e x y : ℤ) → pos 0 ≤ℤ d → (pos 0 -ℤ (n *ℤ x +ℤ m *ℤ y)) ≤ℤ pos 1
    → (n *ℤ (px *ℤ e -ℤ qx *ℤ d) +ℤ m *ℤ (py *ℤ e -ℤ qy *ℤ d)) <ℤ (c *ℤ (d *ℤ e))
    → (n *ℤ (px *ℤ (e *ℤ d) -ℤ (qx *ℤ d +ℤ x) *ℤ d) +ℤ m *ℤ
    (py *ℤ (e *ℤ d) -ℤ (qy *ℤ d +ℤ y) *ℤ d))
    ≤ℤ (c *ℤ (d *ℤ (e *ℤ d)))
by_step n m c px py d qx qy e x y some step near =
    let a = at_least_mul ((c *ℤ (d *ℤ e) -ℤ pos 1) -ℤ (n *ℤ (px *ℤ e -ℤ qx *ℤ d) +ℤ m *ℤ (py *ℤ e -ℤ qy *ℤ d))) d
    (omega (arith, ints, near)) some in
    let b = at_least_mul (pos 1 +ℤ (n *ℤ x +ℤ m *ℤ y)) d (omega (arith, ints, step)) some in
    omega (arith, ints, a, b, sum_is)
  where
    sum_is : ((c *ℤ (d *ℤ e) -ℤ pos 1) -ℤ
        (n *ℤ (px *ℤ e -ℤ qx *ℤ d) +ℤ m *ℤ (py *ℤ e -ℤ qy *ℤ d))) *ℤ d +ℤ
        (pos 1 +ℤ (n *ℤ x +ℤ m *ℤ y)) *ℤ d
        ≡ c *ℤ (d *ℤ (e *ℤ d)) -ℤ (n *ℤ (px *ℤ (e *ℤ d) -ℤ (qx *ℤ d +ℤ x) *ℤ d) +ℤ m *ℤ
        (py *ℤ (e *ℤ d) -ℤ (qy *ℤ d +ℤ y) *ℤ d))
    sum_is = ring (n ∷ m ∷ c ∷ px ∷ py ∷ d ∷ qx ∷ qy ∷ e ∷ x ∷ y ∷ [])
        (((v2 ⊗ (v5 ⊗ v8) ⊖ num (pos 1))
        ⊖ (v0 ⊗ (v3 ⊗ v8 ⊖ v6 ⊗ v5) ⊕ v1 ⊗ (v4 ⊗ v8 ⊖ v7 ⊗ v5))) ⊗ v5 ⊕
        (num (pos 1) ⊕ (v0 ⊗ v9 ⊕ v1 ⊗ v10)) ⊗ v5)
        (v2 ⊗ (v5 ⊗ (v8 ⊗ v5)) ⊖ (v0 ⊗ (v3 ⊗ (v8 ⊗ v5) ⊖ (v6 ⊗ v5 ⊕ v9) ⊗ v5) ⊕ v1 ⊗
        (v4 ⊗ (v8 ⊗ v5) ⊖ (v7 ⊗ v5 ⊕ v10) ⊗ v5))) refl

-- a point that is near to q by the open octagon is near by the closed one to q moved by a step, in parts of both
-- divisors
pub near_shifted : (c u x y : ℤ) (q p : Point) → pos 0 ≤ℤ p.d → IsStep x y → IsWithinRegion Open (octagon c u) q p
    → IsWithinRegion Closed (octagon c u) (shifted p.d x y q) p
near_shifted c u x y q p some step h =
    let sl = step.sum.least in
    let sm = step.sum.most in
    let dl = step.difference.least in
    let dm = step.difference.most in (
      by_step (pos 1) (pos 0) c p.x p.y p.d q.x q.y q.d x y some (omega (arith, ints, sl, sm, dl, dm)) h.0,
      (
        by_step (neg_ℤ (pos 1)) (pos 0) c p.x p.y p.d q.x q.y q.d x y some (omega (
          arith,
          ints,
          sl,
          sm,
          dl,
          dm,
        )) h.1.0,
        (
          by_step (pos 0) (pos 1) c p.x p.y p.d q.x q.y q.d x y some (omega (arith, ints, sl, sm, dl, dm)) h.1.1.0,
          (
            by_step (pos 0) (neg_ℤ (pos 1)) c p.x p.y p.d q.x q.y q.d x y some (omega (
              arith,
              ints,
              sl,
              sm,
              dl,
              dm,
            )) h.1.1.1.0,
            (
              by_step (pos 1) (pos 1) u p.x p.y p.d q.x q.y q.d x y some (omega (
                arith,
                ints,
                sl,
                sm,
                dl,
                dm,
              )) h.1.1.1.1.0,
              (
                by_step (pos 1) (neg_ℤ (pos 1)) u p.x p.y p.d q.x q.y q.d x y some (omega (
                  arith,
                  ints,
                  sl,
                  sm,
                  dl,
                  dm,
                )) h.1.1.1.1.1.0,
                (
                  by_step (neg_ℤ (pos 1)) (pos 1) u p.x p.y p.d q.x q.y q.d x y some (omega (
                    arith,
                    ints,
                    sl,
                    sm,
                    dl,
                    dm,
                  )) h.1.1.1.1.1.1.0,
                  (
                    by_step (neg_ℤ (pos 1)) (neg_ℤ (pos 1)) u p.x p.y p.d q.x q.y q.d x y some (omega (
                      arith,
                      ints,
                      sl,
                      sm,
                      dl,
                      dm,
                    )) h.1.1.1.1.1.1.1.0,
                    tt,
                  ),
                ),
              ),
            ),
          ),
        ),
      ),
    )

-- of one half plane: m near to q, and q less than 1 away from b along each axis
by_one : (n m c e px py pd qx qy qd bx by bd : ℤ) → pos 0 <ℤ pd → pos 0 <ℤ qd → pos 0 <ℤ bd
    → (n *ℤ (px *ℤ qd -ℤ qx *ℤ pd) +ℤ m *ℤ (py *ℤ qd -ℤ qy *ℤ pd)) ≤ℤ (c *ℤ (pd *ℤ qd))
    → (n *ℤ (qx *ℤ bd -ℤ bx *ℤ qd) +ℤ m *ℤ (qy *ℤ bd -ℤ by *ℤ qd)) <ℤ (e *ℤ (qd *ℤ bd))
    → (n *ℤ (px *ℤ bd -ℤ bx *ℤ pd) +ℤ m *ℤ (py *ℤ bd -ℤ by *ℤ pd)) <ℤ
    ((c +ℤ e) *ℤ (pd *ℤ bd))
by_one n m c e px py pd qx qy qd bx by bd hp hq hb near one =
    let a = at_least_mul bd (c *ℤ (pd *ℤ qd) -ℤ (n *ℤ (px *ℤ qd -ℤ qx *ℤ pd) +ℤ m *ℤ (py *ℤ qd -ℤ qy *ℤ pd)))
    (omega (arith, ints, hb)) (omega (arith, ints, near)) in
    let b = positive_product pd (e *ℤ (qd *ℤ bd) -ℤ (n *ℤ (qx *ℤ bd -ℤ bx *ℤ qd) +ℤ m *ℤ (qy *ℤ bd -ℤ by *ℤ qd))) hp
    (omega (arith, ints, one)) in
    let g = pos_left ((c +ℤ e) *ℤ (pd *ℤ bd) -ℤ (n *ℤ (px *ℤ bd -ℤ bx *ℤ pd) +ℤ m *ℤ (py *ℤ bd -ℤ by *ℤ pd))) qd hq
    (omega (arith, ints, a, b, sum_is)) in
    omega (arith, ints, g)
  where
    sum_is : ((c +ℤ e) *ℤ (pd *ℤ bd) -ℤ
        (n *ℤ (px *ℤ bd -ℤ bx *ℤ pd) +ℤ m *ℤ (py *ℤ bd -ℤ by *ℤ pd))) *ℤ qd
        ≡ bd *ℤ (c *ℤ (pd *ℤ qd) -ℤ
        (n *ℤ (px *ℤ qd -ℤ qx *ℤ pd) +ℤ m *ℤ (py *ℤ qd -ℤ qy *ℤ pd))) +ℤ pd *ℤ
        (e *ℤ (qd *ℤ bd) -ℤ (n *ℤ (qx *ℤ bd -ℤ bx *ℤ qd) +ℤ m *ℤ (qy *ℤ bd -ℤ by *ℤ qd)))
    sum_is = ring (n ∷ m ∷ c ∷ e ∷ px ∷ py ∷ pd ∷ qx ∷ qy ∷ qd ∷ bx ∷ by ∷ bd ∷ [])
        (((v2 ⊕ v3) ⊗ (v6 ⊗ v12) ⊖ (v0 ⊗ (v4 ⊗ v12 ⊖ v10 ⊗ v6) ⊕ v1 ⊗ (v5 ⊗ v12 ⊖ v11 ⊗ v6)))
        ⊗ v9)
        (v12 ⊗ (v2 ⊗ (v6 ⊗ v9) ⊖ (v0 ⊗ (v4 ⊗ v9 ⊖ v7 ⊗ v6) ⊕ v1 ⊗ (v5 ⊗ v9 ⊖ v8 ⊗ v6))) ⊕ v6
        ⊗
        (v3 ⊗ (v9 ⊗ v12) ⊖ (v0 ⊗ (v7 ⊗ v12 ⊖ v10 ⊗ v9) ⊕ v1 ⊗ (v8 ⊗ v12 ⊖ v11 ⊗ v9)))) refl

-- what is near to q by a closed octagon is near by the open one, greater by 1 and by 2 in sum, to each point b that q
-- lies less than 1 away from along both axes
pub near_by_one : (c u : ℤ) (b q p : Point) → pos 0 <ℤ b.d → pos 0 <ℤ q.d → pos 0 <ℤ p.d
    → IsWithinOne b q → IsWithinRegion Closed (octagon c u) q p
    → IsWithinRegion Open (octagon (c +ℤ pos 1) (u +ℤ pos 2)) b p
near_by_one c u b q p hb hq hp w h =
    let r = w.right in
    let l = w.left in
    let o = w.above in
    let a = w.below in (
      by_one (pos 1) (pos 0) c (pos 1) p.x p.y p.d q.x q.y q.d b.x b.y b.d hp hq hb h.0 (omega (
        arith,
        ints,
        r,
        l,
        o,
        a,
      )),
      (
        by_one (neg_ℤ (pos 1)) (pos 0) c (pos 1) p.x p.y p.d q.x q.y q.d b.x b.y b.d hp hq hb h.1.0 (omega (
          arith,
          ints,
          r,
          l,
          o,
          a,
        )),
        (
          by_one (pos 0) (pos 1) c (pos 1) p.x p.y p.d q.x q.y q.d b.x b.y b.d hp hq hb h.1.1.0 (omega (
            arith,
            ints,
            r,
            l,
            o,
            a,
          )),
          (
            by_one (pos 0) (neg_ℤ (pos 1)) c (pos 1) p.x p.y p.d q.x q.y q.d b.x b.y b.d hp hq hb h.1.1.1.0
                (omega (arith, ints, r, l, o, a)),
            (
              by_one (pos 1) (pos 1) u (pos 2) p.x p.y p.d q.x q.y q.d b.x b.y b.d hp hq hb h.1.1.1.1.0
                  (omega (arith, ints, r, l, o, a)),
              (
                by_one (pos 1) (neg_ℤ (pos 1)) u (pos 2) p.x p.y p.d q.x q.y q.d b.x b.y b.d hp hq hb h.1.1.1.1.1.0
                    (omega (arith, ints, r, l, o, a)),
                (
                  by_one (neg_ℤ (pos 1)) (pos 1) u (pos 2) p.x p.y p.d q.x q.y q.d b.x b.y b.d hp hq hb
                      h.1.1.1.1.1.1.0 (omega (arith, ints, r, l, o, a)),
                  (
                    by_one (neg_ℤ (pos 1)) (neg_ℤ (pos 1)) u (pos 2) p.x p.y p.d q.x q.y q.d b.x b.y b.d hp hq hb
                        h.1.1.1.1.1.1.1.0 (omega (arith, ints, r, l, o, a)),
                    tt,
                  ),
                ),
              ),
            ),
          ),
        ),
      ),
    )
