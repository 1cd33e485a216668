-- The sides of a ring by an octagon: ways along the octagon's own sides, and along the edge. On which side of them a
-- point lies is what the octagon's half planes say of the edge's ends, and how far its line lies from the point.
use Rattle.std.proofs.Common.{◌≡◌, [], ◌∷◌, refl, ap₂, ap, arith, ℤ, pos, ◌+ℤ◌, ◌-ℤ◌, ◌*ℤ◌, ◌<ℤ◌}
use lib.Signed.{◌≤ℤ◌}
use Rattle.std.proofs.lemmas.Int.{ints}
use Rattle.scad_base.proofs.Products.{positive_product}
use Rattle.scad_geom.specs.declared.point.Pt.{Pt}
use Rattle.scad_geom.specs.Point.{Point}
use Rattle.scad_geom.specs.Winding.{side_by}
use Rattle.scad_geom.proofs.Signs.{at_least_mul, at_least_left}
use Rattle.scad_geom.proofs.Ring.{ring, num, ◌⊕◌, ◌⊖◌, ◌⊗◌, v0, v1, v2, v3, v4, v5, v6, v7, v8, v9}
use Rattle.scad_ring.specs.Ring.{IsLeftOf, TurnsLeft}
use Rattle.scad_ring.proofs.Lines.{cross_of, way}
use Rattle.scad_ring.proofs.Convex.{Lies, cross, first_end, last_end}
use Rattle.scad_ring.proofs.Octants.{Approach}

-- the way from P to Q is m times (x, y)
pub record Step (x y : ℤ) (P Q : Pt) : Type 0 where
  pub m : ℤ
  pub positive : pos 0 <ℤ m
  pub across : Q.x -ℤ P.x ≡ m *ℤ x
  pub upwards : Q.y -ℤ P.y ≡ m *ℤ y

-- it runs along the border of the half plane of the points from which p differs by a point of n x + m y <= k
pub record Side (n m k : ℤ) (p P Q : Pt) : Type 0 where
  pub step : Step m (pos 0 -ℤ n) P Q
  pub at : n *ℤ (p.x -ℤ P.x) +ℤ m *ℤ (p.y -ℤ P.y) ≡ k

pub step : {x y : ℤ} {P Q : Pt} (m : ℤ) → pos 0 <ℤ m → Q.x -ℤ P.x ≡ m *ℤ x → Q.y -ℤ P.y ≡ m *ℤ y
    → Step x y P Q
step m h i j = record { m = m; positive = h; across = i; upwards = j }

pub side : {n m k : ℤ} {p P Q : Pt} (l : ℤ) → pos 0 <ℤ l → Q.x -ℤ P.x ≡ l *ℤ m
    → Q.y -ℤ P.y ≡ l *ℤ (pos 0 -ℤ n)
    → n *ℤ (p.x -ℤ P.x) +ℤ m *ℤ (p.y -ℤ P.y) ≡ k → Side n m k p P Q
side l h i j g = record { step = step l h i j; at = g }

-- ---- turns
turn_is : (ox oy px py nx ny : ℤ)
    → (px *ℤ pos 1 -ℤ ox *ℤ pos 1) *ℤ (ny *ℤ pos 1 -ℤ oy *ℤ pos 1) -ℤ
    (py *ℤ pos 1 -ℤ oy *ℤ pos 1) *ℤ
    (nx *ℤ pos 1 -ℤ ox *ℤ pos 1)
    ≡ (px -ℤ ox) *ℤ (ny -ℤ py) -ℤ (py -ℤ oy) *ℤ (nx -ℤ px)
turn_is ox oy px py nx ny = ring (ox ∷ oy ∷ px ∷ py ∷ nx ∷ ny ∷ [])
    ((v2 ⊗ num (pos 1) ⊖ v0 ⊗ num (pos 1)) ⊗ (v5 ⊗ num (pos 1) ⊖ v1 ⊗ num (pos 1)) ⊖
    (v3 ⊗ num (pos 1) ⊖ v1 ⊗ num (pos 1)) ⊗ (v4 ⊗ num (pos 1) ⊖ v0 ⊗ num (pos 1)))
    ((v2 ⊖ v0) ⊗ (v5 ⊖ v3) ⊖ (v3 ⊖ v1) ⊗ (v4 ⊖ v2)) refl

steps_are : (m x y k v w : ℤ) → (m *ℤ x) *ℤ (k *ℤ w) -ℤ (m *ℤ y) *ℤ (k *ℤ v)
    ≡ (m *ℤ k) *ℤ (x *ℤ w -ℤ y *ℤ v)
steps_are m x y k v w = ring (m ∷ x ∷ y ∷ k ∷ v ∷ w ∷ [])
    ((v0 ⊗ v1) ⊗ (v3 ⊗ v5) ⊖ (v0 ⊗ v2) ⊗ (v3 ⊗ v4))
    ((v0 ⊗ v3) ⊗ (v1 ⊗ v5 ⊖ v2 ⊗ v4)) refl

-- two steps turn left where the second's direction lies to the left of the first's
pub turns : (x y v w : ℤ) (o p n : Pt) → Step x y o p → Step v w p n → pos 0 <ℤ (x *ℤ w -ℤ y *ℤ v)
    → TurnsLeft o p n
unfolding side_by
turns x y v w o p n a b h =
    let q = positive_product (a.m *ℤ b.m) (x *ℤ w -ℤ y *ℤ v) (positive_product a.m b.m a.positive b.positive) h in
    rw (turn_is o.x o.y p.x p.y n.x n.y, a.across, a.upwards, b.across, b.upwards, steps_are a.m x y b.m v w) q

-- ---- sides along the octagon's own
module _ (n m k : ℤ) (q : Point) (p P Q : Pt) where
  side_is : (s : Side n m k p P Q) → cross_of P.x P.y Q.x Q.y q.x q.y q.d
      ≡ (k *ℤ q.d -ℤ (n *ℤ (p.x *ℤ q.d -ℤ q.x) +ℤ m *ℤ (p.y *ℤ q.d -ℤ q.y))) *ℤ s.step.m
  side_is s =
      let e = plain P.x P.y Q.x Q.y q.x q.y q.d in
      let f = ap₂ (λ (x y : ℤ). x *ℤ (q.y -ℤ P.y *ℤ q.d) -ℤ y *ℤ (q.x -ℤ P.x *ℤ q.d)) s.step.across s.step.upwards in
      let g = seen s.step.m P.x P.y p.x p.y q.x q.y q.d in
      let h = ap (λ (z : ℤ). (z *ℤ q.d -ℤ (n *ℤ (p.x *ℤ q.d -ℤ q.x) +ℤ m *ℤ (p.y *ℤ q.d -ℤ q.y))) *ℤ s.step.m) s.at in
      omega (arith, ints, e, f, g, h)
    where
      plain : (ax ay bx by x y d : ℤ) → cross_of ax ay bx by x y d
          ≡ (bx -ℤ ax) *ℤ (y -ℤ ay *ℤ d) -ℤ (by -ℤ ay) *ℤ
          (x -ℤ ax *ℤ d)
      plain ax ay bx by x y d = ring (ax ∷ ay ∷ bx ∷ by ∷ x ∷ y ∷ d ∷ [])
          ((v2 ⊗ num (pos 1) ⊖ v0 ⊗ num (pos 1)) ⊗ (v5 ⊗ num (pos 1) ⊖ v1 ⊗ v6) ⊖
          (v3 ⊗ num (pos 1) ⊖ v1 ⊗ num (pos 1)) ⊗ (v4 ⊗ num (pos 1) ⊖ v0 ⊗ v6))
          ((v2 ⊖ v0) ⊗ (v5 ⊖ v1 ⊗ v6) ⊖ (v3 ⊖ v1) ⊗ (v4 ⊖ v0 ⊗ v6)) refl

      seen : (l ax ay px py x y d : ℤ) → (l *ℤ m) *ℤ (y -ℤ ay *ℤ d) -ℤ (l *ℤ (pos 0 -ℤ n)) *ℤ
          (x -ℤ ax *ℤ d)
          ≡ ((n *ℤ (px -ℤ ax) +ℤ m *ℤ (py -ℤ ay)) *ℤ d -ℤ
          (n *ℤ (px *ℤ d -ℤ x) +ℤ m *ℤ (py *ℤ d -ℤ y))) *ℤ l
      seen l ax ay px py x y d = ring (l ∷ ax ∷ ay ∷ px ∷ py ∷ x ∷ y ∷ d ∷ n ∷ m ∷ [])
          ((v0 ⊗ v9) ⊗ (v6 ⊖ v2 ⊗ v7) ⊖ (v0 ⊗ (num (pos 0) ⊖ v8)) ⊗ (v5 ⊖ v1 ⊗ v7))
          (((v8 ⊗ (v3 ⊖ v1) ⊕ v9 ⊗ (v4 ⊖ v2)) ⊗ v7
          ⊖ (v8 ⊗ (v3 ⊗ v7 ⊖ v5) ⊕ v9 ⊗ (v4 ⊗ v7 ⊖ v6))) ⊗ v0) refl

  side_holds : Side n m k p P Q → (n *ℤ (p.x *ℤ q.d -ℤ q.x) +ℤ m *ℤ (p.y *ℤ q.d -ℤ q.y)) ≤ℤ
      (k *ℤ q.d)
      → IsLeftOf q (way P Q)
  unfolding side_by
  side_holds s h =
      let e = side_is s in
      let some = s.step.positive in
      let g = at_least_mul (k *ℤ q.d -ℤ (n *ℤ (p.x *ℤ q.d -ℤ q.x) +ℤ m *ℤ (p.y *ℤ q.d -ℤ q.y))) s.step.m
      (omega (arith, ints)) (omega (arith, ints)) in
      omega (arith, ints, e, g)

  pub side_gap : Side n m k p P Q → IsLeftOf q (way P Q)
      → (n *ℤ (p.x *ℤ q.d -ℤ q.x) +ℤ m *ℤ (p.y *ℤ q.d -ℤ q.y)) ≤ℤ (k *ℤ q.d)
  unfolding side_by
  side_gap s h =
      let e = side_is s in
      let g = at_least_left (k *ℤ q.d -ℤ (n *ℤ (p.x *ℤ q.d -ℤ q.x) +ℤ m *ℤ (p.y *ℤ q.d -ℤ q.y))) s.step.m
      s.step.positive (omega (arith, ints, e, h)) in
      omega (arith, ints, g)

pub scaled : (n m px py rx ry x y d : ℤ) → pos 0 ≤ℤ (n *ℤ (rx -ℤ px) +ℤ m *ℤ (ry -ℤ py)) → pos 0 <ℤ d
    → (n *ℤ (px *ℤ d -ℤ x) +ℤ m *ℤ (py *ℤ d -ℤ y)) ≤ℤ
    (n *ℤ (rx *ℤ d -ℤ x) +ℤ m *ℤ (ry *ℤ d -ℤ y))
scaled n m px py rx ry x y d h p =
    let g = at_least_mul (n *ℤ (rx -ℤ px) +ℤ m *ℤ (ry -ℤ py)) d h (omega (arith, ints)) in
    let e : (n *ℤ (rx -ℤ px) +ℤ m *ℤ (ry -ℤ py)) *ℤ d ≡ (n *ℤ (rx *ℤ d -ℤ x) +ℤ m *ℤ (ry *ℤ d -ℤ y)) -ℤ
    (n *ℤ (px *ℤ d -ℤ x) +ℤ m *ℤ (py *ℤ d -ℤ y))
    = ring (n ∷ m ∷ px ∷ py ∷ rx ∷ ry ∷ x ∷ y ∷ d ∷ [])
    ((v0 ⊗ (v4 ⊖ v2) ⊕ v1 ⊗ (v5 ⊖ v3)) ⊗ v8)
    ((v0 ⊗ (v4 ⊗ v8 ⊖ v6) ⊕ v1 ⊗ (v5 ⊗ v8 ⊖ v7)) ⊖ (v0 ⊗ (v2 ⊗ v8 ⊖ v6) ⊕ v1 ⊗ (v3 ⊗ v8 ⊖ v7))) refl in
    omega (arith, ints, g, e)

-- the mean that lies in the octagon
module _ (S U : ℤ) (q : Point) (d : pos 0 <ℤ q.d) (p r : Pt) (a : Approach S U (p.x *ℤ q.d -ℤ q.x) (p.y *ℤ q.d -ℤ q.y)
    (r.x *ℤ q.d -ℤ q.x) (r.y *ℤ q.d -ℤ q.y)) where
  -- a point is to the left of a side by the edge's first end where the edge runs inwards there
  pub first_side : (n m k : ℤ) (P Q : Pt) → Side n m k p P Q
      → pos 0 ≤ℤ (n *ℤ (r.x -ℤ p.x) +ℤ m *ℤ (r.y -ℤ p.y))
      → Lies n m (k *ℤ q.d) a.s a.t (p.x *ℤ q.d -ℤ q.x) (p.y *ℤ q.d -ℤ q.y) (r.x *ℤ q.d -ℤ q.x)
      (r.y *ℤ q.d -ℤ q.y)
      → IsLeftOf q (way P Q)
  first_side n m k P Q s h l = side_holds n m k q p P Q s (first_end a.s a.t a.from a.to a.some (p.x *ℤ q.d -ℤ q.x)
      (p.y *ℤ q.d -ℤ q.y) (r.x *ℤ q.d -ℤ q.x) (r.y *ℤ q.d -ℤ q.y) n m (k *ℤ q.d)
      (scaled n m p.x p.y r.x r.y q.x q.y q.d h d) l)

  -- and by its last end where it runs outwards
  pub last_side : (n m k : ℤ) (P Q : Pt) → Side n m k r P Q
      → pos 0 ≤ℤ (n *ℤ (p.x -ℤ r.x) +ℤ m *ℤ (p.y -ℤ r.y))
      → Lies n m (k *ℤ q.d) a.s a.t (p.x *ℤ q.d -ℤ q.x) (p.y *ℤ q.d -ℤ q.y) (r.x *ℤ q.d -ℤ q.x)
      (r.y *ℤ q.d -ℤ q.y)
      → IsLeftOf q (way P Q)
  last_side n m k P Q s h l = side_holds n m k q r P Q s (last_end a.s a.t a.from a.to a.some (p.x *ℤ q.d -ℤ q.x)
      (p.y *ℤ q.d -ℤ q.y) (r.x *ℤ q.d -ℤ q.x) (r.y *ℤ q.d -ℤ q.y) n m (k *ℤ q.d)
      (scaled n m r.x r.y p.x p.y q.x q.y q.d h d) l)

-- ---- sides along the edge
-- from p to r, both moved by v
pub record Beside (vx vy : ℤ) (p r P Q : Pt) : Type 0 where
  pub first_x : P.x ≡ p.x +ℤ vx
  pub first_y : P.y ≡ p.y +ℤ vy
  pub last_x : Q.x ≡ r.x +ℤ vx
  pub last_y : Q.y ≡ r.y +ℤ vy

pub along : {vx vy : ℤ} {p r P Q : Pt} → P.x ≡ p.x +ℤ vx → P.y ≡ p.y +ℤ vy → Q.x ≡ r.x +ℤ vx
    → Q.y ≡ r.y +ℤ vy → Beside vx vy p r P Q
along h i j k = record { first_x = h; first_y = i; last_x = j; last_y = k }

module _ (vx vy : ℤ) (q : Point) (p r P Q : Pt) where
  beside_is : Beside vx vy p r P Q → cross_of P.x P.y Q.x Q.y q.x q.y q.d *ℤ q.d
      ≡ cross (p.x *ℤ q.d -ℤ q.x) (p.y *ℤ q.d -ℤ q.y) (r.x *ℤ q.d -ℤ q.x) (r.y *ℤ q.d -ℤ q.y)
      +ℤ cross (vx *ℤ q.d) (vy *ℤ q.d) ((r.x *ℤ q.d -ℤ q.x) -ℤ (p.x *ℤ q.d -ℤ q.x))
      ((r.y *ℤ q.d -ℤ q.y) -ℤ (p.y *ℤ q.d -ℤ q.y))
  beside_is s = rw (s.first_x, s.first_y, s.last_x, s.last_y) (plain p.x p.y r.x r.y q.x q.y q.d)
    where
      plain : (ax ay bx by x y d : ℤ) → cross_of (ax +ℤ vx) (ay +ℤ vy) (bx +ℤ vx) (by +ℤ vy) x y d *ℤ d
          ≡ cross (ax *ℤ d -ℤ x) (ay *ℤ d -ℤ y) (bx *ℤ d -ℤ x) (by *ℤ d -ℤ y) +ℤ cross (vx *ℤ d)
          (vy *ℤ d)
          ((bx *ℤ d -ℤ x) -ℤ (ax *ℤ d -ℤ x)) ((by *ℤ d -ℤ y) -ℤ (ay *ℤ d -ℤ y))
      plain ax ay bx by x y d = ring (ax ∷ ay ∷ bx ∷ by ∷ x ∷ y ∷ d ∷ vx ∷ vy ∷ [])
          ((((v2 ⊕ v7) ⊗ num (pos 1) ⊖ (v0 ⊕ v7) ⊗ num (pos 1))
          ⊗ (v5 ⊗ num (pos 1) ⊖ (v1 ⊕ v8) ⊗ v6) ⊖
          ((v3 ⊕ v8) ⊗ num (pos 1) ⊖ (v1 ⊕ v8) ⊗ num (pos 1)) ⊗ (v4 ⊗ num (pos 1) ⊖ (v0 ⊕ v7) ⊗ v6))
          ⊗ v6)
          (((v0 ⊗ v6 ⊖ v4) ⊗ (v3 ⊗ v6 ⊖ v5) ⊖ (v1 ⊗ v6 ⊖ v5) ⊗ (v2 ⊗ v6 ⊖ v4)) ⊕
          ((v7 ⊗ v6) ⊗ ((v3 ⊗ v6 ⊖ v5) ⊖ (v1 ⊗ v6 ⊖ v5)) ⊖ (v8 ⊗ v6)
          ⊗ ((v2 ⊗ v6 ⊖ v4) ⊖ (v0 ⊗ v6 ⊖ v4)))) refl

  pub beside_holds : Beside vx vy p r P Q → pos 0 <ℤ q.d
      → (pos 0 -ℤ cross (vx *ℤ q.d) (vy *ℤ q.d) ((r.x *ℤ q.d -ℤ q.x) -ℤ (p.x *ℤ q.d -ℤ q.x))
      ((r.y *ℤ q.d -ℤ q.y) -ℤ (p.y *ℤ q.d -ℤ q.y)))
      ≤ℤ cross (p.x *ℤ q.d -ℤ q.x) (p.y *ℤ q.d -ℤ q.y) (r.x *ℤ q.d -ℤ q.x) (r.y *ℤ q.d -ℤ q.y)
      → IsLeftOf q (way P Q)
  unfolding side_by
  beside_holds s d h =
      let e = beside_is s in
      at_least_left (cross_of P.x P.y Q.x Q.y q.x q.y q.d) q.d d (omega (arith, ints, e, h))

  pub beside_gap : Beside vx vy p r P Q → pos 0 <ℤ q.d → IsLeftOf q (way P Q)
      → (pos 0 -ℤ cross (vx *ℤ q.d) (vy *ℤ q.d) ((r.x *ℤ q.d -ℤ q.x) -ℤ (p.x *ℤ q.d -ℤ q.x))
      ((r.y *ℤ q.d -ℤ q.y) -ℤ (p.y *ℤ q.d -ℤ q.y)))
      ≤ℤ cross (p.x *ℤ q.d -ℤ q.x) (p.y *ℤ q.d -ℤ q.y) (r.x *ℤ q.d -ℤ q.x) (r.y *ℤ q.d -ℤ q.y)
  unfolding side_by
  beside_gap s d h =
      let e = beside_is s in
      let g = at_least_mul (cross_of P.x P.y Q.x Q.y q.x q.y q.d) q.d h (omega (arith, ints)) in
      omega (arith, ints, e, g)
