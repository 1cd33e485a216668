-- The sides of a ring along the edge, in each octant of its direction, and what they and the ends say of nearness.
use Rattle.std.proofs.Common.{◌≡◌, [], ◌∷◌, refl, sym, subst, arith, ℤ, pos, neg_ℤ, ◌+ℤ◌, ◌-ℤ◌, ◌*ℤ◌, ◌<ℤ◌}
use lib.Signed.{◌≤ℤ◌}
use Rattle.std.proofs.lemmas.Int.{ints}
use Rattle.scad_base.proofs.Products.{positive_product}
use Rattle.scad_geom.specs.declared.point.Pt.{Pt}
use Rattle.scad_geom.specs.Point.{Point}
use Rattle.scad_geom.proofs.Signs.{at_least_mul, minus_times}
use Rattle.scad_geom.proofs.Ring.{ring, num, ◌⊕◌, ◌⊖◌, ◌⊗◌, v0, v1, v2, v3, v4, v5, v6}
use Rattle.scad_ring.specs.Ring.{IsLeftOf}
use Rattle.scad_ring.proofs.Lines.{way}
use Rattle.scad_ring.proofs.Convex.{cross}
use Rattle.scad_ring.proofs.Octants.{Corner, Passes, right_line, steep_right_line, steep_left_line, left_line, right_corner, steep_right_corner, steep_left_corner, left_corner, flat_line, diagonal_right_line, upright_line, diagonal_left_line}
use Rattle.scad_ring.proofs.Approaches.{ApproachFrom}
use Rattle.scad_ring.proofs.Steps.{Beside, beside_holds, beside_gap}

cross_back : (ax ay bx by : ℤ) → cross bx by ax ay ≡ pos 0 -ℤ cross ax ay bx by
cross_back ax ay bx by = ring (ax ∷ ay ∷ bx ∷ by ∷ []) (v2 ⊗ v1 ⊖ v3 ⊗ v0)
    (num (pos 0) ⊖ (v0 ⊗ v3 ⊖ v1 ⊗ v2)) refl

reach_back : (x y ax ay bx by d : ℤ) → cross ((pos 0 -ℤ x) *ℤ d) ((pos 0 -ℤ y) *ℤ d) (ax -ℤ bx)
    (ay -ℤ by)
    ≡ cross (x *ℤ d) (y *ℤ d) (bx -ℤ ax) (by -ℤ ay)
reach_back x y ax ay bx by d = ring (x ∷ y ∷ ax ∷ ay ∷ bx ∷ by ∷ d ∷ [])
    (((num (pos 0) ⊖ v0) ⊗ v6) ⊗ (v3 ⊖ v5) ⊖ ((num (pos 0) ⊖ v1) ⊗ v6) ⊗ (v2 ⊖ v4))
    ((v0 ⊗ v6) ⊗ (v5 ⊖ v3) ⊖ (v1 ⊗ v6) ⊗ (v4 ⊖ v2)) refl

-- the octagon of half width c with the corners (c, t) and (t, c) and their mirror images; u is its half sum
pub record IsOctagon (c t u : ℤ) : Type 0 where
  pub sum : u ≡ c +ℤ t
  pub least : pos 0 ≤ℤ t
  pub less : t <ℤ c

-- a half plane of the octagon holds the edge's first end
abbrev pub FirstBy : Pt → ℤ → ℤ → ℤ → Point → Type 0
FirstBy p n m k q = (n *ℤ (p.x *ℤ q.d -ℤ q.x) +ℤ m *ℤ (p.y *ℤ q.d -ℤ q.y)) ≤ℤ (k *ℤ q.d)

-- as q sees it, the edge's line passes on one side of the corner (x, y), and on the other of its mirror image
abbrev pub LeastFrom : Pt → Pt → ℤ → ℤ → Point → Type 0
LeastFrom p r x y q = (pos 0 -ℤ cross (x *ℤ q.d) (y *ℤ q.d) ((r.x *ℤ q.d -ℤ q.x) -ℤ (p.x *ℤ q.d -ℤ q.x))
    ((r.y *ℤ q.d -ℤ q.y) -ℤ (p.y *ℤ q.d -ℤ q.y)))
    ≤ℤ cross (p.x *ℤ q.d -ℤ q.x) (p.y *ℤ q.d -ℤ q.y) (r.x *ℤ q.d -ℤ q.x) (r.y *ℤ q.d -ℤ q.y)

abbrev pub MostFrom : Pt → Pt → ℤ → ℤ → Point → Type 0
MostFrom p r x y q = cross (p.x *ℤ q.d -ℤ q.x) (p.y *ℤ q.d -ℤ q.y) (r.x *ℤ q.d -ℤ q.x) (r.y *ℤ q.d -ℤ q.y)
    ≤ℤ cross (x *ℤ q.d) (y *ℤ q.d) ((r.x *ℤ q.d -ℤ q.x) -ℤ (p.x *ℤ q.d -ℤ q.x))
    ((r.y *ℤ q.d -ℤ q.y) -ℤ (p.y *ℤ q.d -ℤ q.y))

module _ (p r : Pt) (q : Point) (d : pos 0 <ℤ q.d) where
  abbrev pub PassesFrom : ℤ → ℤ → Type 0
  PassesFrom x y = Passes (x *ℤ q.d) (y *ℤ q.d) (p.x *ℤ q.d -ℤ q.x) (p.y *ℤ q.d -ℤ q.y)
      (r.x *ℤ q.d -ℤ q.x)
      (r.y *ℤ q.d -ℤ q.y)

  -- ---- the sides from the line, and the line from the sides
  pub under : (x y : ℤ) (P Q : Pt) → Beside x y p r P Q → PassesFrom x y → IsLeftOf q (way P Q)
  under x y P Q b l = let h = l.least in beside_holds x y q p r P Q b d h

  pub over : (x y : ℤ) (P Q : Pt) → Beside (pos 0 -ℤ x) (pos 0 -ℤ y) r p P Q → PassesFrom x y
      → IsLeftOf q (way P Q)
  over x y P Q b l =
      let h = l.most in
      let e = cross_back (p.x *ℤ q.d -ℤ q.x) (p.y *ℤ q.d -ℤ q.y) (r.x *ℤ q.d -ℤ q.x) (r.y *ℤ q.d -ℤ q.y) in
      let f = reach_back x y (p.x *ℤ q.d -ℤ q.x) (p.y *ℤ q.d -ℤ q.y) (r.x *ℤ q.d -ℤ q.x) (r.y *ℤ q.d -ℤ q.y) q.d in
      beside_holds (pos 0 -ℤ x) (pos 0 -ℤ y) q r p P Q b d (omega (arith, ints, h, e, f))

  pub least_by : {x y : ℤ} {P Q : Pt} → Beside x y p r P Q → IsLeftOf q (way P Q) → LeastFrom p r x y q
  least_by {x} {y} {P} {Q} b h = beside_gap x y q p r P Q b d h

  pub most_by : (x y : ℤ) {P Q : Pt} → Beside (pos 0 -ℤ x) (pos 0 -ℤ y) r p P Q → IsLeftOf q (way P Q)
      → MostFrom p r x y q
  most_by x y {P} {Q} b h =
      let e = cross_back (p.x *ℤ q.d -ℤ q.x) (p.y *ℤ q.d -ℤ q.y) (r.x *ℤ q.d -ℤ q.x) (r.y *ℤ q.d -ℤ q.y) in
      let f = reach_back x y (p.x *ℤ q.d -ℤ q.x) (p.y *ℤ q.d -ℤ q.y) (r.x *ℤ q.d -ℤ q.x) (r.y *ℤ q.d -ℤ q.y) q.d in
      let k = beside_gap (pos 0 -ℤ x) (pos 0 -ℤ y) q r p P Q b d h in
      omega (arith, ints, e, f, k)

  -- ---- signs over the divisor
  gap_is : (a b x : ℤ) → (b *ℤ q.d -ℤ x) -ℤ (a *ℤ q.d -ℤ x) ≡ (b -ℤ a) *ℤ q.d
  gap_is a b x = ring (a ∷ b ∷ x ∷ q.d ∷ []) ((v1 ⊗ v3 ⊖ v2) ⊖ (v0 ⊗ v3 ⊖ v2)) ((v1 ⊖ v0) ⊗ v3)
      refl

  pub goes_up : (a b x : ℤ) → a ≤ℤ b → pos 0 ≤ℤ ((b *ℤ q.d -ℤ x) -ℤ (a *ℤ q.d -ℤ x))
  goes_up a b x h =
      let e = gap_is a b x in
      let m = at_least_mul (b -ℤ a) q.d (omega (arith, ints)) (omega (arith, ints)) in
      omega (arith, ints, e, m)

  pub rises : (a b x : ℤ) → a <ℤ b → pos 0 <ℤ ((b *ℤ q.d -ℤ x) -ℤ (a *ℤ q.d -ℤ x))
  rises a b x h =
      let e = gap_is a b x in
      let m = positive_product (b -ℤ a) q.d (omega (arith, ints)) d in
      omega (arith, ints, e, m)

  -- the difference of two gaps, and their sum
  pub steeper : (a b c e x y : ℤ) → (b -ℤ a) ≤ℤ (e -ℤ c)
      → ((b *ℤ q.d -ℤ x) -ℤ (a *ℤ q.d -ℤ x)) ≤ℤ
      ((e *ℤ q.d -ℤ y) -ℤ (c *ℤ q.d -ℤ y))
  steeper a b c e x y h =
      let f = gap_is a b x in
      let g = gap_is c e y in
      let m = at_least_mul ((e -ℤ c) -ℤ (b -ℤ a)) q.d (omega (arith, ints)) (omega (arith, ints)) in
      let k : ((e -ℤ c) -ℤ (b -ℤ a)) *ℤ q.d ≡ (e -ℤ c) *ℤ q.d -ℤ (b -ℤ a) *ℤ q.d = ring (a ∷ b ∷ c ∷ e ∷ q.d ∷ [])
      (((v3 ⊖ v2) ⊖ (v1 ⊖ v0)) ⊗ v4) ((v3 ⊖ v2) ⊗ v4 ⊖ (v1 ⊖ v0) ⊗ v4) refl in
      omega (arith, ints, f, g, m, k)

  module _ {c t u : ℤ} (o : IsOctagon c t u) where
    sum_is : u *ℤ q.d ≡ c *ℤ q.d +ℤ t *ℤ q.d
    sum_is = rw o.sum (ring (c ∷ t ∷ q.d ∷ []) ((v0 ⊕ v1) ⊗ v2) (v0 ⊗ v2 ⊕ v1 ⊗ v2) refl)

    positive : pos 0 <ℤ (c *ℤ q.d)
    positive = positive_product c q.d (omega (arith, ints, o.less, o.least)) d

    slim : pos 0 ≤ℤ (t *ℤ q.d)
    slim = at_least_mul t q.d o.least (omega (arith, ints))

    narrow : (t *ℤ q.d) ≤ℤ (c *ℤ q.d)
    narrow =
        let m = at_least_mul (c -ℤ t) q.d (omega (arith, ints, o.less)) (omega (arith, ints)) in
        let e : (c -ℤ t) *ℤ q.d ≡ c *ℤ q.d -ℤ t *ℤ q.d = ring (c ∷ t ∷ q.d ∷ []) ((v0 ⊖ v1) ⊗ v2) (v0 ⊗ v2 ⊖ v1 ⊗ v2)
        refl in
        omega (arith, ints, m, e)

    abbrev pub CornerFrom : ℤ → ℤ → Type 0
    CornerFrom x y = Corner (c *ℤ q.d) (u *ℤ q.d) (x *ℤ q.d) (y *ℤ q.d) (p.x *ℤ q.d -ℤ q.x)
        (p.y *ℤ q.d -ℤ q.y)
        (r.x *ℤ q.d -ℤ q.x) (r.y *ℤ q.d -ℤ q.y)

    -- ---- the corner of each octant
    pub right_by : p.x <ℤ r.x → p.y ≤ℤ r.y → PassesFrom t (pos 0 -ℤ c) → CornerFrom t (pos 0 -ℤ c)
    right_by x y l = subst
        (λ (z : ℤ). Passes (t *ℤ q.d) z (p.x *ℤ q.d -ℤ q.x) (p.y *ℤ q.d -ℤ q.y) (r.x *ℤ q.d -ℤ q.x)
        (r.y *ℤ q.d -ℤ q.y)
        → Corner (c *ℤ q.d) (u *ℤ q.d) (t *ℤ q.d) z (p.x *ℤ q.d -ℤ q.x) (p.y *ℤ q.d -ℤ q.y)
        (r.x *ℤ q.d -ℤ q.x)
        (r.y *ℤ q.d -ℤ q.y)) (sym (minus_times c q.d))
        (right_corner (c *ℤ q.d) (t *ℤ q.d) (u *ℤ q.d) sum_is positive slim narrow (p.x *ℤ q.d -ℤ q.x)
        (p.y *ℤ q.d -ℤ q.y) (r.x *ℤ q.d -ℤ q.x) (r.y *ℤ q.d -ℤ q.y) (rises p.x r.x q.x x)
        (goes_up p.y r.y q.y y)) l

    pub steep_right_by : p.x ≤ℤ r.x → p.y <ℤ r.y → PassesFrom c (pos 0 -ℤ t) → CornerFrom c (pos 0 -ℤ t)
    steep_right_by x y l = subst
        (λ (z : ℤ). Passes (c *ℤ q.d) z (p.x *ℤ q.d -ℤ q.x) (p.y *ℤ q.d -ℤ q.y) (r.x *ℤ q.d -ℤ q.x)
        (r.y *ℤ q.d -ℤ q.y)
        → Corner (c *ℤ q.d) (u *ℤ q.d) (c *ℤ q.d) z (p.x *ℤ q.d -ℤ q.x) (p.y *ℤ q.d -ℤ q.y)
        (r.x *ℤ q.d -ℤ q.x)
        (r.y *ℤ q.d -ℤ q.y)) (sym (minus_times t q.d))
        (steep_right_corner (c *ℤ q.d) (t *ℤ q.d) (u *ℤ q.d) sum_is positive slim narrow (p.x *ℤ q.d -ℤ q.x)
        (p.y *ℤ q.d -ℤ q.y) (r.x *ℤ q.d -ℤ q.x) (r.y *ℤ q.d -ℤ q.y) (goes_up p.x r.x q.x x)
        (rises p.y r.y q.y y)) l

    pub steep_left_by : r.x ≤ℤ p.x → p.y <ℤ r.y → PassesFrom c t → CornerFrom c t
    steep_left_by x y l =
        let g = goes_up r.x p.x q.x x in
        steep_left_corner (c *ℤ q.d) (t *ℤ q.d) (u *ℤ q.d) sum_is positive slim narrow (p.x *ℤ q.d -ℤ q.x)
        (p.y *ℤ q.d -ℤ q.y) (r.x *ℤ q.d -ℤ q.x) (r.y *ℤ q.d -ℤ q.y) (omega (arith, ints, g))
        (rises p.y r.y q.y y) l

    pub left_by : r.x <ℤ p.x → p.y ≤ℤ r.y → PassesFrom t c → CornerFrom t c
    left_by x y l =
        let g = rises r.x p.x q.x x in
        left_corner (c *ℤ q.d) (t *ℤ q.d) (u *ℤ q.d) sum_is positive slim narrow (p.x *ℤ q.d -ℤ q.x)
        (p.y *ℤ q.d -ℤ q.y) (r.x *ℤ q.d -ℤ q.x) (r.y *ℤ q.d -ℤ q.y) (omega (arith, ints, g))
        (goes_up p.y r.y q.y y) l

    -- ---- the line from a mean
    pub right_passes : p.y ≤ℤ r.y → (r.y -ℤ p.y) ≤ℤ (r.x -ℤ p.x) → ApproachFrom c u q p r
        → PassesFrom t (pos 0 -ℤ c)
    right_passes y x a = subst
        (λ (z : ℤ). Passes (t *ℤ q.d) z (p.x *ℤ q.d -ℤ q.x) (p.y *ℤ q.d -ℤ q.y) (r.x *ℤ q.d -ℤ q.x)
        (r.y *ℤ q.d -ℤ q.y)) (sym (minus_times c q.d))
        (right_line (c *ℤ q.d) (t *ℤ q.d) (u *ℤ q.d) sum_is (p.x *ℤ q.d -ℤ q.x) (p.y *ℤ q.d -ℤ q.y)
        (r.x *ℤ q.d -ℤ q.x)
        (r.y *ℤ q.d -ℤ q.y) a (goes_up p.y r.y q.y y) (steeper p.y r.y p.x r.x q.y q.x x))

    pub steep_right_passes : p.x ≤ℤ r.x → (r.x -ℤ p.x) ≤ℤ (r.y -ℤ p.y) → ApproachFrom c u q p r
        → PassesFrom c (pos 0 -ℤ t)
    steep_right_passes x y a = subst
        (λ (z : ℤ). Passes (c *ℤ q.d) z (p.x *ℤ q.d -ℤ q.x) (p.y *ℤ q.d -ℤ q.y) (r.x *ℤ q.d -ℤ q.x)
        (r.y *ℤ q.d -ℤ q.y)) (sym (minus_times t q.d))
        (steep_right_line (c *ℤ q.d) (t *ℤ q.d) (u *ℤ q.d) sum_is (p.x *ℤ q.d -ℤ q.x) (p.y *ℤ q.d -ℤ q.y)
        (r.x *ℤ q.d -ℤ q.x) (r.y *ℤ q.d -ℤ q.y) a (goes_up p.x r.x q.x x) (steeper p.x r.x p.y r.y q.x q.y y))

    pub steep_left_passes : r.x ≤ℤ p.x → (p.x -ℤ r.x) ≤ℤ (r.y -ℤ p.y) → ApproachFrom c u q p r
        → PassesFrom c t
    steep_left_passes x y a =
        let g = goes_up r.x p.x q.x x in
        let h = steeper r.x p.x p.y r.y q.x q.y y in
        steep_left_line (c *ℤ q.d) (t *ℤ q.d) (u *ℤ q.d) sum_is (p.x *ℤ q.d -ℤ q.x) (p.y *ℤ q.d -ℤ q.y)
        (r.x *ℤ q.d -ℤ q.x) (r.y *ℤ q.d -ℤ q.y) a (omega (arith, ints, g)) (omega (arith, ints, h))

    pub left_passes : p.y ≤ℤ r.y → (r.y -ℤ p.y) ≤ℤ (p.x -ℤ r.x) → ApproachFrom c u q p r
        → PassesFrom t c
    left_passes y x a =
        let h = steeper p.y r.y r.x p.x q.y q.x x in
        left_line (c *ℤ q.d) (t *ℤ q.d) (u *ℤ q.d) sum_is (p.x *ℤ q.d -ℤ q.x) (p.y *ℤ q.d -ℤ q.y)
        (r.x *ℤ q.d -ℤ q.x)
        (r.y *ℤ q.d -ℤ q.y) a (goes_up p.y r.y q.y y) (omega (arith, ints, h))

    -- ---- the line from the half planes that an edge along the octagon's sides runs between
    pub flat_passes : p.x ≤ℤ r.x → p.y ≡ r.y → FirstBy p (pos 0) (pos 1) c q
        → FirstBy p (pos 0) (neg_ℤ (pos 1)) c q → PassesFrom t (pos 0 -ℤ c)
    flat_passes x y g h =
        let k = goes_up p.y r.y q.y (omega (arith, ints)) in
        let l = goes_up r.y p.y q.y (omega (arith, ints)) in
        subst (λ (z : ℤ). Passes (t *ℤ q.d) z (p.x *ℤ q.d -ℤ q.x) (p.y *ℤ q.d -ℤ q.y)
        (r.x *ℤ q.d -ℤ q.x)
        (r.y *ℤ q.d -ℤ q.y)) (sym (minus_times c q.d))
        (flat_line (c *ℤ q.d) (t *ℤ q.d) (u *ℤ q.d) sum_is (p.x *ℤ q.d -ℤ q.x) (p.y *ℤ q.d -ℤ q.y)
        (r.x *ℤ q.d -ℤ q.x)
        (r.y *ℤ q.d -ℤ q.y) (goes_up p.x r.x q.x x) (omega (arith, ints, k, l)) g h)

    pub diagonal_right_passes : p.x ≤ℤ r.x → r.y -ℤ p.y ≡ r.x -ℤ p.x → FirstBy p (neg_ℤ (pos 1)) (pos 1) u q
        → FirstBy p (pos 1) (neg_ℤ (pos 1)) u q → PassesFrom t (pos 0 -ℤ c)
    diagonal_right_passes x y g h =
        let k = steeper p.x r.x p.y r.y q.x q.y (omega (arith, ints)) in
        let l = steeper p.y r.y p.x r.x q.y q.x (omega (arith, ints)) in
        subst (λ (z : ℤ). Passes (t *ℤ q.d) z (p.x *ℤ q.d -ℤ q.x) (p.y *ℤ q.d -ℤ q.y)
        (r.x *ℤ q.d -ℤ q.x)
        (r.y *ℤ q.d -ℤ q.y)) (sym (minus_times c q.d))
        (diagonal_right_line (c *ℤ q.d) (t *ℤ q.d) (u *ℤ q.d) sum_is (p.x *ℤ q.d -ℤ q.x)
        (p.y *ℤ q.d -ℤ q.y)
        (r.x *ℤ q.d -ℤ q.x) (r.y *ℤ q.d -ℤ q.y) (goes_up p.x r.x q.x x) (omega (arith, ints, k, l)) g h)

    pub upright_passes : p.x ≡ r.x → p.y ≤ℤ r.y → FirstBy p (neg_ℤ (pos 1)) (pos 0) c q
        → FirstBy p (pos 1) (pos 0) c q → PassesFrom c (pos 0 -ℤ t)
    upright_passes x y g h =
        let k = goes_up p.x r.x q.x (omega (arith, ints)) in
        let l = goes_up r.x p.x q.x (omega (arith, ints)) in
        subst (λ (z : ℤ). Passes (c *ℤ q.d) z (p.x *ℤ q.d -ℤ q.x) (p.y *ℤ q.d -ℤ q.y)
        (r.x *ℤ q.d -ℤ q.x)
        (r.y *ℤ q.d -ℤ q.y)) (sym (minus_times t q.d))
        (upright_line (c *ℤ q.d) (t *ℤ q.d) (u *ℤ q.d) sum_is (p.x *ℤ q.d -ℤ q.x) (p.y *ℤ q.d -ℤ q.y)
        (r.x *ℤ q.d -ℤ q.x) (r.y *ℤ q.d -ℤ q.y) (omega (arith, ints, k, l)) (goes_up p.y r.y q.y y) g h)

    pub diagonal_left_passes : r.y -ℤ p.y ≡ p.x -ℤ r.x → p.y ≤ℤ r.y
        → FirstBy p (neg_ℤ (pos 1)) (neg_ℤ (pos 1)) u q → FirstBy p (pos 1) (pos 1) u q → PassesFrom c t
    diagonal_left_passes x y g h =
        let k = steeper r.x p.x p.y r.y q.x q.y (omega (arith, ints)) in
        let l = steeper p.y r.y r.x p.x q.y q.x (omega (arith, ints)) in
        diagonal_left_line (c *ℤ q.d) (t *ℤ q.d) (u *ℤ q.d) sum_is (p.x *ℤ q.d -ℤ q.x) (p.y *ℤ q.d -ℤ q.y)
        (r.x *ℤ q.d -ℤ q.x) (r.y *ℤ q.d -ℤ q.y) (omega (arith, ints, k, l)) (goes_up p.y r.y q.y y) g h
