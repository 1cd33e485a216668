-- Edges meet where the ends of each lie on both sides of the line of the other.
use Rattle.std.proofs.Common.{◌≡◌, ◌⊎◌, inl, inr, Bool, true, false, cond, [], ◌∷◌, refl, sym, ap, ap₂, ◌∙◌, subst, arith}
use Rattle.std.proofs.Common.{ℤ, pos, ◌+ℤ◌, ◌-ℤ◌, ◌*ℤ◌, ◌<ℤ◌}
use lib.Signed.{◌≤ℤ◌}
use Rattle.std.specs.Prelude.{int_lt}
use Rattle.std.proofs.lemmas.Int.{ints, by_lt_z}
use Rattle.scad_base.proofs.Products.{positive_product, zero_factor}
use Rattle.scad_geom.specs.declared.point.Pt.{Pt}
use Rattle.scad_geom.specs.declared.point.Edge.{Edge}
use Rattle.scad_geom.specs.Point.{Point, whole}
use Rattle.scad_geom.specs.Line.{low, high, rise, run, lean}
use Rattle.scad_geom.proofs.Ring.{ring, num, ◌⊕◌, ◌⊖◌, ◌⊗◌, v0, v1, v2, v3, v4, v5, v6, v7, v8, v9, v10}
use Rattle.scad_geom.proofs.Signs.{at_least_mul}
use Rattle.slice_events.specs.Common.{IsBetween, AreParallel, IsAt}

-- ---- the ends of an edge in either order
pub either_way : (e : Edge) (P : Pt → Pt → Type 0) → P e.a e.b → P e.b e.a → P (low e) (high e)
unfolding low high
either_way e P up down = by_test (int_lt e.b.y e.a.y)
  where
    by_test : (t : Bool) → P (cond t e.b e.a) (cond t e.a e.b)
    by_test true = down
    by_test false = up

weights_turned : (s t a b d : ℤ) → (s *ℤ a +ℤ t *ℤ b) *ℤ d ≡ (t *ℤ b +ℤ s *ℤ a) *ℤ d
weights_turned s t a b d = ring (s ∷ t ∷ a ∷ b ∷ d ∷ []) ((v0 ⊗ v2 ⊕ v1 ⊗ v3) ⊗ v4)
    ((v1 ⊗ v3 ⊕ v0 ⊗ v2) ⊗ v4) refl

sum_turned : (s t p : ℤ) → (t +ℤ s) *ℤ p ≡ (s +ℤ t) *ℤ p
sum_turned s t p = ring (s ∷ t ∷ p ∷ []) ((v1 ⊕ v0) ⊗ v2) ((v0 ⊕ v1) ⊗ v2) refl

pub turned : (a b : Pt) (p : Point) → IsBetween a b p → IsBetween b a p
turned a b p h =
    let some = h.some in
    record {
      s = h.t;
      t = h.s;
      first = h.second;
      second = h.first;
      some = omega (arith, ints, some);
      x = sum_turned h.s h.t p.x ∙ h.x ∙ weights_turned h.s h.t a.x b.x p.d;
      y = sum_turned h.s h.t p.y ∙ h.y ∙ weights_turned h.s h.t a.y b.y p.d;
    }

pub to_low : (e : Edge) (p : Point) → IsBetween e.a e.b p → IsBetween (low e) (high e) p
to_low e p h = either_way e (λ l u. IsBetween l u p) h (turned e.a e.b p h)

pub from_low : (e : Edge) (p : Point) → IsBetween (low e) (high e) p → IsBetween e.a e.b p
from_low e p = either_way e (λ l u. IsBetween l u p → IsBetween e.a e.b p) (λ h. h) (λ h. turned e.b e.a p h)

-- ---- directions
-- how much more the way from l to h leans to the right than that from m to n
abbrev pub turn_of : Pt → Pt → Pt → Pt → ℤ
turn_of l h m n = (h.x -ℤ l.x) *ℤ (n.y -ℤ m.y) -ℤ (n.x -ℤ m.x) *ℤ (h.y -ℤ l.y)

abbrev IsUpToSign : ℤ → ℤ → Type 0
IsUpToSign y z = (y ≡ z) ⊎ (y ≡ pos 0 -ℤ z)

zero_up : (y z : ℤ) → IsUpToSign y z → y ≡ pos 0 → z ≡ pos 0
zero_up y z (inl h) k = sym h ∙ k
zero_up y z (inr h) k = omega (arith, ints)

up_zero : (y z : ℤ) → IsUpToSign y z → z ≡ pos 0 → y ≡ pos 0
up_zero y z (inl h) k = h ∙ k
up_zero y z (inr h) k = omega (arith, ints)

first_turned : (lx ly hx hy u v : ℤ) → (lx -ℤ hx) *ℤ v -ℤ u *ℤ (ly -ℤ hy)
    ≡ pos 0 -ℤ ((hx -ℤ lx) *ℤ v -ℤ u *ℤ (hy -ℤ ly))
first_turned lx ly hx hy u v =
    ring (lx ∷ ly ∷ hx ∷ hy ∷ u ∷ v ∷ []) ((v0 ⊖ v2) ⊗ v5 ⊖ v4 ⊗ (v1 ⊖ v3))
    (num (pos 0) ⊖ ((v2 ⊖ v0) ⊗ v5 ⊖ v4 ⊗ (v3 ⊖ v1))) refl

second_turned : (mx my nx ny u v : ℤ) → u *ℤ (my -ℤ ny) -ℤ (mx -ℤ nx) *ℤ v
    ≡ pos 0 -ℤ (u *ℤ (ny -ℤ my) -ℤ (nx -ℤ mx) *ℤ v)
second_turned mx my nx ny u v =
    ring (mx ∷ my ∷ nx ∷ ny ∷ u ∷ v ∷ []) (v4 ⊗ (v1 ⊖ v3) ⊖ (v0 ⊖ v2) ⊗ v5)
    (num (pos 0) ⊖ (v4 ⊗ (v3 ⊖ v1) ⊖ (v2 ⊖ v0) ⊗ v5)) refl

first_way : (e : Edge) (m n : Pt) → IsUpToSign (turn_of (low e) (high e) m n) (turn_of e.a e.b m n)
first_way e m n =
    either_way e (λ l h. IsUpToSign (turn_of l h m n) (turn_of e.a e.b m n)) (inl refl)
    (inr (first_turned e.a.x e.a.y e.b.x e.b.y (n.x -ℤ m.x) (n.y -ℤ m.y)))

second_way : (f : Edge) (l h : Pt) → IsUpToSign (turn_of l h (low f) (high f)) (turn_of l h f.a f.b)
second_way f l h =
    either_way f (λ m n. IsUpToSign (turn_of l h m n) (turn_of l h f.a f.b)) (inl refl)
    (inr (second_turned f.a.x f.a.y f.b.x f.b.y (h.x -ℤ l.x) (h.y -ℤ l.y)))

exchanged : (a b c d : ℤ) → a *ℤ b -ℤ c *ℤ d ≡ a *ℤ b -ℤ d *ℤ c
exchanged a b c d = ring (a ∷ b ∷ c ∷ d ∷ []) (v0 ⊗ v1 ⊖ v2 ⊗ v3) (v0 ⊗ v1 ⊖ v3 ⊗ v2) refl

no_gap : (y z : ℤ) → y ≡ z → y -ℤ z ≡ pos 0
no_gap y z h = omega (arith, ints)

gap_none : (y z : ℤ) → y -ℤ z ≡ pos 0 → y ≡ z
gap_none y z h = omega (arith, ints)

pub parallel_flat : (e f : Edge) → AreParallel e f → lean e f ≡ pos 0
unfolding lean run rise
parallel_flat e f h =
    up_zero (turn_of (low e) (high e) (low f) (high f)) (turn_of e.a e.b (low f) (high f))
    (first_way e (low f) (high f))
    (up_zero (turn_of e.a e.b (low f) (high f)) (turn_of e.a e.b f.a f.b) (second_way f e.a e.b)
    (exchanged (e.b.x -ℤ e.a.x) (f.b.y -ℤ f.a.y) (f.b.x -ℤ f.a.x) (e.b.y -ℤ e.a.y) ∙ no_gap _ _ h))

pub flat_parallel : (e f : Edge) → lean e f ≡ pos 0 → AreParallel e f
unfolding lean run rise
flat_parallel e f h =
    gap_none _ _
    (sym (exchanged (e.b.x -ℤ e.a.x) (f.b.y -ℤ f.a.y) (f.b.x -ℤ f.a.x) (e.b.y -ℤ e.a.y))
    ∙ zero_up (turn_of e.a e.b (low f) (high f)) (turn_of e.a e.b f.a f.b) (second_way f e.a e.b)
    (zero_up (turn_of (low e) (high e) (low f) (high f)) (turn_of e.a e.b (low f) (high f))
    (first_way e (low f) (high f)) h))

-- ---- a point and a line
-- above 0 where a point lies to the left of the line from l to h
abbrev pub left_by : Pt → Pt → Point → ℤ
left_by l h p = ((h.x -ℤ l.x) *ℤ p.y +ℤ ((h.y -ℤ l.y) *ℤ l.x -ℤ (h.x -ℤ l.x) *ℤ l.y) *ℤ p.d) -ℤ
    (h.y -ℤ l.y) *ℤ p.x

-- a point of the way from m to n, to a line: the mean of the ends
mean_by : (u c r s t mx my nx ny px py d : ℤ) → (s +ℤ t) *ℤ px ≡ (s *ℤ mx +ℤ t *ℤ nx) *ℤ d
    → (s +ℤ t) *ℤ py ≡ (s *ℤ my +ℤ t *ℤ ny) *ℤ d
    → ((u *ℤ py +ℤ c *ℤ d) -ℤ r *ℤ px) *ℤ (s +ℤ t)
    ≡ (s *ℤ ((u *ℤ my +ℤ c *ℤ pos 1) -ℤ r *ℤ mx) +ℤ t *ℤ
    ((u *ℤ ny +ℤ c *ℤ pos 1) -ℤ r *ℤ nx)) *ℤ d
mean_by u c r s t mx my nx ny px py d hx hy =
    ring (u ∷ c ∷ r ∷ s ∷ t ∷ px ∷ py ∷ d ∷ [])
    (((v0 ⊗ v6 ⊕ v1 ⊗ v7) ⊖ v2 ⊗ v5) ⊗ (v3 ⊕ v4))
    ((v0 ⊗ ((v3 ⊕ v4) ⊗ v6) ⊕ (v1 ⊗ v7) ⊗ (v3 ⊕ v4)) ⊖ v2 ⊗ ((v3 ⊕ v4) ⊗ v5)) refl
    ∙ ap₂ (λ (y z : ℤ). (u *ℤ y +ℤ (c *ℤ d) *ℤ (s +ℤ t)) -ℤ r *ℤ z) hy hx
    ∙ ring (u ∷ c ∷ r ∷ s ∷ t ∷ mx ∷ my ∷ nx ∷ ny ∷ d ∷ [])
    ((v0 ⊗ ((v3 ⊗ v6 ⊕ v4 ⊗ v8) ⊗ v9) ⊕ (v1 ⊗ v9) ⊗ (v3 ⊕ v4)) ⊖ v2
    ⊗ ((v3 ⊗ v5 ⊕ v4 ⊗ v7) ⊗ v9))
    ((v3 ⊗ ((v0 ⊗ v6 ⊕ v1 ⊗ num (pos 1)) ⊖ v2 ⊗ v5) ⊕ v4
    ⊗ ((v0 ⊗ v8 ⊕ v1 ⊗ num (pos 1)) ⊖ v2 ⊗ v7)) ⊗ v9) refl

pub mean_left : (l h m n : Pt) (p : Point) (w : IsBetween m n p)
    → left_by l h p *ℤ (w.s +ℤ w.t) ≡ (w.s *ℤ left_by l h (whole m) +ℤ w.t *ℤ left_by l h (whole n)) *ℤ
    p.d
mean_left l h m n p w =
    mean_by (h.x -ℤ l.x) ((h.y -ℤ l.y) *ℤ l.x -ℤ (h.x -ℤ l.x) *ℤ l.y) (h.y -ℤ l.y) w.s w.t m.x m.y n.x n.y
    p.x p.y p.d w.x w.y

-- the ends lie on their line, and so does each point between them
start_on : (l h : Pt) → left_by l h (whole l) ≡ pos 0
start_on l h =
    ring (l.x ∷ l.y ∷ h.x ∷ h.y ∷ [])
    (((v2 ⊖ v0) ⊗ v1 ⊕ ((v3 ⊖ v1) ⊗ v0 ⊖ (v2 ⊖ v0) ⊗ v1) ⊗ num (pos 1)) ⊖ (v3 ⊖ v1) ⊗ v0)
    (num (pos 0)) refl

end_on : (l h : Pt) → left_by l h (whole h) ≡ pos 0
end_on l h =
    ring (l.x ∷ l.y ∷ h.x ∷ h.y ∷ [])
    (((v2 ⊖ v0) ⊗ v3 ⊕ ((v3 ⊖ v1) ⊗ v0 ⊖ (v2 ⊖ v0) ⊗ v1) ⊗ num (pos 1)) ⊖ (v3 ⊖ v1) ⊗ v2)
    (num (pos 0)) refl

no_mean : (s t d : ℤ) → (s *ℤ pos 0 +ℤ t *ℤ pos 0) *ℤ d ≡ pos 0
no_mean s t d = ring (s ∷ t ∷ d ∷ []) ((v0 ⊗ num (pos 0) ⊕ v1 ⊗ num (pos 0)) ⊗ v2) (num (pos 0)) refl

pub on_line : (l h : Pt) (p : Point) → IsBetween l h p → left_by l h p ≡ pos 0
on_line l h p w =
    zero_factor (left_by l h p) (w.s +ℤ w.t) w.some
    (mean_left l h l h p w
    ∙ ap₂ (λ (y z : ℤ). (w.s *ℤ y +ℤ w.t *ℤ z) *ℤ p.d) (start_on l h) (end_on l h)
    ∙ no_mean w.s w.t p.d)

-- ---- on both sides
abbrev pub AreOpposite : ℤ → ℤ → Type 0
AreOpposite y z = ((y ≤ℤ pos 0) × (pos 0 ≤ℤ z)) ⊎ ((pos 0 ≤ℤ y) × (z ≤ℤ pos 0))

both_above : (s t y z : ℤ) → pos 0 ≤ℤ s → pos 0 ≤ℤ t → pos 0 <ℤ (s +ℤ t) → pos 0 <ℤ y
    → pos 0 <ℤ z → s *ℤ y +ℤ t *ℤ z ≡ pos 0 → ⊥
both_above s t y z hs ht some hy hz e =
    by_lt_z (pos 0) s
    (λ h. let a = positive_product s y h hy in let b = at_least_mul t z ht (omega (arith, ints)) in omega (arith, ints, a, b))
    (λ h.
    let a = at_least_mul s y hs (omega (arith, ints)) in
    let b = positive_product t z (omega (arith, ints)) hz in
    omega (arith, ints, a, b))

negated : (s t y z : ℤ) → s *ℤ (pos 0 -ℤ y) +ℤ t *ℤ (pos 0 -ℤ z) ≡ pos 0 -ℤ (s *ℤ y +ℤ t *ℤ z)
negated s t y z =
    ring (s ∷ t ∷ y ∷ z ∷ []) (v0 ⊗ (num (pos 0) ⊖ v2) ⊕ v1 ⊗ (num (pos 0) ⊖ v3))
    (num (pos 0) ⊖ (v0 ⊗ v2 ⊕ v1 ⊗ v3)) refl

both_below : (s t y z : ℤ) → pos 0 ≤ℤ s → pos 0 ≤ℤ t → pos 0 <ℤ (s +ℤ t) → y <ℤ pos 0
    → z <ℤ pos 0 → s *ℤ y +ℤ t *ℤ z ≡ pos 0 → ⊥
both_below s t y z hs ht some hy hz e =
    both_above s t (pos 0 -ℤ y) (pos 0 -ℤ z) hs ht some (omega (arith, ints)) (omega (arith, ints))
    (negated s t y z ∙ ap (λ (w : ℤ). pos 0 -ℤ w) e)

opposite_by : (s t y z : ℤ) → pos 0 ≤ℤ s → pos 0 ≤ℤ t → pos 0 <ℤ (s +ℤ t)
    → s *ℤ y +ℤ t *ℤ z ≡ pos 0 → AreOpposite y z
opposite_by s t y z hs ht some e =
    by_lt_z (pos 0) y
    (λ above. by_lt_z (pos 0) z
    (λ more. absurd (both_above s t y z hs ht some above more e))
    (λ most. inr (omega (arith, ints), most)))
    (λ most. by_lt_z z (pos 0)
    (λ below. by_lt_z y (pos 0)
    (λ less. absurd (both_below s t y z hs ht some less below e))
    (λ least. inr (least, omega (arith, ints))))
    (λ least. inl (most, least)))

-- the ends of a way through a point of a line lie on both sides of it
pub ends_opposite : (l h m n : Pt) (p : Point) → pos 0 <ℤ p.d → IsBetween l h p → IsBetween m n p
    → AreOpposite (left_by l h (whole m)) (left_by l h (whole n))
ends_opposite l h m n p positive of_line w =
    opposite_by w.s w.t (left_by l h (whole m)) (left_by l h (whole n)) w.first w.second w.some
    (zero_factor (w.s *ℤ left_by l h (whole m) +ℤ w.t *ℤ left_by l h (whole n)) p.d positive
    (sym (mean_left l h m n p w) ∙ ap (λ (z : ℤ). z *ℤ (w.s +ℤ w.t)) (on_line l h p of_line)
    ∙ none (w.s +ℤ w.t)))
  where
    none : (z : ℤ) → pos 0 *ℤ z ≡ pos 0
    none z = ring (z ∷ []) (num (pos 0) ⊗ v0) (num (pos 0)) refl

-- ---- the common point
weighted : (s t a b d : ℤ) → d ≡ t -ℤ s
    → (t +ℤ (pos 0 -ℤ s)) *ℤ (t *ℤ a -ℤ s *ℤ b) ≡ (t *ℤ a +ℤ (pos 0 -ℤ s) *ℤ b) *ℤ d
weighted s t a b d h =
    ring (s ∷ t ∷ a ∷ b ∷ []) ((v1 ⊕ (num (pos 0) ⊖ v0)) ⊗ (v1 ⊗ v2 ⊖ v0 ⊗ v3))
    ((v1 ⊗ v2 ⊕ (num (pos 0) ⊖ v0) ⊗ v3) ⊗ (v1 ⊖ v0)) refl
    ∙ ap (λ (z : ℤ). (t *ℤ a +ℤ (pos 0 -ℤ s) *ℤ b) *ℤ z) (sym h)

other_weighted : (s t a b p d : ℤ) → d ≡ s -ℤ t → p ≡ s *ℤ b -ℤ t *ℤ a
    → ((pos 0 -ℤ t) +ℤ s) *ℤ p ≡ ((pos 0 -ℤ t) *ℤ a +ℤ s *ℤ b) *ℤ d
other_weighted s t a b p d h e =
    ap (λ (z : ℤ). ((pos 0 -ℤ t) +ℤ s) *ℤ z) e
    ∙ ring (s ∷ t ∷ a ∷ b ∷ []) (((num (pos 0) ⊖ v1) ⊕ v0) ⊗ (v0 ⊗ v3 ⊖ v1 ⊗ v2))
    (((num (pos 0) ⊖ v1) ⊗ v2 ⊕ v0 ⊗ v3) ⊗ (v0 ⊖ v1)) refl
    ∙ ap (λ (z : ℤ). ((pos 0 -ℤ t) *ℤ a +ℤ s *ℤ b) *ℤ z) (sym h)

-- the ends of one way, seen from the line of the other
gap_is : (l h m n : Pt) → turn_of l h m n ≡ left_by l h (whole n) -ℤ left_by l h (whole m)
gap_is l h m n =
    ring (l.x ∷ l.y ∷ h.x ∷ h.y ∷ m.x ∷ m.y ∷ n.x ∷ n.y ∷ [])
    ((v2 ⊖ v0) ⊗ (v7 ⊖ v5) ⊖ (v6 ⊖ v4) ⊗ (v3 ⊖ v1))
    ((((v2 ⊖ v0) ⊗ v7 ⊕ ((v3 ⊖ v1) ⊗ v0 ⊖ (v2 ⊖ v0) ⊗ v1) ⊗ num (pos 1)) ⊖ (v3 ⊖ v1) ⊗ v6)
    ⊖ (((v2 ⊖ v0) ⊗ v5 ⊕ ((v3 ⊖ v1) ⊗ v0 ⊖ (v2 ⊖ v0) ⊗ v1) ⊗ num (pos 1)) ⊖ (v3 ⊖ v1) ⊗ v4))
    refl

turn_exchanged : (l h m n : Pt) → turn_of m n l h ≡ pos 0 -ℤ turn_of l h m n
turn_exchanged l h m n =
    ring (l.x ∷ l.y ∷ h.x ∷ h.y ∷ m.x ∷ m.y ∷ n.x ∷ n.y ∷ [])
    ((v6 ⊖ v4) ⊗ (v3 ⊖ v1) ⊖ (v2 ⊖ v0) ⊗ (v7 ⊖ v5))
    (num (pos 0) ⊖ ((v2 ⊖ v0) ⊗ (v7 ⊖ v5) ⊖ (v6 ⊖ v4) ⊗ (v3 ⊖ v1))) refl

same_x : (l h m n : Pt) → left_by l h (whole n) *ℤ m.x -ℤ left_by l h (whole m) *ℤ n.x
    ≡ left_by m n (whole l) *ℤ h.x -ℤ left_by m n (whole h) *ℤ l.x
same_x l h m n =
    ring (l.x ∷ l.y ∷ h.x ∷ h.y ∷ m.x ∷ m.y ∷ n.x ∷ n.y ∷ [])
    ((((v2 ⊖ v0) ⊗ v7 ⊕ ((v3 ⊖ v1) ⊗ v0 ⊖ (v2 ⊖ v0) ⊗ v1) ⊗ num (pos 1)) ⊖ (v3 ⊖ v1) ⊗ v6)
    ⊗ v4
    ⊖ (((v2 ⊖ v0) ⊗ v5 ⊕ ((v3 ⊖ v1) ⊗ v0 ⊖ (v2 ⊖ v0) ⊗ v1) ⊗ num (pos 1)) ⊖ (v3 ⊖ v1) ⊗ v4)
    ⊗ v6)
    ((((v6 ⊖ v4) ⊗ v1 ⊕ ((v7 ⊖ v5) ⊗ v4 ⊖ (v6 ⊖ v4) ⊗ v5) ⊗ num (pos 1)) ⊖ (v7 ⊖ v5) ⊗ v0)
    ⊗ v2
    ⊖ (((v6 ⊖ v4) ⊗ v3 ⊕ ((v7 ⊖ v5) ⊗ v4 ⊖ (v6 ⊖ v4) ⊗ v5) ⊗ num (pos 1)) ⊖ (v7 ⊖ v5) ⊗ v2)
    ⊗ v0) refl

same_y : (l h m n : Pt) → left_by l h (whole n) *ℤ m.y -ℤ left_by l h (whole m) *ℤ n.y
    ≡ left_by m n (whole l) *ℤ h.y -ℤ left_by m n (whole h) *ℤ l.y
same_y l h m n =
    ring (l.x ∷ l.y ∷ h.x ∷ h.y ∷ m.x ∷ m.y ∷ n.x ∷ n.y ∷ [])
    ((((v2 ⊖ v0) ⊗ v7 ⊕ ((v3 ⊖ v1) ⊗ v0 ⊖ (v2 ⊖ v0) ⊗ v1) ⊗ num (pos 1)) ⊖ (v3 ⊖ v1) ⊗ v6)
    ⊗ v5
    ⊖ (((v2 ⊖ v0) ⊗ v5 ⊕ ((v3 ⊖ v1) ⊗ v0 ⊖ (v2 ⊖ v0) ⊗ v1) ⊗ num (pos 1)) ⊖ (v3 ⊖ v1) ⊗ v4)
    ⊗ v7)
    ((((v6 ⊖ v4) ⊗ v1 ⊕ ((v7 ⊖ v5) ⊗ v4 ⊖ (v6 ⊖ v4) ⊗ v5) ⊗ num (pos 1)) ⊖ (v7 ⊖ v5) ⊗ v0)
    ⊗ v3
    ⊖ (((v6 ⊖ v4) ⊗ v3 ⊕ ((v7 ⊖ v5) ⊗ v4 ⊖ (v6 ⊖ v4) ⊗ v5) ⊗ num (pos 1)) ⊖ (v7 ⊖ v5) ⊗ v2)
    ⊗ v1) refl

-- a point of both ways
pub record HaveCommon (l h m n : Pt) : Type 0 where
  pub point : Point
  pub positive : pos 0 <ℤ point.d
  pub of_first : IsBetween l h point
  pub of_second : IsBetween m n point

rises : (y z : ℤ) → AreOpposite y z → pos 0 <ℤ (z -ℤ y) → (y ≤ℤ pos 0) × (pos 0 ≤ℤ z)
rises y z (inl h) g = h
rises y z (inr h) g = let a = h.0 in let b = h.1 in (omega (arith, ints, a, b), omega (arith, ints, a, b))

some_sum : (y z : ℤ) → pos 0 <ℤ (z -ℤ y) → pos 0 <ℤ (z +ℤ (pos 0 -ℤ y))
some_sum y z h = omega (arith, ints)

other_sum : (y z : ℤ) → pos 0 <ℤ (z -ℤ y) → pos 0 <ℤ ((pos 0 -ℤ y) +ℤ z)
other_sum y z h = omega (arith, ints)

minus_least : (y : ℤ) → y ≤ℤ pos 0 → pos 0 ≤ℤ (pos 0 -ℤ y)
minus_least y h = omega (arith, ints)

back_gap : (d y z : ℤ) → pos 0 -ℤ d ≡ z -ℤ y → d ≡ y -ℤ z
back_gap d y z h = omega (arith, ints)

common_rising : (l h m n : Pt) → pos 0 <ℤ turn_of l h m n
    → AreOpposite (left_by l h (whole m)) (left_by l h (whole n))
    → AreOpposite (left_by m n (whole l)) (left_by m n (whole h)) → HaveCommon l h m n
common_rising l h m n leans first second =
    let d = turn_of l h m n in
    let s = left_by l h (whole m) in
    let t = left_by l h (whole n) in
    let y = left_by m n (whole l) in
    let z = left_by m n (whole h) in
    let gap : d ≡ t -ℤ s = gap_is l h m n in
    let other : d ≡ y -ℤ z = back_gap d y z (sym (turn_exchanged l h m n) ∙ gap_is m n l h) in
    let up : pos 0 <ℤ (t -ℤ s) = subst (λ (k : ℤ). pos 0 <ℤ k) gap leans in
    let down : pos 0 <ℤ (y -ℤ z) = subst (λ (k : ℤ). pos 0 <ℤ k) other leans in
    let a = rises s t first up in
    let b = rises z y (exchange second) down in
    record {
      point = record { x = t *ℤ m.x -ℤ s *ℤ n.x; y = t *ℤ m.y -ℤ s *ℤ n.y; d = d };
      positive = leans;
      of_first = record {
        s = pos 0 -ℤ z;
        t = y;
        first = minus_least z b.0;
        second = b.1;
        some = other_sum z y down;
        x = other_weighted y z l.x h.x (t *ℤ m.x -ℤ s *ℤ n.x) d other (same_x l h m n);
        y = other_weighted y z l.y h.y (t *ℤ m.y -ℤ s *ℤ n.y) d other (same_y l h m n);
      };
      of_second = record {
        s = t;
        t = pos 0 -ℤ s;
        first = a.1;
        second = minus_least s a.0;
        some = some_sum s t up;
        x = weighted s t m.x n.x d gap;
        y = weighted s t m.y n.y d gap;
      };
    }
  where
    exchange : {u v : ℤ} → AreOpposite u v → AreOpposite v u
    exchange (inl k) = inr (k.1, k.0)
    exchange (inr k) = inl (k.1, k.0)

pub common_point : (l h m n : Pt) → (turn_of l h m n ≡ pos 0 → ⊥)
    → AreOpposite (left_by l h (whole m)) (left_by l h (whole n))
    → AreOpposite (left_by m n (whole l)) (left_by m n (whole h)) → HaveCommon l h m n
common_point l h m n slanted first second =
    by_lt_z (pos 0) (turn_of l h m n)
    (λ leans. common_rising l h m n leans first second)
    (λ most.
    let less : pos 0 <ℤ turn_of m n l h =
    subst (λ (k : ℤ). pos 0 <ℤ k) (sym (turn_exchanged l h m n)) (below (turn_of l h m n) most slanted) in
    let c = common_rising m n l h less second first in
    record { point = c.point; positive = c.positive; of_first = c.of_second; of_second = c.of_first })
  where
    below : (d : ℤ) → d ≤ℤ pos 0 → (d ≡ pos 0 → ⊥) → pos 0 <ℤ (pos 0 -ℤ d)
    below d h some = by_lt_z d (pos 0) (λ less. omega (arith, ints)) (λ least. absurd (some (omega (arith, ints))))

-- ---- there is one
-- what lies on both lines lies at one place
across : (re ge oe rf gf of px py d vx vy : ℤ)
    → (re *ℤ gf -ℤ rf *ℤ ge) *ℤ (px -ℤ vx *ℤ d)
    ≡ rf *ℤ (((re *ℤ py +ℤ oe *ℤ d) -ℤ ge *ℤ px) -ℤ d *ℤ
    ((re *ℤ vy +ℤ oe *ℤ pos 1) -ℤ ge *ℤ vx))
    -ℤ re *ℤ (((rf *ℤ py +ℤ of *ℤ d) -ℤ gf *ℤ px) -ℤ d *ℤ ((rf *ℤ vy +ℤ of *ℤ pos 1) -ℤ gf *ℤ vx))
across re ge oe rf gf of px py d vx vy =
    ring (re ∷ ge ∷ oe ∷ rf ∷ gf ∷ of ∷ px ∷ py ∷ d ∷ vx ∷ vy ∷ []) ((v0 ⊗ v4 ⊖ v3 ⊗ v1) ⊗ (v6 ⊖ v9 ⊗ v8))
    (v3 ⊗ (((v0 ⊗ v7 ⊕ v2 ⊗ v8) ⊖ v1 ⊗ v6) ⊖ v8 ⊗ ((v0 ⊗ v10 ⊕ v2 ⊗ num (pos 1)) ⊖ v1 ⊗ v9))
    ⊖ v0 ⊗ (((v3 ⊗ v7 ⊕ v5 ⊗ v8) ⊖ v4 ⊗ v6) ⊖ v8
    ⊗ ((v3 ⊗ v10 ⊕ v5 ⊗ num (pos 1)) ⊖ v4 ⊗ v9))) refl

along : (re ge oe rf gf of px py d vx vy : ℤ)
    → (re *ℤ gf -ℤ rf *ℤ ge) *ℤ (py -ℤ vy *ℤ d)
    ≡ gf *ℤ (((re *ℤ py +ℤ oe *ℤ d) -ℤ ge *ℤ px) -ℤ d *ℤ
    ((re *ℤ vy +ℤ oe *ℤ pos 1) -ℤ ge *ℤ vx))
    -ℤ ge *ℤ (((rf *ℤ py +ℤ of *ℤ d) -ℤ gf *ℤ px) -ℤ d *ℤ ((rf *ℤ vy +ℤ of *ℤ pos 1) -ℤ gf *ℤ vx))
along re ge oe rf gf of px py d vx vy =
    ring (re ∷ ge ∷ oe ∷ rf ∷ gf ∷ of ∷ px ∷ py ∷ d ∷ vx ∷ vy ∷ []) ((v0 ⊗ v4 ⊖ v3 ⊗ v1) ⊗ (v7 ⊖ v10 ⊗ v8))
    (v4 ⊗ (((v0 ⊗ v7 ⊕ v2 ⊗ v8) ⊖ v1 ⊗ v6) ⊖ v8 ⊗ ((v0 ⊗ v10 ⊕ v2 ⊗ num (pos 1)) ⊖ v1 ⊗ v9))
    ⊖ v1 ⊗ (((v3 ⊗ v7 ⊕ v5 ⊗ v8) ⊖ v4 ⊗ v6) ⊖ v8
    ⊗ ((v3 ⊗ v10 ⊕ v5 ⊗ num (pos 1)) ⊖ v4 ⊗ v9))) refl

vanishes : (y z d : ℤ) → y *ℤ (pos 0 -ℤ d *ℤ pos 0) -ℤ z *ℤ (pos 0 -ℤ d *ℤ pos 0) ≡ pos 0
vanishes y z d =
    ring (y ∷ z ∷ d ∷ []) (v0 ⊗ (num (pos 0) ⊖ v2 ⊗ num (pos 0)) ⊖ v1
    ⊗ (num (pos 0) ⊖ v2 ⊗ num (pos 0))) (num (pos 0)) refl

either_factor : (k z : ℤ) → (k ≡ pos 0 → ⊥) → k *ℤ z ≡ pos 0 → z ≡ pos 0
either_factor k z some h =
    by_lt_z (pos 0) k
    (λ above. zero_factor z k above (ring (k ∷ z ∷ []) (v1 ⊗ v0) (v0 ⊗ v1) refl ∙ h))
    (λ most. by_lt_z k (pos 0)
    (λ below. zero_factor z (pos 0 -ℤ k) (omega (arith, ints))
    (ring (k ∷ z ∷ []) (v1 ⊗ (num (pos 0) ⊖ v0)) (num (pos 0) ⊖ v0 ⊗ v1) refl
    ∙ ap (λ (w : ℤ). pos 0 -ℤ w) h))
    (λ least. absurd (some (omega (arith, ints)))))

pub one_point : (l h m n v : Pt) (p : Point) → (turn_of l h m n ≡ pos 0 → ⊥) → left_by l h p ≡ pos 0
    → left_by m n p ≡ pos 0 → left_by l h (whole v) ≡ pos 0 → left_by m n (whole v) ≡ pos 0 → IsAt v p
one_point l h m n v p slanted a b c e =
    let re = h.x -ℤ l.x in
    let ge = h.y -ℤ l.y in
    let oe = ge *ℤ l.x -ℤ re *ℤ l.y in
    let rf = n.x -ℤ m.x in
    let gf = n.y -ℤ m.y in
    let of = gf *ℤ m.x -ℤ rf *ℤ m.y in
    let both : (y z : ℤ) → y *ℤ (left_by l h p -ℤ p.d *ℤ left_by l h (whole v)) -ℤ z *ℤ (left_by m n p -ℤ p.d *ℤ left_by m n (whole v)) ≡ pos 0 =
    λ y z.
    ap₂ (λ (i j : ℤ). y *ℤ (i -ℤ p.d *ℤ j) -ℤ z *ℤ (left_by m n p -ℤ p.d *ℤ left_by m n (whole v))) a
    c
    ∙ ap₂ (λ (i j : ℤ). y *ℤ (pos 0 -ℤ p.d *ℤ pos 0) -ℤ z *ℤ (i -ℤ p.d *ℤ j)) b e
    ∙ vanishes y z p.d
    in (
      gap_none p.x (v.x *ℤ p.d)
          (either_factor (turn_of l h m n) (p.x -ℤ v.x *ℤ p.d) slanted (across re ge oe rf gf of p.x p.y p.d v.x v.y ∙ both rf re)),
      gap_none p.y (v.y *ℤ p.d)
          (either_factor (turn_of l h m n) (p.y -ℤ v.y *ℤ p.d) slanted (along re ge oe rf gf of p.x p.y p.d v.x v.y ∙ both gf ge)),
    )
