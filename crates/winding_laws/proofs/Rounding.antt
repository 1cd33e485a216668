-- Rounding moves a point by at most one half along each axis.
use Rattle.std.proofs.Common.{◌≡◌, true, List, [], ◌∷◌, map, refl, sym, ap, ◌∙◌, subst, arith}
use lib.IntN.{ℤ, pos, negsuc, ◌+ℤ◌, ◌-ℤ◌, ◌*ℤ◌}
use lib.Signed.{◌<ℤ◌, ◌≤ℤ◌}
use Rattle.std.proofs.lemmas.Int.{ints}
use Rattle.std.proofs.lemmas.List.Elements.{recursion_from_All}
use Rattle.scad_base.proofs.Integers.{gap_of_less, gap_of_at_most, at_most_of_less}
use Rattle.scad_base.proofs.Products.{positive_product}
use Rattle.scad_geom.specs.Point.{Point, whole, is_same_point}
use Rattle.scad_geom.specs.Segment.{Segment, segments}
use Rattle.scad_geom.specs.Winding.{wind_by}
use Rattle.scad_geom.specs.Balance.{IsBalanced}
use Rattle.scad_geom.specs.Rounding.{half_down, IsNearest}
use Rattle.scad_geom.specs.Near.{IsHalf, IsClose}
use Rattle.scad_geom.proofs.Nearest.{IsNearest-half_down}
use Rattle.scad_geom.proofs.Ring.{ring, num, ◌⊕◌, ◌⊖◌, ◌⊗◌, v0, v1, v2, v3}
use Rattle.scad_geom.proofs.Signs.{pos_left, at_least_mul}
use Rattle.winding_laws.specs.Region.{square}
use Rattle.winding_laws.specs.Nearness.{IsClearSegment}
use Rattle.winding_laws.specs.Moves.{IsMove, moved}
use Rattle.winding_laws.specs.RoundedEnds.{RoundingMovesByHalves, RoundingKeepsBalance, RoundingKeepsWinding}
use Rattle.winding_laws.specs.Edges.{rounded, rounded_edge}
use Rattle.winding_laws.proofs.Sameness.{are_same, same_by}
use Rattle.winding_laws.proofs.Squares.{near_by_close, far_segments, square_holds_origin}
use Rattle.winding_laws.proofs.Moves.{moves_keep_balance, keep}

pub nearest : (n d : ℤ) → pos 0 <ℤ d → IsNearest n d (half_down n d)
nearest n (pos d) h = IsNearest-half_down n d (omega (arith, ints))
nearest n (negsuc d) h = absurd (omega (arith, ints))

-- ---- by at most one half
half_from : (n d r : ℤ) → IsNearest n d r → IsHalf (pos 1) (n *ℤ pos 1 -ℤ r *ℤ d) (d *ℤ pos 1)
half_from n d r h =
    let a = h.below in
    let b = h.above in
    let same : pos 2 *ℤ d *ℤ r ≡ pos 2 *ℤ (r *ℤ d) = ring (d ∷ r ∷ []) (num (pos 2) ⊗ v0 ⊗ v1) (num (pos 2) ⊗ (v1 ⊗ v0))
    refl in
    record { from = omega (arith, ints); to = omega (arith, ints) }

pub rounded_close : (p : Point) → pos 0 <ℤ p.d → IsClose (pos 1) (whole (rounded p)) p
rounded_close p h = record {
  across = half_from p.x p.d (half_down p.x p.d) (nearest p.x p.d h);
  along = half_from p.y
      p.d (half_down p.y p.d) (nearest p.y p.d h);
}

-- ---- a point to one point
-- of two nearest numbers to one quotient neither is the greater
first_scaled : (n d r e : ℤ) → (pos 2 *ℤ n +ℤ d -ℤ pos 2 *ℤ d *ℤ r) *ℤ e
    ≡ pos 2 *ℤ (n *ℤ e) +ℤ d *ℤ e -ℤ pos 2 *ℤ
    (d *ℤ e) *ℤ r
first_scaled n d r e = ring (n ∷ d ∷ r ∷ e ∷ [])
    ((num (pos 2) ⊗ v0 ⊕ v1 ⊖ num (pos 2) ⊗ v1 ⊗ v2) ⊗ v3)
    (num (pos 2) ⊗ (v0 ⊗ v3) ⊕ v1 ⊗ v3 ⊖ num (pos 2) ⊗ (v1 ⊗ v3) ⊗ v2) refl

second_scaled : (n d r e : ℤ) → (pos 2 *ℤ d *ℤ r -ℤ (pos 2 *ℤ n -ℤ d)) *ℤ e
    ≡ pos 2 *ℤ (e *ℤ d) *ℤ r -ℤ
    (pos 2 *ℤ (n *ℤ e) -ℤ e *ℤ d)
second_scaled n d r e = ring (n ∷ d ∷ r ∷ e ∷ [])
    ((num (pos 2) ⊗ v1 ⊗ v2 ⊖ (num (pos 2) ⊗ v0 ⊖ v1)) ⊗ v3)
    (num (pos 2) ⊗ (v3 ⊗ v1) ⊗ v2 ⊖ (num (pos 2) ⊗ (v0 ⊗ v3) ⊖ v3 ⊗ v1)) refl

gap_sum : (n w r s : ℤ) → (pos 2 *ℤ n +ℤ w -ℤ pos 2 *ℤ w *ℤ r) +ℤ
    (pos 2 *ℤ w *ℤ s -ℤ (pos 2 *ℤ n -ℤ w))
    ≡ (s -ℤ r +ℤ pos 1) *ℤ (pos 2 *ℤ w)
gap_sum n w r s =
    ring (n ∷ w ∷ r ∷ s ∷ []) ((num (pos 2) ⊗ v0 ⊕ v1 ⊖ num (pos 2) ⊗ v1 ⊗ v2) ⊕
    (num (pos 2) ⊗ v1 ⊗ v3 ⊖ (num (pos 2) ⊗ v0 ⊖ v1))) ((v3 ⊖ v2 ⊕ num (pos 1)) ⊗ (num (pos 2) ⊗ v1))
    refl

double : (z : ℤ) → pos 0 <ℤ z → pos 0 <ℤ (pos 2 *ℤ z)
double z h = omega (arith, ints)

sum_positive : (s t u : ℤ) → pos 0 <ℤ s → pos 0 ≤ℤ t → s +ℤ t ≡ u → pos 0 <ℤ u
sum_positive s t u h k e = omega (arith, ints)

at_most_by : (r s : ℤ) → pos 0 <ℤ (s -ℤ r +ℤ pos 1) → r ≤ℤ s
at_most_by r s h = omega (arith, ints)

nearest_order : (n d r m e s : ℤ) → pos 0 <ℤ d → pos 0 <ℤ e → n *ℤ e ≡ m *ℤ d → IsNearest n d r
    → IsNearest m e s → r ≤ℤ s
nearest_order n d r m e s dp ep h a b =
    let below : pos 0 <ℤ (pos 2 *ℤ n +ℤ d -ℤ pos 2 *ℤ d *ℤ r) = gap_of_less (pos 2 *ℤ d *ℤ r) (pos 2 *ℤ n +ℤ d) a.below
    in
    let above : pos 0 ≤ℤ (pos 2 *ℤ e *ℤ s -ℤ (pos 2 *ℤ m -ℤ e)) = gap_of_at_most (pos 2 *ℤ m -ℤ e) (pos 2 *ℤ e *ℤ s)
    b.above in
    let f : pos 0 <ℤ (pos 2 *ℤ (n *ℤ e) +ℤ d *ℤ e -ℤ pos 2 *ℤ (d *ℤ e) *ℤ r) =
    subst (λ (z : ℤ). pos 0 <ℤ z) (first_scaled n d r e)
    (positive_product (pos 2 *ℤ n +ℤ d -ℤ pos 2 *ℤ d *ℤ r) e below
    ep) in
    let g : pos 0 ≤ℤ (pos 2 *ℤ (d *ℤ e) *ℤ s -ℤ (pos 2 *ℤ (m *ℤ d) -ℤ d *ℤ e)) =
    subst (λ (z : ℤ). pos 0 ≤ℤ z) (second_scaled m e s d)
    (at_least_mul (pos 2 *ℤ e *ℤ s -ℤ (pos 2 *ℤ m -ℤ e)) d above
    (at_most_of_less (pos 0) d dp)) in
    let k : pos 0 ≤ℤ (pos 2 *ℤ (d *ℤ e) *ℤ s -ℤ (pos 2 *ℤ (n *ℤ e) -ℤ d *ℤ e)) =
    subst (λ (z : ℤ). pos 0 ≤ℤ (pos 2 *ℤ (d *ℤ e) *ℤ s -ℤ (pos 2 *ℤ z -ℤ d *ℤ e))) (sym h) g in
    at_most_by r s
    (pos_left (s -ℤ r +ℤ pos 1) (pos 2 *ℤ (d *ℤ e)) (double (d *ℤ e) (positive_product d e dp ep))
    (sum_positive (pos 2 *ℤ (n *ℤ e) +ℤ d *ℤ e -ℤ pos 2 *ℤ (d *ℤ e) *ℤ r)
    (pos 2 *ℤ (d *ℤ e) *ℤ s -ℤ (pos 2 *ℤ (n *ℤ e) -ℤ d *ℤ e))
    ((s -ℤ r +ℤ pos 1) *ℤ (pos 2 *ℤ (d *ℤ e)))
    f k (gap_sum (n *ℤ e) (d *ℤ e) r s)))

one_nearest : (n d m e : ℤ) → pos 0 <ℤ d → pos 0 <ℤ e → n *ℤ e ≡ m *ℤ d
    → half_down n d ≡ half_down m e
one_nearest n d m e dp ep h =
    let a = nearest n d dp in
    let b = nearest m e ep in
    let up = nearest_order n d (half_down n d) m e (half_down m e) dp ep h a b in
    let down = nearest_order m e (half_down m e) n d (half_down n d) ep dp (sym h) b a in
    omega (arith, ints)

pub rounded_same : (p q : Point) → pos 0 <ℤ p.d → pos 0 <ℤ q.d → is_same_point p q ≡ true
    → is_same_point (whole (rounded p)) (whole (rounded q)) ≡ true
rounded_same p q dp dq h =
    let s = are_same p q h in
    same_by (whole (rounded p)) (whole (rounded q))
    (record {
      x = ap (λ (z : ℤ). z *ℤ pos 1) (one_nearest p.x p.d q.x q.d dp dq s.x);
      y = ap (λ (z : ℤ). z *ℤ pos 1) (one_nearest p.y p.d q.y q.d dp dq s.y);
    })

rounding_move : IsMove (λ p. whole (rounded p))
rounding_move = record { positive = λ p d. omega (arith, ints); same = rounded_same }

pub rounding_moves_by_halves : RoundingMovesByHalves
rounding_moves_by_halves = record { move = rounding_move; close = rounded_close }

-- ---- of segments
moved_edges : (ss : List Segment) → map (moved (λ p. whole (rounded p))) ss ≡ segments (map rounded_edge ss)
moved_edges [] = refl
moved_edges (s ∷ ss) = ap (λ (ts : List Segment). moved (λ p. whole (rounded p)) s ∷ ts) (moved_edges ss)

pub rounding_keeps_balance : RoundingKeepsBalance
rounding_keeps_balance ss d b = subst IsBalanced (moved_edges ss) (moves_keep_balance (λ p. whole (rounded p))
    rounding_move ss d b)

pub rounding_keeps_winding : RoundingKeepsWinding
rounding_keeps_winding above right q dq ss b c =
    ap (wind_by above right q) (sym (moved_edges ss))
    ∙ keep (square (pos 1)) (square_holds_origin (pos 1) (omega (arith, ints))) above right q dq
    (λ p. whole (rounded p))
    (record { move = rounding_move; near = λ p d. near_by_close (pos 1) (whole (rounded p)) p (rounded_close p d) })
    ss b (far_segments (pos 1) q ss (recursion_from_All (IsClearSegment (pos 1) q) ss c))
