-- Two pieces along one edge that don't overlap, one ending where the other starts, go on in one direction.
use Rattle.std.proofs.Common.{◌≡◌, inl, inr, true, false, refl, sym, subst}
use lib.IntN.{ℤ, pos, ◌+ℤ◌, ◌-ℤ◌, ◌*ℤ◌}
use lib.Signed.{◌<ℤ◌}
use Rattle.std.specs.Prelude.{[], ◌∷◌}
use Rattle.std.proofs.lemmas.Int.{by_lt_z}
use Rattle.scad_base.proofs.Integers.{gap_of_less, less_of_gap, both_positive}
use Rattle.scad_geom.specs.declared.level.Level.{Level}
use Rattle.scad_geom.specs.Point.{Point, is_same_point}
use Rattle.scad_geom.specs.Level.{IsLower, IsAtMost}
use Rattle.scad_geom.proofs.Heights.{lower_then_at_most, at_most_then_lower, lower_weak, same_at_least, same_at_most, same_height as one_height}
use Rattle.scad_geom.proofs.Points.{same_height, same_across}
use Rattle.scad_geom.proofs.Ring.{ring, ◌⊕◌, ◌⊖◌, ◌⊗◌, v0, v1, v2, v3}
use Rattle.slice_pieces.specs.Spots.{point_of}
use Rattle.slice_pieces.specs.Inside.{IsBetween, IsInside}
use Rattle.slice_pieces.specs.Naming.{IsOnLine, PiecesGoOn}
use Rattle.slice_pieces.proofs.OneLine.{mean, mean_on, side_rising, same_rising, all_level, side_flat, same_flat, by_rise}
use Rattle.slice_pieces.proofs.SameSpots.{divisor_above}
use Rattle.std.proofs.lemmas.Bool.{both_ways}

-- ---- between two numbers lies the one whose numerator and divisor are the sums of theirs
abbrev mean_level : Level → Level → Level
mean_level p q = record { n = p.n +ℤ q.n; d = p.d +ℤ q.d }

mean_over : (a d b g : ℤ) → (a +ℤ b) *ℤ d -ℤ a *ℤ (d +ℤ g) ≡ b *ℤ d -ℤ a *ℤ g
mean_over a d b g = ring (a ∷ d ∷ b ∷ g ∷ []) ((v0 ⊕ v2) ⊗ v1 ⊖ v0 ⊗ (v1 ⊕ v3))
    (v2 ⊗ v1 ⊖ v0 ⊗ v3) refl

over_mean : (a d b g : ℤ) → b *ℤ (d +ℤ g) -ℤ (a +ℤ b) *ℤ g ≡ b *ℤ d -ℤ a *ℤ g
over_mean a d b g = ring (a ∷ d ∷ b ∷ g ∷ []) (v2 ⊗ (v1 ⊕ v3) ⊖ (v0 ⊕ v2) ⊗ v3)
    (v2 ⊗ v1 ⊖ v0 ⊗ v3) refl

first_below : (p q : Level) → IsLower p q → IsLower p (mean_level p q)
first_below p q h = less_of_gap (p.n *ℤ (p.d +ℤ q.d)) ((p.n +ℤ q.n) *ℤ p.d)
    (rw (mean_over p.n p.d q.n q.d) (gap_of_less (p.n *ℤ q.d) (q.n *ℤ p.d) h))

below_second : (p q : Level) → IsLower p q → IsLower (mean_level p q) q
below_second p q h = less_of_gap ((p.n +ℤ q.n) *ℤ q.d) (q.n *ℤ (p.d +ℤ q.d))
    (rw (over_mean p.n p.d q.n q.d) (gap_of_less (p.n *ℤ q.d) (q.n *ℤ p.d) h))

-- ---- points that are told apart by one number
module _ (On : Point → Type 0) (k : Point → ℤ)
    (same : (p q : Point) → On p → On q → k p *ℤ q.d ≡ k q *ℤ p.d → is_same_point p q ≡ true)
    (inside : (a p b : Point) → On a → On p → On b
    → IsBetween (λ p q. (k p *ℤ q.d) <ℤ (k q *ℤ p.d)) a p b → IsInside a b p)
    (on_mean : (p q : Point) → On p → On q → On (mean p q)) (sums : (p q : Point) → k (mean p q) ≡ k p +ℤ k q) where
  abbrev along : Point → Level
  along p = record { n = k p; d = p.d }

  after_first : (p q : Point) → IsLower (along p) (along q) → IsLower (along p) (along (mean p q))
  after_first p q h = subst (λ (z : ℤ). IsLower (along p) (record { n = z; d = p.d +ℤ q.d })) (sym (sums p q))
      (first_below (along p) (along q) h)

  before_second : (p q : Point) → IsLower (along p) (along q) → IsLower (along (mean p q)) (along q)
  before_second p q h = subst (λ (z : ℤ). IsLower (record { n = z; d = p.d +ℤ q.d }) (along q)) (sym (sums p q))
      (below_second (along p) (along q) h)

  module _ (a m n b : Point) (da : pos 0 <ℤ a.d) (dm : pos 0 <ℤ m.d) (dn : pos 0 <ℤ n.d) (db : pos 0 <ℤ b.d) (oa : On a) (om : On m) (on : On n) (ob : On b)
      (e : k m *ℤ n.d ≡ k n *ℤ m.d) (no : (p : Point) → pos 0 <ℤ p.d → IsInside a m p → IsInside n b p → ⊥) where
    mn : IsAtMost (along m) (along n)
    mn = same_at_least (along m) (along n) e

    nm : IsAtMost (along n) (along m)
    nm = same_at_most (along m) (along n) e

    -- both before the common end
    peak : IsLower (along a) (along m) → IsLower (along b) (along n) → ⊥
    peak am bn =
        let bm : IsLower (along b) (along m) = lower_then_at_most (along b) (along n) (along m) db dn dm bn nm in
        by_lt_z (k a *ℤ b.d) (k b *ℤ a.d)
        (λ ab.
        let p : Point = mean b m in
        let dp : pos 0 <ℤ p.d = both_positive b.d m.d db dm in
        let bp = after_first b m bm in
        let pm = before_second b m bm in
        no p dp (inside a p m oa (on_mean b m ob om) om
        (inl (
          lower_then_at_most (along a) (along b) (along p) da db dp ab (lower_weak (along b) (along p) bp),
          pm,
        )))
        (inside n p b on (on_mean b m ob om) ob
        (inr (bp, lower_then_at_most (along p) (along m) (along n) dp dm dn pm mn))))
        (λ ba.
        let p : Point = mean a m in
        let dp : pos 0 <ℤ p.d = both_positive a.d m.d da dm in
        let ap = after_first a m am in
        let pm = before_second a m am in
        no p dp (inside a p m oa (on_mean a m oa om) om (inl (ap, pm)))
        (inside n p b on (on_mean a m oa om) ob
        (inr (
          at_most_then_lower (along b) (along a) (along p) db da dp ba ap,
          lower_then_at_most (along p) (along m) (along n) dp dm dn pm mn,
        ))))

    -- both after it
    valley : IsLower (along m) (along a) → IsLower (along n) (along b) → ⊥
    valley ma nb =
        let mb : IsLower (along m) (along b) = at_most_then_lower (along m) (along n) (along b) dm dn db mn nb in
        by_lt_z (k a *ℤ b.d) (k b *ℤ a.d)
        (λ ab.
        let p : Point = mean m a in
        let dp : pos 0 <ℤ p.d = both_positive m.d a.d dm da in
        let mp = after_first m a ma in
        let pa = before_second m a ma in
        no p dp (inside a p m oa (on_mean m a om oa) om (inr (mp, pa)))
        (inside n p b on (on_mean m a om oa) ob
        (inl (
          at_most_then_lower (along n) (along m) (along p) dn dm dp nm mp,
          lower_then_at_most (along p) (along a) (along b) dp da db pa (lower_weak (along a) (along b) ab),
        ))))
        (λ ba.
        let p : Point = mean m b in
        let dp : pos 0 <ℤ p.d = both_positive m.d b.d dm db in
        let mp = after_first m b mb in
        let pb = before_second m b mb in
        no p dp (inside a p m oa (on_mean m b om ob) om
        (inr (mp, lower_then_at_most (along p) (along b) (along a) dp db da pb ba)))
        (inside n p b on (on_mean m b om ob) ob
        (inl (at_most_then_lower (along n) (along m) (along p) dn dm dp nm mp, pb))))

    go_on : is_same_point a m ≡ false → is_same_point n b ≡ false → IsInside a b m
    go_on u v =
        by_lt_z (k a *ℤ m.d) (k m *ℤ a.d)
        (λ am. by_lt_z (k n *ℤ b.d) (k b *ℤ n.d)
        (λ nb. inside a m b oa om ob (inl (am, at_most_then_lower (along m) (along n) (along b) dm dn db mn nb)))
        (λ bn. by_lt_z (k b *ℤ n.d) (k n *ℤ b.d) (λ o. absurd (peak am o))
        (λ o. absurd (both_ways (is_same_point n b) v (same n b on ob (one_height (along n) (along b) o bn))))))
        (λ ma. by_lt_z (k m *ℤ a.d) (k a *ℤ m.d)
        (λ o. by_lt_z (k b *ℤ n.d) (k n *ℤ b.d)
        (λ bn. inside a m b oa om ob (inr (lower_then_at_most (along b) (along n) (along m) db dn dm bn nm, o)))
        (λ nb. by_lt_z (k n *ℤ b.d) (k b *ℤ n.d) (λ x. absurd (valley o x))
        (λ x. absurd (both_ways (is_same_point n b) v (same n b on ob (one_height (along n) (along b) nb x))))))
        (λ o. absurd (both_ways (is_same_point a m) u (same a m oa om (one_height (along a) (along m) o ma)))))

-- ---- of pieces
pub pieces_go_on : PiecesGoOn
pieces_go_on limit e q r wq wr lq lr hq hr apart joint =
    let a : Point = point_of q.from in
    let m : Point = point_of q.to in
    let n : Point = point_of r.from in
    let b : Point = point_of r.to in
    by_rise e lq.length
    (λ up. go_on (IsOnLine e) (λ p. p.y) (same_rising e up)
    (λ x p y hx hp hy h. record { on_line = side_rising e up p x y hp hx hy; between = inl h }) (mean_on e)
    (λ p q. refl)
    a m n b (divisor_above limit q.from wq.from) (divisor_above limit q.to wq.to) (divisor_above limit r.from wr.from)
    (divisor_above limit r.to wr.to) lq.from lq.to lr.from lr.to
    (same_height m n joint) apart hq hr)
    (λ flat long. go_on (IsOnLine e) (λ p. p.x) (same_flat e flat long)
    (λ x p y hx hp hy h. record {
      on_line = side_flat e flat long p x y hp hx hy;
      between
          = inr (all_level e flat long x p hx hp, all_level e flat long p y hp hy, h);
    }) (mean_on e) (λ p q. refl)
    a m n b (divisor_above limit q.from wq.from) (divisor_above limit q.to wq.to) (divisor_above limit r.from wr.from)
    (divisor_above limit r.to wr.to) lq.from lq.to lr.from lr.to
    (same_across m n joint) apart hq hr)
