-- Moving the ends of a balanced list.
use Rattle.std.proofs.Common.{◌≡◌, ℕ, ◌+◌, Bool, true, List, [], ◌∷◌, map, refl, sym, ap, ◌∙◌, arith}
use lib.IntN.{ℤ, pos, ◌+ℤ◌}
use lib.Signed.{◌<ℤ◌}
use Rattle.std.specs.List.{AllByRecursion}
use Rattle.std.proofs.lemmas.Int.{ints}
use Rattle.std.proofs.lemmas.List.Elements.{recursion_from_All}
use Rattle.scad_geom.specs.Point.{Point, is_same_point}
use Rattle.scad_geom.specs.Segment.{Segment}
use Rattle.scad_geom.specs.Winding.{turn, wind_by}
use Rattle.scad_geom.specs.Balance.{starts_at, ends_at, IsBalanced}
use Rattle.scad_geom.proofs.Balance.{once, starts-cons, ends-cons}
use Rattle.scad_geom.proofs.Sums.{sum_z}
use Rattle.winding_laws.specs.Region.{HalfPlane, HoldsOrigin}
use Rattle.winding_laws.specs.Nearness.{IsPoint, IsProper, IsFarSegment}
use Rattle.winding_laws.specs.Moves.{IsMove, MovesWithin, moved, MovesKeepBalance, MovesKeepWinding}
use Rattle.winding_laws.proofs.Sameness.{same_through, turn_same}
use Rattle.winding_laws.proofs.Edges.{moved_turn, far_proper}
use Rattle.winding_laws.proofs.Totals.{starts, ends, balanced_totals, sums_changed, equal_by_sums}

-- ---- balance
starts-moved : (r : Point → Point) (p : Point) (ss : List Segment) → pos (starts_at p (map (moved r) ss))
    ≡ sum_z (λ q. pos (once (is_same_point p (r q)))) (starts ss)
starts-moved r p [] = refl
starts-moved r p (s ∷ ss) =
    ap (λ (n : ℕ). pos n) (starts-cons p (moved r s) (map (moved r) ss)) ∙ sum (once (is_same_point p (r s.from)))
    (starts_at p (map (moved r) ss)) (starts-moved r p ss)
  where
    sum : (m n : ℕ) → pos n ≡ sum_z (λ q. pos (once (is_same_point p (r q)))) (starts ss)
        → pos (m + n) ≡ pos m +ℤ sum_z (λ q. pos (once (is_same_point p (r q)))) (starts ss)
    sum m n h = omega (arith, ints)

ends-moved : (r : Point → Point) (p : Point) (ss : List Segment) → pos (ends_at p (map (moved r) ss))
    ≡ sum_z (λ q. pos (once (is_same_point p (r q)))) (ends ss)
ends-moved r p [] = refl
ends-moved r p (s ∷ ss) =
    ap (λ (n : ℕ). pos n) (ends-cons p (moved r s) (map (moved r) ss)) ∙ sum (once (is_same_point p (r s.to)))
    (ends_at p (map (moved r) ss)) (ends-moved r p ss)
  where
    sum : (m n : ℕ) → pos n ≡ sum_z (λ q. pos (once (is_same_point p (r q)))) (ends ss)
        → pos (m + n) ≡ pos m +ℤ sum_z (λ q. pos (once (is_same_point p (r q)))) (ends ss)
    sum m n h = omega (arith, ints)

same_pos : (m n : ℕ) → pos m ≡ pos n → m ≡ n
same_pos m n h = omega (arith, ints)

moves_keep_balance_by : (r : Point → Point) → IsMove r → (ss : List Segment) → AllByRecursion IsProper ss
    → IsBalanced ss → IsBalanced (map (moved r) ss)
moves_keep_balance_by r m ss d b = record {
  each = λ p dp.
      same_pos (starts_at p (map (moved r) ss)) (ends_at p (map (moved r) ss))
      (starts-moved r p ss
      ∙ balanced_totals (λ q. pos (once (is_same_point p (r q))))
      (λ x y dx dy h. ap (λ (t : Bool). pos (once t)) (same_through p (r x) (r y) (m.positive x dx) (m.positive y dy)
      (m.same x y dx dy h))) ss d b
      ∙ sym (ends-moved r p ss));
}

pub moves_keep_balance : MovesKeepBalance
moves_keep_balance r m ss d b = moves_keep_balance_by r m ss (recursion_from_All IsProper ss d) b

-- ---- winding
module _ (region : List HalfPlane) (o : HoldsOrigin region) (above right : Bool) (q : Point) (dq : pos 0 <ℤ q.d) (r : Point → Point) (m : MovesWithin region r) where
  -- the turn of the way that a point is moved
  abbrev way : Point → ℤ
  way p = turn above right q p (r p)

  way_same : (p p' : Point) → IsPoint p → IsPoint p' → is_same_point p p' ≡ true → way p ≡ way p'
  way_same p p' d d' h = turn_same above right q p (r p) p' (r p') dq d (m.move.positive p d) d' (m.move.positive p' d')
      h (m.move.same p p' d d' h)

  abbrev IsFarHere : Segment → Type 0
  IsFarHere s = IsFarSegment region q s

  wind-moved : (ss : List Segment) → AllByRecursion IsFarHere ss
      → wind_by above right q (map (moved r) ss) +ℤ sum_z way
      (starts ss) ≡ wind_by above right q ss +ℤ sum_z way (ends ss)
  wind-moved [] h = refl
  wind-moved (s ∷ ss) h =
      let c = h.0 in
      let d = c.proper in
      sums_changed (turn above right q (r s.from) (r s.to)) (turn above right q s.from s.to) (way s.from) (way s.to)
      (wind_by above right q (map (moved r) ss)) (wind_by above right q ss) (sum_z way (starts ss))
      (sum_z way (ends ss))
      (moved_turn region above right o q s.from s.to (r s.from) (r s.to) dq d.from d.to (m.move.positive s.from d.from)
      (m.move.positive s.to d.to) c.far (m.near s.from d.from) (m.near s.to d.to))
      (wind-moved ss h.1)

  pub keep : (ss : List Segment) → IsBalanced ss → AllByRecursion IsFarHere ss
      → wind_by above right q (map (moved r) ss) ≡ wind_by above right q ss
  keep ss b h =
      equal_by_sums (wind_by above right q (map (moved r) ss)) (wind_by above right q ss) (sum_z way (starts ss))
      (sum_z way (ends ss))
      (wind-moved ss h) (balanced_totals way way_same ss (far_proper region q ss h) b)

pub moves_keep_winding : MovesKeepWinding
moves_keep_winding region o above right q dq r m ss b h = keep region o above right q dq r m ss b
    (recursion_from_All (IsFarSegment region q) ss h)
