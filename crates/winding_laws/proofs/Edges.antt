-- How the turn of a segment changes where its ends are moved.
use Rattle.std.proofs.Common.{◌≡◌, Bool, List, [], ◌∷◌, sym, ap₂, ◌∙◌, subst, arith}
use lib.IntN.{ℤ, pos, ◌+ℤ◌, ◌-ℤ◌}
use lib.Signed.{◌<ℤ◌}
use Rattle.std.proofs.lemmas.Int.{ints}
use Rattle.scad_base.proofs.Products.{positive_product}
use Rattle.scad_geom.specs.Point.{Point}
use Rattle.scad_geom.specs.Winding.{turn}
use Rattle.winding_laws.specs.Region.{HalfPlane, Holds, HoldsOrigin}
use Rattle.winding_laws.specs.Nearness.{seen_from, IsNear, IsFar, IsProper, IsFarSegment}
use Rattle.winding_laws.proofs.Views.{swing, swing_turned, turn_seen}
use Rattle.winding_laws.proofs.Triangles.{triangle}
use Rattle.winding_laws.proofs.Regions.{near_itself, near_seen, mean_seen}
use Rattle.winding_laws.proofs.Corners.{IsAway, away_turned, not_round}
use Rattle.scad_geom.proofs.Signs.{square_at_least}
use Rattle.std.specs.List.{AllByRecursion}
use Rattle.scad_geom.specs.Segment.{Segment}

-- what is clear of a point is away from the origin as the point sees it
pub clear_seen : (region : List HalfPlane) (q a b : Point) → IsFar region q a b → IsAway region (seen_from q a)
    (seen_from q b)
clear_seen region q a b n s t hs ht o h = n s t hs ht o (subst (Holds region) (mean_seen q a b s t) h)

-- far segments have positive divisors
pub far_proper : (region : List HalfPlane) (q : Point) (ss : List Segment)
    → AllByRecursion (IsFarSegment region q) ss → AllByRecursion IsProper ss
far_proper region q [] h = tt
far_proper region q (s ∷ ss) h = (h.0.proper, far_proper region q ss h.1)

by_triangles : (ab bc ca cd da ad dc : ℤ) → ab +ℤ (bc +ℤ ca) ≡ pos 0 → dc +ℤ (da +ℤ ad) ≡ pos 0
    → ca ≡ pos 0 -ℤ ad → dc ≡ pos 0 -ℤ cd → cd ≡ ab +ℤ (bc +ℤ da)
by_triangles ab bc ca cd da ad dc h k e f = omega (arith, ints)

turned_back : (ab bd ca ac : ℤ) → ca ≡ pos 0 -ℤ ac → ab +ℤ (bd +ℤ ca) ≡ ab +ℤ (bd -ℤ ac)
turned_back ab bd ca ac h = omega (arith, ints)

module _ (region : List HalfPlane) (above right : Bool) where
  -- c and d are where a and b were moved, as seen from the point
  pub moved_swing : (a b c d : Point) → pos 0 <ℤ a.d → pos 0 <ℤ b.d → pos 0 <ℤ c.d → pos 0 <ℤ d.d
      → IsNear region a a → IsNear region b b → IsNear region c a → IsNear region d b → IsAway region a b
      → swing above right c d ≡ swing above right a b +ℤ (swing above right b d -ℤ swing above right a c)
  moved_swing a b c d da db dc dd na nb nc nd away =
      let turned = away_turned region a b away in
      by_triangles (swing above right a b) (swing above right b d) (swing above right d a) (swing above right c d)
      (swing above right c a) (swing above right a d) (swing above right d c)
      (triangle above right a b d (not_round region a b a b d da db da db dd na nb nd away)
      (not_round region a b a d b da db da dd db na nd nb away))
      (triangle above right d c a (not_round region b a d c a db da dd dc da nd nc na turned)
      (not_round region b a d a c db da dd da dc nd na nc turned))
      (swing_turned above right a d) (swing_turned above right c d)
      ∙ turned_back (swing above right a b) (swing above right b d) (swing above right c a) (swing above right a c)
      (swing_turned above right a c)

  pub moved_turn : HoldsOrigin region → (q a b c d : Point) → pos 0 <ℤ q.d → pos 0 <ℤ a.d → pos 0 <ℤ b.d
      → pos 0 <ℤ c.d → pos 0 <ℤ d.d → IsFar region q a b → IsNear region c a → IsNear region d b
      → turn above right q c d ≡ turn above right q a b +ℤ (turn above right q b d -ℤ turn above right q a c)
  moved_turn o q a b c d dq da db dc dd clear nc nd =
      let least = square_at_least q.d in
      let near_a = near_seen region q a a least (near_itself region o a (square_at_least a.d)) in
      let near_b = near_seen region q b b least (near_itself region o b (square_at_least b.d)) in
      turn_seen above right q c d dq dc
      ∙ moved_swing (seen_from q a) (seen_from q b) (seen_from q c) (seen_from q d)
      (positive_product a.d q.d da dq) (positive_product b.d q.d db dq) (positive_product c.d q.d dc dq)
      (positive_product d.d q.d dd dq)
      near_a near_b (near_seen region q c a least nc) (near_seen region q d b least nd) (clear_seen region q a b clear)
      ∙ sym (ap₂ (λ (y z : ℤ). y +ℤ z) (turn_seen above right q a b dq da)
      (ap₂ (λ (y z : ℤ). y -ℤ z) (turn_seen above right q b d dq db) (turn_seen above right q a c dq da)))
