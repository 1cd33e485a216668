-- The ring by an octagon whose corners fall together two by two round an edge that is a point.
use Rattle.std.proofs.Common.{◌≡◌, inl, ap, arith, ℤ, pos, neg_ℤ, ◌-ℤ◌, ◌*ℤ◌, ◌<ℤ◌}
use Rattle.std.proofs.lemmas.Int.{ints}
use Rattle.scad_geom.specs.declared.point.Pt.{Pt}
use Rattle.scad_ring.specs.declared.direction.Direction.TheVariants.{Still}
use Rattle.scad_ring.specs.Corners.{four_sided, low, right, high, left}
use Rattle.scad_ring.proofs.Octants.{approach_four_point}
use Rattle.scad_ring.proofs.Slants.{IsOctagon}
use Rattle.scad_ring.proofs.Offsets.{IsRingRound}
use Rattle.scad_ring.proofs.Sides.{OwnSide, longer, at_first, at_last}
use Rattle.scad_ring.proofs.Sides.{◌⟨◌⟩◌, ◌&◌, again, ring_of}
use Rattle.scad_ring.proofs.OwnSides.{low_to_right, right_to_high, high_to_left, left_to_low, quarter}

module _ (c : ℤ) (less : pos 0 <ℤ c) (p r : Pt) (x : p.x ≡ r.x) (y : p.y ≡ r.y) where
  o : IsOctagon c (pos 0) c
  o = record { sum = omega (arith, ints); least = omega (arith, ints); less = less }

  forwards : OwnSide c c (neg_ℤ (pos 1)) (pos 1) c p (low c p) (right c r)
  forwards = longer (r.x -ℤ p.x) (omega (arith, ints)) (low_to_right o p) (omega (arith, ints)) (omega (arith, ints))

  backwards : OwnSide c c (pos 1) (neg_ℤ (pos 1)) c r (high c r) (left c p)
  backwards = longer (r.x -ℤ p.x) (omega (arith, ints)) (high_to_left o r) (omega (arith, ints)) (omega (arith, ints))

  pub still_round : IsRingRound c c p r (four_sided c p r Still)
  still_round = ring_of
      (inl (omega (arith, ints)) & inl (omega (arith, ints)) & inl (omega (arith, ints)) & tt)
      (at_first forwards (omega (arith, ints)) ⟨ quarter ⟩
      at_last (right_to_high o r) (omega (arith, ints)) ⟨ quarter ⟩
      at_last backwards (omega (arith, ints)) ⟨ quarter ⟩
      at_first (left_to_low o p) (omega (arith, ints)) ⟨ quarter ⟩
      again (at_first forwards (omega (arith, ints))))
      (λ q d s. approach_four_point (ap (λ (z : ℤ). z *ℤ q.d -ℤ q.x) x) (ap (λ (z : ℤ). z *ℤ q.d -ℤ q.y) y)
      s.1.1.1.0 s.1.1.0 s.0 s.1.0)
