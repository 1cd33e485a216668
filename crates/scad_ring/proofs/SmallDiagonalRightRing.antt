-- The ring by an octagon whose corners fall together two by two round an edge that runs as much to the right as
-- upwards.
use Rattle.std.proofs.Common.{◌≡◌, inl, arith, ℤ, pos, neg_ℤ, ◌-ℤ◌, ◌<ℤ◌}
use Rattle.std.proofs.lemmas.Int.{ints}
use Rattle.scad_geom.specs.declared.point.Pt.{Pt}
use Rattle.scad_ring.specs.declared.direction.Direction.TheVariants.{DiagonalRight}
use Rattle.scad_ring.specs.Corners.{four_sided, low, right, high, left}
use Rattle.scad_ring.proofs.Octants.{approach_four}
use Rattle.scad_ring.proofs.Slants.{IsOctagon, right_by, diagonal_right_passes}
use Rattle.scad_ring.proofs.Offsets.{IsRingRound}
use Rattle.scad_ring.proofs.Sides.{OwnSide, longer, at_first, at_last, along_first, along_last}
use Rattle.scad_ring.proofs.Sides.{◌⟨◌⟩◌, ◌&◌, again, ring_of}
use Rattle.scad_ring.proofs.OwnSides.{low_to_right, right_to_high, high_to_left, left_to_low, quarter}

module _ (c : ℤ) (less : pos 0 <ℤ c) (p r : Pt) (x : p.x <ℤ r.x) (y : r.y -ℤ p.y ≡ r.x -ℤ p.x) where
  o : IsOctagon c (pos 0) c
  o = record { sum = omega (arith, ints); least = omega (arith, ints); less = less }

  forwards : OwnSide c c (neg_ℤ (pos 1)) (pos 1) c p (low c p) (right c r)
  forwards = longer (r.x -ℤ p.x) (omega (arith, ints)) (low_to_right o p) (omega (arith, ints)) (omega (arith, ints))

  backwards : OwnSide c c (pos 1) (neg_ℤ (pos 1)) c r (high c r) (left c p)
  backwards = longer (r.x -ℤ p.x) (omega (arith, ints)) (high_to_left o r) (omega (arith, ints)) (omega (arith, ints))

  pub diagonal_right_round : IsRingRound c c p r (four_sided c p r DiagonalRight)
  diagonal_right_round = ring_of
      (inl (omega (arith, ints)) & inl (omega (arith, ints)) & inl (omega (arith, ints)) & tt)
      (along_first forwards (omega (arith, ints)) ⟨ quarter ⟩
      at_last (right_to_high o r) (omega (arith, ints)) ⟨ quarter ⟩
      along_last backwards (omega (arith, ints)) (omega (arith, ints)) ⟨ quarter ⟩
      at_first (left_to_low o p) (omega (arith, ints)) ⟨ quarter ⟩
      again (along_first forwards (omega (arith, ints))))
      (λ q d s. approach_four
      (right_by p r q d o (omega (arith, ints)) (omega (arith, ints))
      (diagonal_right_passes p r q d o (omega (arith, ints)) (omega (arith, ints)) s.0 s.1.1.0))
      s.1.1.1.0 (inl s.1.1.0) (inl s.0) s.1.0)
