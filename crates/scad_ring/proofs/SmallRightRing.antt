-- The ring by an octagon whose corners fall together two by two round an edge that runs more to the right than
-- upwards, or to the right.
use Rattle.std.proofs.Common.{inl, arith, ℤ, pos, ◌-ℤ◌, ◌<ℤ◌}
use lib.Signed.{◌≤ℤ◌}
use Rattle.std.proofs.lemmas.Int.{ints}
use Rattle.scad_geom.specs.declared.point.Pt.{Pt}
use Rattle.scad_ring.specs.declared.direction.Direction.TheVariants.{Right}
use Rattle.scad_ring.specs.Corners.{four_sided, low, high}
use Rattle.scad_ring.proofs.Octants.{approach_four}
use Rattle.scad_ring.proofs.Steps.{Beside, along}
use Rattle.scad_ring.proofs.Slants.{IsOctagon, right_by, right_passes}
use Rattle.scad_ring.proofs.Offsets.{IsRingRound, before}
use Rattle.scad_ring.proofs.Sides.{PassesIfNear, at_first, at_last, forth, back}
use Rattle.scad_ring.proofs.Sides.{◌⟨◌⟩◌, ◌&◌, again, ring_of}
use Rattle.scad_ring.proofs.OwnSides.{low_to_right, right_to_high, high_to_left, left_to_low, quarter}

module _ (c : ℤ) (less : pos 0 <ℤ c) (p r : Pt) (y : p.y ≤ℤ r.y) (x : (r.y -ℤ p.y) <ℤ (r.x -ℤ p.x)) where
  o : IsOctagon c (pos 0) c
  o = record { sum = omega (arith, ints); least = omega (arith, ints); less = less }

  forwards : Beside (pos 0) (pos 0 -ℤ c) p r (low c p) (low c r)
  forwards = along (omega (arith, ints)) (omega (arith, ints)) (omega (arith, ints)) (omega (arith, ints))

  backwards : Beside (pos 0 -ℤ (pos 0)) (pos 0 -ℤ (pos 0 -ℤ c)) r p (high c r) (high c p)
  backwards = along (omega (arith, ints)) (omega (arith, ints)) (omega (arith, ints)) (omega (arith, ints))

  passes : PassesIfNear c c p r (pos 0) (pos 0 -ℤ c)
  passes q d a = right_passes p r q d o (omega (arith, ints)) (omega (arith, ints)) a

  pub right_round : IsRingRound c c p r (four_sided c p r Right)
  right_round = ring_of
      (before p r c y (omega (arith, ints)) & inl (omega (arith, ints)) & inl (omega (arith, ints))
      & inl (omega (arith, ints)) & inl (omega (arith, ints)) & tt)
      (forth (pos 0) (pos 0 -ℤ c) forwards (low_to_right o p).offset passes ⟨ omega (arith, ints) ⟩
      at_last (low_to_right o r) (omega (arith, ints)) ⟨ quarter ⟩
      at_last (right_to_high o r) (omega (arith, ints)) ⟨ omega (arith, ints) ⟩
      back (pos 0) (pos 0 -ℤ c) backwards (high_to_left o r).offset passes ⟨ omega (arith, ints) ⟩
      at_first (high_to_left o p) (omega (arith, ints)) ⟨ quarter ⟩
      at_first (left_to_low o p) (omega (arith, ints)) ⟨ omega (arith, ints) ⟩
      again (forth (pos 0) (pos 0 -ℤ c) forwards (low_to_right o p).offset passes))
      (λ q d s. approach_four
      (right_by p r q d o (omega (arith, ints)) (omega (arith, ints))
      (record { least = s.0; most = s.1.1.1.0 }))
      s.1.1.1.1.1.0 s.1.1.1.1.0 s.1.0 s.1.1.0)
