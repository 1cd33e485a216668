-- The ring by an octagon whose corners fall together two by two round an edge that runs more to the left than
-- upwards.
use Rattle.std.proofs.Common.{inl, arith, ℤ, pos, ◌-ℤ◌, ◌<ℤ◌}
use Rattle.std.proofs.lemmas.Int.{ints}
use Rattle.scad_geom.specs.declared.point.Pt.{Pt}
use Rattle.scad_ring.specs.declared.direction.Direction.TheVariants.{Left}
use Rattle.scad_ring.specs.Corners.{four_sided, low, high}
use Rattle.scad_ring.proofs.Octants.{approach_four}
use Rattle.scad_ring.proofs.Steps.{Beside, along}
use Rattle.scad_ring.proofs.Slants.{IsOctagon, left_by, left_passes}
use Rattle.scad_ring.proofs.Offsets.{IsRingRound}
use Rattle.scad_ring.proofs.Sides.{PassesIfNear, at_first, at_last, forth, back}
use Rattle.scad_ring.proofs.Sides.{◌⟨◌⟩◌, ◌&◌, again, ring_of}
use Rattle.scad_ring.proofs.OwnSides.{low_to_right, right_to_high, high_to_left, left_to_low, quarter}

module _ (c : ℤ) (less : pos 0 <ℤ c) (p r : Pt) (y : p.y <ℤ r.y) (x : (r.y -ℤ p.y) <ℤ (p.x -ℤ r.x)) where
  o : IsOctagon c (pos 0) c
  o = record { sum = omega (arith, ints); least = omega (arith, ints); less = less }

  forwards : Beside (pos 0) c p r (high c p) (high c r)
  forwards = along (omega (arith, ints)) (omega (arith, ints)) (omega (arith, ints)) (omega (arith, ints))

  backwards : Beside (pos 0 -ℤ (pos 0)) (pos 0 -ℤ c) r p (low c r) (low c p)
  backwards = along (omega (arith, ints)) (omega (arith, ints)) (omega (arith, ints)) (omega (arith, ints))

  passes : PassesIfNear c c p r (pos 0) c
  passes q d a = left_passes p r q d o (omega (arith, ints)) (omega (arith, ints)) a

  pub left_round : IsRingRound c c p r (four_sided c p r Left)
  left_round = ring_of
      (inl (omega (arith, ints)) & inl (omega (arith, ints)) & inl (omega (arith, ints)) & inl (omega (arith, ints))
      & inl (omega (arith, ints)) & tt)
      (at_first (low_to_right o p) (omega (arith, ints)) ⟨ quarter ⟩
      at_first (right_to_high o p) (omega (arith, ints)) ⟨ omega (arith, ints) ⟩
      forth (pos 0) c forwards (high_to_left o p).offset passes ⟨ omega (arith, ints) ⟩
      at_last (high_to_left o r) (omega (arith, ints)) ⟨ quarter ⟩
      at_last (left_to_low o r) (omega (arith, ints)) ⟨ omega (arith, ints) ⟩
      back (pos 0) c backwards (low_to_right o r).offset passes ⟨ omega (arith, ints) ⟩
      again (at_first (low_to_right o p) (omega (arith, ints))))
      (λ q d s. approach_four
      (left_by p r q d o (omega (arith, ints)) (omega (arith, ints))
      (record { least = s.1.1.0; most = s.1.1.1.1.1.0 }))
      s.1.1.1.1.0 s.1.1.1.0 s.0 s.1.0)
