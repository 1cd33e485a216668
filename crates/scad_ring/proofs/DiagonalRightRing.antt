-- The ring by an octagon round an edge that runs as much to the right as upwards.
use Rattle.std.proofs.Common.{◌≡◌, inl, inr, refl, arith, ℤ, pos, neg_ℤ, ◌+ℤ◌, ◌-ℤ◌, ◌<ℤ◌}
use Rattle.std.proofs.lemmas.Int.{ints}
use Rattle.scad_geom.specs.declared.point.Pt.{Pt}
use Rattle.scad_ring.specs.declared.direction.Direction.TheVariants.{DiagonalRight}
use Rattle.scad_ring.specs.Corners.{eight_sided, low_right, right_low, high_left, left_high}
use Rattle.scad_ring.proofs.Slants.{IsOctagon, right_by, diagonal_right_passes}
use Rattle.scad_ring.proofs.Offsets.{IsRingRound}
use Rattle.scad_ring.proofs.Sides.{OwnSide, longer, approach_by, at_first, at_last, along_first, along_last}
use Rattle.scad_ring.proofs.Sides.{◌⟨◌⟩◌, ◌&◌, again, ring_of}
use Rattle.scad_ring.proofs.OwnSides.{low_side, low_right_side, right_side, high_right_side, high_side}
use Rattle.scad_ring.proofs.OwnSides.{high_left_side, left_side, low_left_side, eighth}

module _ (c t u : ℤ) (sum : u ≡ c +ℤ t) (some : pos 0 <ℤ t) (less : t <ℤ c) (p r : Pt) (x : p.x <ℤ r.x)
    (y : r.y -ℤ p.y ≡ r.x -ℤ p.x) where
  o : IsOctagon c t u
  o = record { sum = sum; least = omega (arith, ints); less = less }

  forwards : OwnSide c u (neg_ℤ (pos 1)) (pos 1) u p (low_right c t p) (right_low c t r)
  forwards = longer (r.x -ℤ p.x) (omega (arith, ints)) (low_right_side o some p) (omega (arith, ints))
      (omega (arith, ints))

  backwards : OwnSide c u (pos 1) (neg_ℤ (pos 1)) u r (high_left c t r) (left_high c t p)
  backwards = longer (r.x -ℤ p.x) (omega (arith, ints)) (high_left_side o some r) (omega (arith, ints))
      (omega (arith, ints))

  pub diagonal_right_round : IsRingRound c u p r (eight_sided c t p r DiagonalRight)
  diagonal_right_round = ring_of
      (inr (refl, omega (arith, ints)) & inl (omega (arith, ints)) & inl (omega (arith, ints))
      & inl (omega (arith, ints)) & inl (omega (arith, ints)) & inl (omega (arith, ints)) & inl (omega (arith, ints))
      & tt)
      (at_first (low_side o some p) (omega (arith, ints)) ⟨ eighth ⟩
      along_first forwards (omega (arith, ints)) ⟨ eighth ⟩
      at_last (right_side o some r) (omega (arith, ints)) ⟨ eighth ⟩
      at_last (high_right_side o some r) (omega (arith, ints)) ⟨ eighth ⟩
      at_last (high_side o some r) (omega (arith, ints)) ⟨ eighth ⟩
      along_last backwards (omega (arith, ints)) (omega (arith, ints)) ⟨ eighth ⟩
      at_first (left_side o some p) (omega (arith, ints)) ⟨ eighth ⟩
      at_first (low_left_side o some p) (omega (arith, ints)) ⟨ eighth ⟩
      again (at_first (low_side o some p) (omega (arith, ints))))
      (λ q d s. approach_by
      (right_by p r q d o (omega (arith, ints)) (omega (arith, ints))
      (diagonal_right_passes p r q d o (omega (arith, ints)) (omega (arith, ints)) s.1.0 s.1.1.1.1.1.0))
      (record {
        over = s.0;
        over_left = inl s.1.0;
        left = s.1.1.0;
        below_left = s.1.1.1.0;
        below = s.1.1.1.1.0;
        below_right = inl s.1.1.1.1.1.0;
        right = s.1.1.1.1.1.1.0;
        over_right = s.1.1.1.1.1.1.1.0;
      }))
