-- The ring by an octagon round an edge that runs upwards.
use Rattle.std.proofs.Common.{◌≡◌, inl, inr, refl, arith, ℤ, pos, neg_ℤ, ◌+ℤ◌, ◌-ℤ◌, ◌<ℤ◌}
use Rattle.std.proofs.lemmas.Int.{ints}
use Rattle.scad_geom.specs.declared.point.Pt.{Pt}
use Rattle.scad_ring.specs.declared.direction.Direction.TheVariants.{Upright}
use Rattle.scad_ring.specs.Corners.{eight_sided, right_low, right_high, left_high, left_low}
use Rattle.scad_ring.proofs.Slants.{IsOctagon, steep_right_by, upright_passes}
use Rattle.scad_ring.proofs.Offsets.{IsRingRound}
use Rattle.scad_ring.proofs.Sides.{OwnSide, longer, approach_by, at_first, at_last, along_first, along_last}
use Rattle.scad_ring.proofs.Sides.{◌⟨◌⟩◌, ◌&◌, again, ring_of}
use Rattle.scad_ring.proofs.OwnSides.{low_side, low_right_side, right_side, high_right_side, high_side}
use Rattle.scad_ring.proofs.OwnSides.{high_left_side, left_side, low_left_side, eighth}

module _ (c t u : ℤ) (sum : u ≡ c +ℤ t) (some : pos 0 <ℤ t) (less : t <ℤ c) (p r : Pt) (x : p.x ≡ r.x)
    (y : p.y <ℤ r.y) where
  o : IsOctagon c t u
  o = record { sum = sum; least = omega (arith, ints); less = less }

  forwards : OwnSide c u (neg_ℤ (pos 1)) (pos 0) c p (right_low c t p) (right_high c t r)
  forwards = longer (r.y -ℤ p.y) (omega (arith, ints)) (right_side o some p) (omega (arith, ints))
      (omega (arith, ints))

  backwards : OwnSide c u (pos 1) (pos 0) c r (left_high c t r) (left_low c t p)
  backwards = longer (r.y -ℤ p.y) (omega (arith, ints)) (left_side o some r) (omega (arith, ints))
      (omega (arith, ints))

  pub upright_round : IsRingRound c u p r (eight_sided c t p r Upright)
  upright_round = ring_of
      (inr (refl, omega (arith, ints)) & inl (omega (arith, ints)) & inl (omega (arith, ints))
      & inl (omega (arith, ints)) & inl (omega (arith, ints)) & inl (omega (arith, ints)) & inl (omega (arith, ints))
      & tt)
      (at_first (low_side o some p) (omega (arith, ints)) ⟨ eighth ⟩
      at_first (low_right_side o some p) (omega (arith, ints)) ⟨ eighth ⟩
      along_first forwards (omega (arith, ints)) ⟨ eighth ⟩
      at_last (high_right_side o some r) (omega (arith, ints)) ⟨ eighth ⟩
      at_last (high_side o some r) (omega (arith, ints)) ⟨ eighth ⟩
      at_last (high_left_side o some r) (omega (arith, ints)) ⟨ eighth ⟩
      along_last backwards (omega (arith, ints)) (omega (arith, ints)) ⟨ eighth ⟩
      at_first (low_left_side o some p) (omega (arith, ints)) ⟨ eighth ⟩
      again (at_first (low_side o some p) (omega (arith, ints))))
      (λ q d s. approach_by
      (steep_right_by p r q d o (omega (arith, ints)) (omega (arith, ints))
      (upright_passes p r q d o (omega (arith, ints)) (omega (arith, ints)) s.1.1.0 s.1.1.1.1.1.1.0))
      (record {
        over = s.0;
        over_left = s.1.0;
        left = inl s.1.1.0;
        below_left = s.1.1.1.0;
        below = s.1.1.1.1.0;
        below_right = s.1.1.1.1.1.0;
        right = inl s.1.1.1.1.1.1.0;
        over_right = s.1.1.1.1.1.1.1.0;
      }))
