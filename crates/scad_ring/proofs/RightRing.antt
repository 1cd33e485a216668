-- The ring by an octagon round an edge that runs more to the right than upwards.
use Rattle.std.proofs.Common.{◌≡◌, inl, inr, refl, arith, ℤ, pos, ◌+ℤ◌, ◌-ℤ◌, ◌<ℤ◌}
use Rattle.std.proofs.lemmas.Int.{ints}
use Rattle.scad_geom.specs.declared.point.Pt.{Pt}
use Rattle.scad_ring.specs.declared.direction.Direction.TheVariants.{Right}
use Rattle.scad_ring.specs.Corners.{eight_sided, low_right, high_left}
use Rattle.scad_ring.proofs.Steps.{Beside, along}
use Rattle.scad_ring.proofs.Slants.{IsOctagon, right_by, right_passes}
use Rattle.scad_ring.proofs.Offsets.{IsRingRound}
use Rattle.scad_ring.proofs.Sides.{PassesIfNear, approach_by, at_first, at_last, forth, back}
use Rattle.scad_ring.proofs.Sides.{◌⟨◌⟩◌, ◌&◌, again, ring_of}
use Rattle.scad_ring.proofs.OwnSides.{low_side, low_right_side, right_side, high_right_side, high_side}
use Rattle.scad_ring.proofs.OwnSides.{high_left_side, left_side, low_left_side, eighth}

module _ (c t u : ℤ) (sum : u ≡ c +ℤ t) (some : pos 0 <ℤ t) (less : t <ℤ c) (p r : Pt) (y : p.y <ℤ r.y)
    (x : (r.y -ℤ p.y) <ℤ (r.x -ℤ p.x)) where
  o : IsOctagon c t u
  o = record { sum = sum; least = omega (arith, ints); less = less }

  forwards : Beside t (pos 0 -ℤ c) p r (low_right c t p) (low_right c t r)
  forwards = along (omega (arith, ints)) (omega (arith, ints)) (omega (arith, ints)) (omega (arith, ints))

  backwards : Beside (pos 0 -ℤ t) (pos 0 -ℤ (pos 0 -ℤ c)) r p (high_left c t r) (high_left c t p)
  backwards = along (omega (arith, ints)) (omega (arith, ints)) (omega (arith, ints)) (omega (arith, ints))

  passes : PassesIfNear c u p r t (pos 0 -ℤ c)
  passes q d a = right_passes p r q d o (omega (arith, ints)) (omega (arith, ints)) a

  pub right_round : IsRingRound c u p r (eight_sided c t p r Right)
  right_round = ring_of
      (inr (refl, omega (arith, ints)) & inl (omega (arith, ints)) & inl (omega (arith, ints))
      & inl (omega (arith, ints)) & inl (omega (arith, ints)) & inl (omega (arith, ints)) & inl (omega (arith, ints))
      & inl (omega (arith, ints)) & inl (omega (arith, ints)) & tt)
      (at_first (low_side o some p) (omega (arith, ints)) ⟨ omega (arith, ints) ⟩
      forth t (pos 0 -ℤ c) forwards (low_right_side o some p).offset passes ⟨ omega (arith, ints) ⟩
      at_last (low_right_side o some r) (omega (arith, ints)) ⟨ eighth ⟩
      at_last (right_side o some r) (omega (arith, ints)) ⟨ eighth ⟩
      at_last (high_right_side o some r) (omega (arith, ints)) ⟨ eighth ⟩
      at_last (high_side o some r) (omega (arith, ints)) ⟨ omega (arith, ints) ⟩
      back t (pos 0 -ℤ c) backwards (high_left_side o some r).offset passes ⟨ omega (arith, ints) ⟩
      at_first (high_left_side o some p) (omega (arith, ints)) ⟨ eighth ⟩
      at_first (left_side o some p) (omega (arith, ints)) ⟨ eighth ⟩
      at_first (low_left_side o some p) (omega (arith, ints)) ⟨ eighth ⟩
      again (at_first (low_side o some p) (omega (arith, ints))))
      (λ q d s. approach_by
      (right_by p r q d o (omega (arith, ints)) (omega (arith, ints))
      (record { least = s.1.0; most = s.1.1.1.1.1.1.0 }))
      (record {
        over = s.0;
        over_left = s.1.1.0;
        left = s.1.1.1.0;
        below_left = s.1.1.1.1.0;
        below = s.1.1.1.1.1.0;
        below_right = s.1.1.1.1.1.1.1.0;
        right = s.1.1.1.1.1.1.1.1.0;
        over_right = s.1.1.1.1.1.1.1.1.1.0;
      }))
