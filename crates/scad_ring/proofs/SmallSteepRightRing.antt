-- The ring by an octagon whose corners fall together two by two round an edge that runs more upwards than to a side.
use Rattle.std.proofs.Common.{inl, inr, arith, ℤ, pos, ◌-ℤ◌, ◌<ℤ◌}
use Rattle.std.proofs.lemmas.Int.{ints}
use Rattle.scad_geom.specs.declared.point.Pt.{Pt}
use Rattle.scad_geom.proofs.Rising.{order}
use Rattle.scad_ring.specs.declared.direction.Direction.TheVariants.{SteepRight}
use Rattle.scad_ring.specs.Corners.{four_sided, right, left}
use Rattle.scad_ring.proofs.Octants.{approach_four}
use Rattle.scad_ring.proofs.Steps.{Beside, along}
use Rattle.scad_ring.proofs.Slants.{IsOctagon, PassesFrom, CornerFrom}
use Rattle.scad_ring.proofs.Slants.{steep_right_by, steep_left_by, steep_right_passes, steep_left_passes}
use Rattle.scad_ring.proofs.Offsets.{IsRingRound}
use Rattle.scad_ring.proofs.Sides.{PassesIfNear, at_first, at_last, forth, back}
use Rattle.scad_ring.proofs.Sides.{◌⟨◌⟩◌, ◌&◌, again, ring_of}
use Rattle.scad_ring.proofs.OwnSides.{low_to_right, right_to_high, high_to_left, left_to_low, quarter}

module _ (c : ℤ) (less : pos 0 <ℤ c) (p r : Pt) (x : (r.x -ℤ p.x) <ℤ (r.y -ℤ p.y)) (y : (p.x -ℤ r.x) <ℤ (r.y -ℤ p.y))
  where
    o : IsOctagon c (pos 0) c
    o = record { sum = omega (arith, ints); least = omega (arith, ints); less = less }

    forwards : Beside c (pos 0) p r (right c p) (right c r)
    forwards = along (omega (arith, ints)) (omega (arith, ints)) (omega (arith, ints)) (omega (arith, ints))

    backwards : Beside (pos 0 -ℤ c) (pos 0 -ℤ (pos 0)) r p (left c r) (left c p)
    backwards = along (omega (arith, ints)) (omega (arith, ints)) (omega (arith, ints)) (omega (arith, ints))

    passes : PassesIfNear c c p r c (pos 0)
    passes q d a = elim (order p.x r.x) as (λ x. PassesFrom p r q d c (pos 0)) [
      | inl h ↦ steep_right_passes p r q d o (omega (arith, ints)) (omega (arith, ints)) a
      | inr h ↦ steep_left_passes p r q d o (omega (arith, ints)) (omega (arith, ints)) a
    ]

    pub steep_right_round : IsRingRound c c p r (four_sided c p r SteepRight)
    steep_right_round = ring_of
        (inl (omega (arith, ints)) & inl (omega (arith, ints)) & inl (omega (arith, ints)) & inl (omega (arith, ints))
        & inl (omega (arith, ints)) & tt)
        (at_first (low_to_right o p) (omega (arith, ints)) ⟨ omega (arith, ints) ⟩
        forth c (pos 0) forwards (right_to_high o p).offset passes ⟨ omega (arith, ints) ⟩
        at_last (right_to_high o r) (omega (arith, ints)) ⟨ quarter ⟩
        at_last (high_to_left o r) (omega (arith, ints)) ⟨ omega (arith, ints) ⟩
        back c (pos 0) backwards (left_to_low o r).offset passes ⟨ omega (arith, ints) ⟩
        at_first (left_to_low o p) (omega (arith, ints)) ⟨ quarter ⟩
        again (at_first (low_to_right o p) (omega (arith, ints))))
        (λ q d s. approach_four
        ((elim (order p.x r.x) as (λ x. PassesFrom p r q d c (pos 0) → CornerFrom p r q d o c (pos 0)) [
          | inl h ↦ steep_right_by p r q d o (omega (arith, ints)) (omega (arith, ints))
          | inr h ↦ steep_left_by p r q d o (omega (arith, ints)) (omega (arith, ints))
        ])
        (record { least = s.1.0; most = s.1.1.1.1.0 }))
        s.1.1.1.1.1.0 s.1.1.1.0 s.0 s.1.1.0)
