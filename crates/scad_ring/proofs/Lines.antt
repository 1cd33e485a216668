-- The side of a segment between whole points on which a point lies, by a cross product over the point's divisor.
use Rattle.std.proofs.Common.{ℤ, pos, ◌-ℤ◌, ◌*ℤ◌}
use Rattle.scad_geom.specs.declared.point.Pt.{Pt}
use Rattle.scad_geom.specs.Point.{whole}
use Rattle.scad_geom.specs.Segment.{Segment}

-- the cross product over a divisor that a side of whole ends has with a point
abbrev pub cross_of : ℤ → ℤ → ℤ → ℤ → ℤ → ℤ → ℤ → ℤ
cross_of ax ay bx by x y d = (bx *ℤ pos 1 -ℤ ax *ℤ pos 1) *ℤ (y *ℤ pos 1 -ℤ ay *ℤ d) -ℤ
    (by *ℤ pos 1 -ℤ ay *ℤ pos 1) *ℤ
    (x *ℤ pos 1 -ℤ ax *ℤ d)

abbrev pub way : Pt → Pt → Segment
way p r = record { from = whole p; to = whole r }
