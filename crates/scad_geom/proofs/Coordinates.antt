-- Coordinates within the limit, as a call is given them.
use Rattle.std.proofs.Common.{refl, ◌≡◌, to_z, of_z, arith}
use Rattle.scad_geom.specs.declared.point.Pt.{Pt}
use Rattle.scad_geom.specs.Limits.{coordinate_limit}
use Rattle.scad_geom.specs.Within.{IsWithin}
use Rattle.scad_geom.proofs.Casts.{handed}
use mir.Syntax.{w32}

pub x_kept : (p : Pt) → IsWithin coordinate_limit p → to_z w32 (of_z w32 p.x) ≡ p.x
x_kept p within = handed w32 p.x (omega arith) refl

pub y_kept : (p : Pt) → IsWithin coordinate_limit p → to_z w32 (of_z w32 p.y) ≡ p.y
y_kept p within = handed w32 p.y (omega arith) refl
