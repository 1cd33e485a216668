-- Exact points of a layer's plane: two whole numbers over one divisor.
use Rattle.std.specs.Prelude.{Bool, ◌&&◌, ℤ, pos, ◌*ℤ◌}
use Rattle.std.specs.Ordering.{int_eq}
use Rattle.scad_geom.specs.declared.point.Pt.{Pt}

-- the point (x / d, y / d), with d above 0
pub record Point : Type 0 where
  pub x : ℤ
  pub y : ℤ
  pub d : ℤ

-- a point in whole micrometres
abbrev pub whole : Pt → Point
whole p = record { x = p.x; y = p.y; d = pos 1 }

-- the point (x / 2, y / 2)
abbrev pub halves : ℤ → ℤ → Point
halves x y = record { x = x; y = y; d = pos 2 }

-- whether two points are the same, over any divisors
abbrev pub is_same_point : Point → Point → Bool
is_same_point p q = int_eq (p.y *ℤ q.d) (q.y *ℤ p.d) && int_eq (p.x *ℤ q.d) (q.x *ℤ p.d)
