-- Between which lines sides lie.
use Rattle.std.specs.Prelude.{Bool, if◌then◌else◌, ℤ, ◌≤ℤ◌}
use Rattle.scad_geom.specs.declared.point.Pt.{Pt}
use Rattle.scad_geom.specs.declared.point.Edge.{Edge}

-- the coordinate of a point across lines: its y over rows, its x over columns
abbrev pub across : Bool → Pt → ℤ
across rows p = if rows then p.y else p.x

-- a number lies between two others
pub record IsAmong (low high z : ℤ) : Type 0 where
  pub from : low ≤ℤ z
  pub to : z ≤ℤ high

-- both ends of an edge lie between two coordinates across the lines
pub record IsEdgeAmong (rows : Bool) (low high : ℤ) (e : Edge) : Type 0 where
  pub a : IsAmong low high (across rows e.a)
  pub b : IsAmong low high (across rows e.b)
