-- Points and edges whose coordinates are small enough for a call's arithmetic.
use Rattle.std.specs.Prelude.{ℕ, ◌≤◌, unsigned_abs}
use Rattle.scad_geom.specs.declared.point.Pt.{Pt}
use Rattle.scad_geom.specs.declared.point.Edge.{Edge}

-- neither coordinate is greater in size than the limit
pub record IsWithin (limit : ℕ) (p : Pt) : Type 0 where
  pub x : unsigned_abs p.x ≤ limit
  pub y : unsigned_abs p.y ≤ limit

-- both ends are within the limit
pub record IsEdgeWithin (limit : ℕ) (e : Edge) : Type 0 where
  pub a : IsWithin limit e.a
  pub b : IsWithin limit e.b
