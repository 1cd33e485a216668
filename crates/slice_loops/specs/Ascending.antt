-- Edges in ascending order.
use Rattle.std.specs.Prelude.{◌≡◌, List, All}
use Rattle.scad_geom.specs.declared.point.Pt.{Pt}
use Rattle.scad_geom.specs.declared.point.Edge.{Edge}
use Rattle.scad_geom.specs.PointOrder.{IsAscendingBy}
use Rattle.slice_loops.specs.Order.{is_less}

-- no edge is less than one before it
abbrev pub IsAscending : List Edge → Type 0
IsAscending edges = IsAscendingBy is_less edges

-- no edge starts at a point
abbrev pub NoneStarts : Pt → List Edge → Type 0
NoneStarts p edges = All (λ e. e.a ≡ p → ⊥) edges
