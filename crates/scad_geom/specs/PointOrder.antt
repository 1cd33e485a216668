-- The order of points, and edges in ascending order.
use Rattle.std.specs.Prelude.{◌≡◌, ⊤, Bool, false, List, [], ◌∷◌, All}
use Rattle.std.specs.Ordering.{int_cmp, ordering_then}
use Rattle.std.specs.declared.cmp.Ordering.{Ordering}
use Rattle.scad_geom.specs.declared.point.Pt.{Pt}
use Rattle.scad_geom.specs.declared.point.Edge.{Edge}

-- points by y, then by x
abbrev pub point_cmp : Pt → Pt → Ordering
point_cmp p q = ordering_then (int_cmp p.y q.y) (int_cmp p.x q.x)

-- by an order of edges, none is less than one before it
abbrev pub IsAscendingBy : (Edge → Edge → Bool) → List Edge → Type 0
IsAscendingBy is_less [] = ⊤
IsAscendingBy is_less (e ∷ es) = All (λ f. is_less f e ≡ false) es × IsAscendingBy is_less es
