-- Crossings of edges and rays, in whole numbers over one divisor.
use Rattle.std.proofs.Common.{List, [], ◌∷◌, ℤ, pos, ◌+ℤ◌, ◌-ℤ◌, ◌*ℤ◌}
use Rattle.std.specs.Prelude.{int_lt, if◌then◌else◌}
use Rattle.scad_geom.specs.declared.point.Pt.{Pt}
use Rattle.scad_geom.specs.declared.point.Edge.{Edge}
use Rattle.scad_geom.specs.Winding.{counted}

-- an edge with all coordinates times a number
abbrev pub times_point : ℤ → Pt → Pt
times_point k p = record { x = k *ℤ p.x; y = k *ℤ p.y }

abbrev pub scaled : ℤ → Edge → Edge
scaled k e = record { a = times_point k e.a; b = times_point k e.b }

abbrev pub doubled_edge : Edge → Edge
doubled_edge e = scaled (pos 2) e

-- how an edge passes a height
abbrev pub passage : Edge → ℤ → ℤ
passage e y = counted (int_lt y e.b.y) -ℤ counted (int_lt y e.a.y)

-- above 0 where a point lies to an edge's left
abbrev pub side_of : Edge → ℤ → ℤ → ℤ
side_of e x y = (e.b.x -ℤ e.a.x) *ℤ (y -ℤ e.a.y) -ℤ (e.b.y -ℤ e.a.y) *ℤ (x -ℤ e.a.x)

-- how an edge crosses the ray from (x, y) to the right
abbrev pub crossing : Edge → ℤ → ℤ → ℤ
crossing e x y = if int_lt (pos 0) (passage e y *ℤ side_of e x y) then passage e y else pos 0

-- how edges cross the ray from (x / 2, y / 2)
abbrev pub crossings : List Edge → ℤ → ℤ → ℤ
crossings [] x y = pos 0
crossings (e ∷ es) x y = crossing (doubled_edge e) x y +ℤ crossings es x y
