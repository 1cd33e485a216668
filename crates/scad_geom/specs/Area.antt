-- Signed areas, doubled so that they are whole (the shoelace formula).
use Rattle.std.specs.Prelude.{List, [], ◌∷◌, ℤ, pos, ◌+ℤ◌, ◌-ℤ◌, ◌*ℤ◌}
use Rattle.scad_geom.specs.declared.point.Pt.{Pt}
use Rattle.scad_geom.specs.declared.point.Edge.{Edge}
use Rattle.scad_geom.specs.Loop.{sides}

-- the cross product of an edge's ends: twice the signed area of the triangle that they make with
-- the origin
abbrev pub cross : Edge → ℤ
cross e = e.a.x *ℤ e.b.y -ℤ e.b.x *ℤ e.a.y

-- the sum of the cross products of edges
abbrev pub cross_sum : List Edge → ℤ
cross_sum [] = pos 0
cross_sum (e ∷ es) = cross e +ℤ cross_sum es

-- twice the signed area of a closed outline, above 0 where it runs counter-clockwise
abbrev pub twice_area : List Pt → ℤ
twice_area points = cross_sum (sides points)
