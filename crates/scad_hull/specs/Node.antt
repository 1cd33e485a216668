-- Points of space with their height first.
use Rattle.scad_geom.specs.declared.point3.Pt3.{Pt3}
use Rattle.scad_hull.specs.declared.node.Node.{Node}

abbrev pub node_of : Pt3 → Node
node_of p = record { z = p.z; y = p.y; x = p.x }

abbrev pub point_of : Node → Pt3
point_of n = record { x = n.x; y = n.y; z = n.z }
