-- The edges of lists.
use Rattle.std.specs.Prelude.{List, map}
use Rattle.scad_geom.specs.declared.point.Edge.{Edge}
use Rattle.scad_geom.specs.declared.level.LeafEdge.{LeafEdge}
use Rattle.slice_events.specs.declared.line.Line.{Line}

-- of lines
abbrev pub edges_in : List Line → List Edge
edges_in ls = map (λ l. l.edge) ls

-- of leaves' edges
abbrev pub edges_of_leaves : List LeafEdge → List Edge
edges_of_leaves es = map (λ e. e.edge) es
