-- The section of a tree at a layer: those of its surfaces, in tree order.
use Rattle.std.specs.Prelude.{ℕ, ◌+◌, List, [], ◌∷◌, ◌++◌, map}
use Rattle.scad_geom.specs.declared.point.Edge.{Edge}
use Rattle.scad_geom.specs.declared.level.LeafEdge.{LeafEdge}
use Rattle.scad_solid.specs.declared.triangle.Triangle.{Triangle}
use Rattle.slice_section.specs.Section.{section_of}
use Rattle.scad_tree.specs.Solid.{Solid}
use Rattle.scad_tree.specs.Order.{surfaces}

-- an edge of the leaf with this number
abbrev pub leaf_edge : ℕ → Edge → LeafEdge
leaf_edge leaf e = record { leaf = leaf; edge = e }

-- the edges of a surface at a layer of the height h
abbrev pub leaf_section : ℕ → ℕ → ℕ → List Triangle → List LeafEdge
leaf_section layer h leaf ts = map (leaf_edge leaf) (section_of ts layer h)

-- those of surfaces, of which the first has this number
abbrev pub sections_from : ℕ → ℕ → ℕ → List (List Triangle) → List LeafEdge
sections_from layer h leaf [] = []
sections_from layer h leaf (ts ∷ rest) = leaf_section layer h leaf ts ++ sections_from layer h (leaf + 1) rest

-- the edges of all leaves, each leaf's in the order of its triangles
abbrev pub tree_section : ℕ → ℕ → Solid → List LeafEdge
tree_section layer h s = sections_from layer h 0 (surfaces s)
