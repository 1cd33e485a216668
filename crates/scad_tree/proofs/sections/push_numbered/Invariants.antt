use Rattle.std.proofs.Common.{◌≡◌, ◌++◌, map, drop}
use Rattle.scad_tree.specs.Sections.{leaf_edge}
use Rattle.scad_tree.proofs.sections.push_numbered.Given as goal

-- the edges so far, and what is left
abbrev pub invariant-edges : goal.invariant-edges
invariant-edges l = l.out.items ++ map (leaf_edge l.leaf) (drop l.edge-index l.edges) ≡ l.fn.out.items ++ map
    (leaf_edge l.leaf) l.edges
