use Rattle.std.proofs.Common.{◌≡◌, ◌++◌, map, drop}
use Rattle.scad_tree.specs.Sections.{leaf_edge}
use Rattle.outline_samples.proofs.random_outlines.push_leaf.Given as goal

-- the edges so far, and what is left
abbrev pub invariant-edges : goal.invariant-edges
invariant-edges l = l.edges.items ++ map (leaf_edge l.leaf) (drop l.edge-index l.around) ≡ l.fn.edges.items ++ map
    (leaf_edge l.leaf) l.around
