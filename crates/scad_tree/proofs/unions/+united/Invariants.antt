use Rattle.std.proofs.Common.{◌≡◌, drop}
use Rattle.scad_tree.specs.Points.{are_united}
use Rattle.scad_tree.specs.Solid.{members}
use Rattle.scad_tree.specs.View.{solids}
use Rattle.scad_tree.proofs.unions.+united.Given as goal

-- those that are left decide
abbrev pub invariant-are_united-nodes : goal.invariant-are_united-nodes
invariant-are_united-nodes l =
    are_united (members (solids l.nodes)) ≡ are_united (members (solids (drop l.node-index l.nodes)))
