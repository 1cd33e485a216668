use Rattle.std.proofs.Common.{◌≡◌, ◌++◌, true, drop}
use Rattle.std.specs.List.{list_all}
use Rattle.scad_geom.specs.PointRange.{is_in_range}
use Rattle.scad_tree.specs.Points.{all_points}
use Rattle.scad_tree.specs.Solid.{members}
use Rattle.scad_tree.specs.View.{solids}
use Rattle.scad_tree.proofs.points.+points.Given as goal

-- those so far, and what is left
abbrev pub invariant-push_members-nodes : goal.invariant-push_members-nodes
invariant-push_members-nodes l = record {
  reached : l.out.items ++ all_points (members (solids (drop l.node-index l.nodes)))
      ≡ l.fn.out.items ++ all_points (members (solids l.nodes));
  range : list_all is_in_range l.out.items ≡ true;
}
