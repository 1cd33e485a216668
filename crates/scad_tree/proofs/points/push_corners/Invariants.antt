use Rattle.std.proofs.Common.{◌≡◌, ◌++◌, true, drop}
use Rattle.std.specs.List.{list_all}
use Rattle.scad_geom.specs.PointRange.{is_in_range}
use Rattle.scad_tree.specs.Points.{corners}
use Rattle.scad_tree.proofs.points.push_corners.Given as goal

-- those so far, and what is left
abbrev pub invariant-triangles : goal.invariant-triangles
invariant-triangles l = record {
  reached : l.out.items ++ corners (drop l.t-index l.triangles) ≡ l.fn.out.items ++ corners l.triangles;
  range : list_all is_in_range l.out.items ≡ true;
}
