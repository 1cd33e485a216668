use Rattle.std.specs.Prelude.{All}
use Rattle.scad_geom.specs.Within.{IsWithin, IsEdgeWithin}
use Rattle.scad_geom.specs.Limits.{coordinate_limit}
use Rattle.scad_geom.specs.Leaves.{AreLeavesBalanced}
use Rattle.outline_samples.proofs.random_outlines.roll_sides.Given as goal

abbrev pub invariant-outlines : goal.invariant-outlines
invariant-outlines l = record {
  last : All (IsWithin coordinate_limit) l.outline;
  within : All (λ e. IsEdgeWithin coordinate_limit e.edge) l.edges.items;
  balanced : AreLeavesBalanced l.edges.items;
}
