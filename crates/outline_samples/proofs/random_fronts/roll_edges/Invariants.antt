use Rattle.std.specs.Prelude.{All}
use Rattle.scad_geom.specs.Within.{IsEdgeWithin}
use Rattle.scad_geom.specs.Limits.{coordinate_limit}
use Rattle.outline_samples.proofs.random_fronts.roll_edges.Given as goal

abbrev pub invariant-edges : goal.invariant-edges
invariant-edges l = All (λ e. IsEdgeWithin coordinate_limit e.edge) l.edges.items
