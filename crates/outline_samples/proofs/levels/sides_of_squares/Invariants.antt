use Rattle.std.specs.Prelude.{All}
use Rattle.scad_geom.specs.Within.{IsEdgeWithin}
use Rattle.scad_geom.specs.Limits.{coordinate_limit}
use Rattle.outline_samples.proofs.levels.sides_of_squares.Given as goal

abbrev pub invariant-sides : goal.invariant-sides
invariant-sides l = All (λ e. IsEdgeWithin coordinate_limit e.edge) l.edges.items
