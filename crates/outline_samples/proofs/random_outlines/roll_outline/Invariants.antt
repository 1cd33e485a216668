use Rattle.std.specs.Prelude.{All}
use Rattle.scad_geom.specs.Within.{IsWithin}
use Rattle.scad_geom.specs.Limits.{coordinate_limit}
use Rattle.outline_samples.proofs.random_outlines.roll_outline.Given as goal

abbrev pub invariant-points : goal.invariant-points
invariant-points l = All (IsWithin coordinate_limit) l.points.items
