use Rattle.std.specs.Prelude.{All}
use Rattle.scad_geom.specs.Within.{IsWithin}
use Rattle.scad_geom.specs.Limits.{point_limit}
use Rattle.sample_dice.proofs.outlines.roll_outline.Given as goal

abbrev pub invariant-points : goal.invariant-points
invariant-points l = All (IsWithin point_limit) l.points.items
