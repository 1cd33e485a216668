use Rattle.std.specs.Prelude.{All}
use Rattle.scad_geom.specs.Within.{IsWithin}
use Rattle.scad_geom.specs.Limits.{point_limit}
use Rattle.sample_dice.proofs.outlines.roll_outlines.Given as goal

abbrev pub invariant-outlines : goal.invariant-outlines
invariant-outlines l = All (λ o. All (IsWithin point_limit) o) l.outlines.items
