use Rattle.std.proofs.Common.{◌≡◌, drop}
use Rattle.std.specs.Prelude.{find}
use Rattle.scad_solid.specs.Cut.{falls}
use Rattle.slice_section.proofs.cut.first_falling.Given as goal

abbrev pub invariant-sides : goal.invariant-sides
invariant-sides l = find (falls l.plane) (drop l.side-index l.sides) ≡ find (falls l.plane) l.sides
