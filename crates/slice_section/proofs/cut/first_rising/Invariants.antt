use Rattle.std.proofs.Common.{◌≡◌, drop}
use Rattle.std.specs.Prelude.{find}
use Rattle.scad_solid.specs.Cut.{rises}
use Rattle.slice_section.proofs.cut.first_rising.Given as goal

abbrev pub invariant-sides : goal.invariant-sides
invariant-sides l = find (rises l.plane) (drop l.side-index l.sides) ≡ find (rises l.plane) l.sides
