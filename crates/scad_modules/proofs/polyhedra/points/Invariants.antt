use Rattle.std.proofs.Common.{◌≡◌, [], drop}
use Rattle.scad_value.specs.View.{elements}
use Rattle.scad_modules.specs.Reading.{points_onto}
use Rattle.scad_modules.proofs.polyhedra.points.Given as goal

abbrev pub invariant-points : goal.invariant-points
invariant-points l = record {
  onto : points_onto l.points.items (elements (drop l.value-index l.all)) ≡ points_onto [] (elements l.all);
}
