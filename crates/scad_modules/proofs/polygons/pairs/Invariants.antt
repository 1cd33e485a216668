use Rattle.std.proofs.Common.{◌≡◌, [], drop}
use Rattle.scad_value.specs.View.{elements}
use Rattle.scad_modules.specs.FlatShapes.{pairs_onto}
use Rattle.scad_modules.proofs.polygons.pairs.Given as goal

abbrev pub invariant-points : goal.invariant-points
invariant-points l = record {
  onto : pairs_onto l.points.items (elements (drop l.value-index l.all)) ≡ pairs_onto [] (elements l.all);
}
