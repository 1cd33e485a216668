use Rattle.std.proofs.Common.{◌≡◌, [], drop, length, true}
use Rattle.scad_solid.specs.Solid.{names_points}
use Rattle.scad_value.specs.View.{elements}
use Rattle.scad_modules.specs.Reading.{indices_onto}
use Rattle.scad_modules.proofs.polyhedra.indices.Given as goal

abbrev pub invariant-indices : goal.invariant-indices
invariant-indices l = record {
  onto : indices_onto l.limit l.indices.items (elements (drop l.value-index l.all)) ≡ indices_onto l.limit []
      (elements l.all);
  named : names_points l.limit l.indices.items ≡ true;
  count : length l.indices.items ≡ l.value-index;
}
