use Rattle.std.proofs.Common.{◌≡◌, [], drop, length, true}
use Rattle.std.specs.List.{list_all}
use Rattle.scad_value.specs.View.{elements}
use Rattle.scad_modules.specs.Primitive.{is_face}
use Rattle.scad_modules.specs.Reading.{faces_onto}
use Rattle.scad_modules.proofs.polyhedra.faces.Given as goal

abbrev pub invariant-faces : goal.invariant-faces
invariant-faces l = record {
  onto : faces_onto l.limit l.faces.items (elements (drop l.value-index l.all)) ≡ faces_onto l.limit []
      (elements l.all);
  named : list_all (is_face l.limit) l.faces.items ≡ true;
  count : length l.faces.items ≡ l.value-index;
}
