use Rattle.std.proofs.Common.{◌≡◌, [], drop, true}
use Rattle.std.specs.List.{list_all}
use Rattle.scad_value.specs.View.{elements}
use Rattle.scad_modules.specs.FlatShapes.{paths_onto}
use Rattle.scad_modules.specs.Outline.{is_outline}
use Rattle.scad_modules.specs.View.{outlines}
use Rattle.scad_modules.proofs.polygons.paths.Given as goal

abbrev pub invariant-paths : goal.invariant-paths
invariant-paths l = record {
  onto : paths_onto l.points (outlines l.paths.items) (elements (drop l.value-index l.all)) ≡ paths_onto l.points []
      (elements l.all);
  outlines : list_all is_outline (outlines l.paths.items) ≡ true;
}
