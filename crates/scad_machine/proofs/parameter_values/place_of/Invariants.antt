use Rattle.std.proofs.Common.{◌≡◌, ◌+◌, map, drop}
use Rattle.scad_scope.specs.Names.{place_in}
use Rattle.scad_machine.specs.Parameters.{shown}
use Rattle.scad_machine.proofs.parameter_values.place_of.Given as goal

abbrev pub invariant-entries : goal.invariant-entries
invariant-entries l = record {
  counted : l.i ≡ l.entry-index;
  place : l.entry-index + place_in l.name (map shown (drop l.entry-index l.all)) ≡ place_in l.name (map shown l.all);
}
