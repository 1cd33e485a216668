use Rattle.std.proofs.Common.{◌≡◌, ◌+◌, map, drop}
use Rattle.scad_scope.specs.ListedValues.{number_in, place_in_entry}
use Rattle.scad_scope.proofs.place_search.number_of.Given as goal

abbrev pub invariant-entries : goal.invariant-entries
invariant-entries l = record {
  counted : l.i ≡ l.entry-index;
  number : l.entry-index + number_in l.place (map place_in_entry (drop l.entry-index l.all))
      ≡ number_in l.place (map place_in_entry l.all);
}
