use Rattle.std.proofs.Common.{◌≡◌, map, drop, ◌++◌}
use Rattle.scad_bindings.specs.Notes.{as_binding}
use Rattle.scad_bindings.proofs.variables.listed.Given as goal

abbrev pub invariant-entries : goal.invariant-entries
invariant-entries l = l.list.items ++ map as_binding (drop l.entry-index l.entries) ≡ map as_binding l.last
