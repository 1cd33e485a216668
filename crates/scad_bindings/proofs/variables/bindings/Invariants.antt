use Rattle.std.proofs.Common.{◌≡◌, [], map, drop}
use Rattle.scad_bindings.specs.Notes.{placed, noted_all}
use Rattle.scad_bindings.proofs.Rows.{assigned_in}
use Rattle.scad_bindings.proofs.variables.bindings.Given as goal

abbrev pub invariant-items : goal.invariant-items
invariant-items l = (l.place ≡ l.item-index) × (noted_all (map placed l.last) l.place
    (assigned_in (drop l.item-index l.scope.items)) ≡ noted_all [] 0 (assigned_in l.scope.items))
