use Rattle.std.proofs.Common.{◌≡◌, ◌+◌, ◌≤◌, drop}
use Rattle.scad_ast.specs.Scope.{items}
use Rattle.scad_machine.specs.Arguments.{statements}
use Rattle.scad_machine.proofs.parameters.number_of_children.Given as goal

abbrev pub invariant-items : goal.invariant-items
invariant-items l = (l.count + statements (items (drop l.item-index l.all.items)) ≡ statements (items l.all.items))
    × (l.count ≤ l.item-index)
