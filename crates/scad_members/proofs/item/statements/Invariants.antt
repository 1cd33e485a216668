use Rattle.std.proofs.Common.{◌≡◌, ◌≤◌, ◌+◌, drop}
use Rattle.scad_ast.specs.Scope.{items}
use Rattle.scad_expr.specs.Arguments.{statements}
use Rattle.scad_members.proofs.item.statements.Given as goal

abbrev pub invariant-items : goal.invariant-items
invariant-items l = record {
  counted : l.count + statements (items (drop l.item-index l.scope.items)) ≡ statements (items l.scope.items);
  few : l.count ≤ l.item-index;
}
