use Rattle.std.proofs.Common.{◌≡◌, drop}
use Rattle.scad_ast.specs.Scope.{items}
use Rattle.scad_members.specs.Scopes.{child_at}
use Rattle.scad_members.proofs.item.child_at.Given as goal

abbrev pub invariant-items : goal.invariant-items
invariant-items l = child_at (items (drop l.item-index l.scope.items)) l.left ≡ child_at (items l.scope.items) l.n
