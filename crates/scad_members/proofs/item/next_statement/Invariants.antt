-- Only what isn't a statement was passed over.
use Rattle.std.proofs.Common.{◌≡◌, ◌-◌, List, drop, length}
use Rattle.scad_ast.specs.Scope.{items}
use Rattle.scad_tree.specs.Solid.{Solid}
use Rattle.scad_scope.specs.Env.{Env}
use Rattle.scad_expr.specs.State.{State}
use Rattle.scad_leaves.specs.declared.space.Where.{Where}
use Rattle.scad_members.specs.Meaning.{Below, members_from}
use Rattle.scad_members.proofs.item.next_statement.Given as goal

abbrev pub invariant-items : goal.invariant-items
invariant-items l =
    (below : Below) (w : Where) (env along : Env) (so_far : List Solid) (s : State)
    → members_from below w env along (items (drop l.from l.scope.items)) so_far s
    ≡ members_from below w env along (items (drop l.number l.scope.items)) so_far s

abbrev pub decreases-items : goal.decreases-items
decreases-items l = length l.scope.items - l.number
