use Rattle.plan_walls.proofs.Members.{AddsUp}
use Rattle.plan_walls.proofs.shape.first_without.Given as goal

abbrev pub invariant-leaves : goal.invariant-leaves
invariant-leaves l = AddsUp l.count l.leaf l.rest.items
