use Rattle.std.proofs.Common.{◌≢◌, ◌<ℤ◌, pos, ◌*◌, ◌≤◌, arith}
use Rattle.std.proofs.lemmas.Int.{ints}
use Rattle.scad_ast.specs.Scope.{items}
use Rattle.scad_expr.specs.Arguments.{statements}
use Rattle.scad_members.specs.ChildRange.{IsBehind}
use Rattle.scad_members.proofs.ChildBounds.{bounds-alike, nobody-behind}
use Rattle.scad_members.proofs.child_range.child_bounds.Goals as goal

pub returns-then-millionths-gt0 : goal.returns-then-millionths-gt0
returns-then-millionths-gt0 c =
    let scope = items c.args.scope.now.items in
    let some : c.args.step ≢ pos 0 = λ e. (let no : ⊥ = omega (arith, ints) in no) in
    let behind : IsBehind scope c.within-high.result = record {
      nobody = λ z high.
          let few : statements scope ≤ c.statements-count.result = omega (arith, c.statements-count.ensures) in
          let far : pos (c.statements-count.result * 1000000) <ℤ z = omega (arith, ints, high) in
          nobody-behind scope c.statements-count.result z few far;
    } in
    bounds-alike scope c.args.start c.args.step c.args.end c.first_up.result c.last_up.result some
    (c.first_up.ensures scope) (c.last_up.ensures scope behind)

pub returns-then-millionths-lt0 : goal.returns-then-millionths-lt0
returns-then-millionths-lt0 c =
    let scope = items c.args.scope.now.items in
    let some : c.args.step ≢ pos 0 = λ e. (let no : ⊥ = omega (arith, ints) in no) in
    let behind : IsBehind scope c.within-high.result = record {
      nobody = λ z high.
          let few : statements scope ≤ c.statements-count.result = omega (arith, c.statements-count.ensures) in
          let far : pos (c.statements-count.result * 1000000) <ℤ z = omega (arith, ints, high) in
          nobody-behind scope c.statements-count.result z few far;
    } in
    bounds-alike scope c.args.start c.args.step c.args.end c.first_down.result c.last_down.result some
    (c.first_down.ensures scope behind) (c.last_down.ensures scope)
