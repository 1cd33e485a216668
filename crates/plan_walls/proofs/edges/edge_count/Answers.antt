-- The count is that of the sides and of the corners of all rings, at most eleven for each side.
use Rattle.std.proofs.Common.{◌≡◌, ◌+◌, List, [], length, drop, arith, subst}
use Rattle.std.specs.Prelude.{sum_by}
use Rattle.std.proofs.Math.ListN.{drop_of_length-le}
use Rattle.scad_geom.specs.declared.point.Edge.{Edge}
use Rattle.plan_walls.proofs.Counts.{corner_count, count_is, sum_few}
use Rattle.plan_walls.proofs.edges.edge_count.Goals as goal

pub overflow_add-count : goal.overflow_add-count
overflow_add-count c =
    let i = c.around.invariant in
    let s = sum_few c.args.c c.args.around.now in
    let f = c.corner_count-count.ensures.few in
    let w = c.well_formed.0.1 in
    omega (arith, i, s, f, w)

pub returns : goal.returns
returns c =
    let i = c.around.invariant in
    let none : drop c.around.edge-index c.args.around.now ≡ [] = drop_of_length-le c.args.around.now (omega arith) in
    let e = subst (λ (es : List Edge). c.around.count + sum_by
    (corner_count c.args.c) es ≡ length c.args.around.now + sum_by (corner_count c.args.c) c.args.around.now) none
    i in
    let n = count_is c.args.c c.args.around.now in
    omega (arith, e, n)
