use Rattle.std.proofs.Common.{◌≡◌, length, get_or, ap, ◌∙◌, arith}
use Rattle.plan_layer.proofs.MoveCount.{moves_more}
use Rattle.plan_layer.proofs.layer_plan.count_of_moves.Goals as goal

pub paths-preserved : goal.paths-preserved
paths-preserved c =
    let m = moves_more c.args.paths.now c.paths.path-index c.path-item.result c.paths-test.true in
    let l : length c.as_slice.result.now ≡ length (get_or c.args.paths.now c.paths.path-index c.path-item.result) =
    ap length (c.as_slice.ensures ∙ c.path-item.is) in
    let s = c.saturating_sub-moves.ensures in
    let n = c.in_ok-count.ensures.1 in
    let i = c.paths.invariant in
    omega (arith, m, l, s, n, i)
