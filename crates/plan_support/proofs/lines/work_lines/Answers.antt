use Rattle.plan_support.proofs.InTurn.{sorted_lines}
use Rattle.plan_support.proofs.lines.work_lines.Goals as goal

pub returns : goal.returns
returns g c =
    sorted_lines c.args.layers.now c.args.heights.now c.args.want c.in_ok-lines.lines.items c.sort.new.lines.items
    c.in_ok-lines.ensures.numbers c.in_ok-lines.ensures.lines c.sort.ensures.permutation c.sort.ensures.order
