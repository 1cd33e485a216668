use Rattle.std.proofs.Common.{rules}
use Rattle.scad_tree.specs.View.{solid_of}
use Rattle.scad_run.proofs.Working.{source_follows, source_stops}
use Rattle.scad_run.proofs.work.follow.Goals as goal

pub returns-in_err-tree-clause-completes : goal.returns-in_err-tree-clause-completes
returns-in_err-tree-clause-completes g c =
    source_stops c.args.order.now.command.now c.args.order.now.settings c.as_slice.result.now c.in-Whole.source c.args.input _ _
    (g.D.Desk.view c.args.desk.now) (g.D.Desk.view c.evaluate.new.desk) c.in-Whole.is c.as_slice.ensures (search rules)
    c.in_err-tree.ensures.tells

pub returns-clause-completes : goal.returns-clause-completes
returns-clause-completes g c =
    source_follows c.args.order.now.command.now c.args.order.now.settings c.as_slice.result.now c.in-Whole.source c.args.input
    (solid_of c.in_ok-tree.tree)
    c.finish.result (g.D.Desk.view c.args.desk.now) (g.D.Desk.view c.evaluate.new.desk)
    (g.D.Desk.view c.finish.new.desk) c.in-Whole.is
    c.as_slice.ensures c.in_ok-tree.ensures.means c.in_ok-tree.ensures.tells c.finish.ensures.completes
