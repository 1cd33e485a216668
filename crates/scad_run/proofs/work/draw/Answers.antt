use Rattle.std.proofs.Common.{rules}
use Rattle.scad_run.proofs.Working.{source_drawn, source_not_drawn}
use Rattle.scad_run.proofs.work.draw.Goals as goal

pub returns-in_err-input-clause-draws : goal.returns-in_err-input-clause-draws
returns-in_err-input-clause-draws g c =
    source_not_drawn c.args.order.now.command.now c.args.order.now.settings (g.D.Desk.files c.args.desk.now) _ _
    (g.D.Desk.view c.args.desk.now) (g.D.Desk.view c.source.new.desk) c.in_err-input.ensures.carries (search rules)

pub returns-clause-draws : goal.returns-clause-draws
returns-clause-draws g c =
    source_drawn c.args.order.now.command.now c.args.order.now.settings (g.D.Desk.files c.args.desk.now)
    c.in_ok-input.input c.follow.result (g.D.Desk.view c.args.desk.now) (g.D.Desk.view c.source.new.desk)
    (g.D.Desk.view c.follow.new.desk) c.in_ok-input.ensures.gets c.in_ok-input.ensures.carries
    c.follow.ensures.completes
