use Rattle.std.proofs.Common.{rules}
use Rattle.scad_run.proofs.Settling.{stops_reading, settles_by_text}
use Rattle.scad_run.proofs.settings.settle.Goals as goal

pub returns-in_err-text-clause-settles : goal.returns-in_err-text-clause-settles
returns-in_err-text-clause-settles g c =
    stops_reading (g.D.Desk.files c.args.desk.now) c.args.name.now c.as_str.result.now c.from_residual.result _
    (g.D.Desk.view c.args.desk.now) (g.D.Desk.view c.load.new.desk) (search rules) c.in_err-text.ensures.carries
    (search rules)

pub returns-clause-settles : goal.returns-clause-settles
returns-clause-settles g c =
    settles_by_text (g.D.Desk.files c.args.desk.now) c.args.name.now c.as_str.result.now c.in-Whole.text
    c.as_slice.result.now _ c.judged.result
    (g.D.Desk.view c.args.desk.now) (g.D.Desk.view c.load.new.desk) (search rules) c.in-Whole.is c.as_slice.ensures
    c.in_ok-text.ensures.told
    c.in_ok-text.ensures.carries c.judged.ensures.judged
