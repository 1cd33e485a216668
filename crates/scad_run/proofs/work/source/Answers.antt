use Rattle.std.proofs.Common.{rules}
use Rattle.scad_run.proofs.CommandEnd.{gets_model}
use Rattle.scad_run.proofs.work.source.Goals as goal

pub returns-in-Check-clause-gets : goal.returns-in-Check-clause-gets
returns-in-Check-clause-gets g c =
    gets_model c.args.command.now c.as_str.result.now (g.D.Desk.files c.args.desk.now) c.load.result (search rules)
    c.load.ensures.told

pub returns-in-Tree-clause-gets : goal.returns-in-Tree-clause-gets
returns-in-Tree-clause-gets g c =
    gets_model c.args.command.now c.as_str-in-Tree.result.now (g.D.Desk.files c.args.desk.now) c.load-in-Tree.result
    (search rules) c.load-in-Tree.ensures.told

pub returns-in-Slice-clause-gets : goal.returns-in-Slice-clause-gets
returns-in-Slice-clause-gets g c =
    gets_model c.args.command.now c.as_str-in-Slice.result.now (g.D.Desk.files c.args.desk.now) c.load-in-Slice.result
    (search rules) c.load-in-Slice.ensures.told

pub returns-in-Plan-clause-gets : goal.returns-in-Plan-clause-gets
returns-in-Plan-clause-gets g c =
    gets_model c.args.command.now c.as_str-in-Plan.result.now (g.D.Desk.files c.args.desk.now) c.load-in-Plan.result
    (search rules) c.load-in-Plan.ensures.told
