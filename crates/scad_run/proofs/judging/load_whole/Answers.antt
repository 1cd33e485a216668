use Rattle.std.proofs.Common.{rules, sym, ap}
use Rattle.scad_script.specs.declared.refusal.Refusal.TheVariants.{Over}
use Rattle.scad_script.specs.declared.stop.Stop.{Stop}
use Rattle.scad_script.specs.Script.{Refuses, ends}
use Rattle.scad_script.proofs.Layers.{as_left}
use Rattle.scad_run.proofs.Cases.{loads_text, loads_long, loads_nothing}
use Rattle.scad_run.proofs.judging.load_whole.Goals as goal

pub returns-in_err-text-clause-loads : goal.returns-in_err-text-clause-loads
returns-in_err-text-clause-loads g c =
    loads_nothing (g.D.Desk.files c.args.desk.now) c.args.name.now c.from_residual.result _
    (g.D.Desk.view c.args.desk.now) (g.D.Desk.view c.load.new.desk) (search rules) c.in_err-text.ensures.carries

pub returns-in-Whole-clause-loads : goal.returns-in-Whole-clause-loads
returns-in-Whole-clause-loads g c =
    loads_text (g.D.Desk.files c.args.desk.now) c.args.name.now c.in-Whole.text _ _ (g.D.Desk.view c.args.desk.now)
    (g.D.Desk.view c.load.new.desk) c.in-Whole.is (search rules) c.in_ok-text.ensures.told c.in_ok-text.ensures.carries

pub returns-in-Long-clause-loads : goal.returns-in-Long-clause-loads
returns-in-Long-clause-loads g c =
    loads_long (g.D.Desk.files c.args.desk.now) c.args.name.now _ _ (Stop.Ends (Over c.file_long.result))
    (g.D.Desk.view c.args.desk.now)
    (g.D.Desk.view c.load.new.desk) c.in-Long.is (search rules)
    (λ follows whole start left. as_left (ap (λ b. ends (Refuses (Over b))) (sym c.file_long.ensures)) left)
    c.in_ok-text.ensures.told c.in_ok-text.ensures.carries
