use Rattle.std.proofs.Common.{map, string_bytes, Global, rules}
use Rattle.scad_run.proofs.Working.{refuses_words, works_drawing, works_judging, stops_settling}
use Rattle.scad_run.proofs.Heights.{width_in_range}
use Rattle.scad_run.proofs.work.work.Goals as goal

pub judge-requires-clause-width : goal.judge-requires-clause-width
judge-requires-clause-width g c = width_in_range c.in_ok-settings.settings c.in_ok-settings.ensures.in_range

pub returns-in_err-job-clause-works : goal.returns-in_err-job-clause-works
returns-in_err-job-clause-works g c =
    refuses_words (map (string_bytes {Z = Global}) c.args.words.now) (g.D.Desk.files c.args.desk.now) _ _
    (g.D.Desk.view c.args.desk.now)
    c.in_err-job.ensures.usage (search rules)

pub returns-in_err-settings-clause-works : goal.returns-in_err-settings-clause-works
returns-in_err-settings-clause-works g c =
    stops_settling (map (string_bytes {Z = Global}) c.args.words.now) (g.D.Desk.files c.args.desk.now) c.in_ok-job.job
    c.in_ok-job.ensures.job _ _
    (g.D.Desk.view c.args.desk.now) (g.D.Desk.view c.settle.new.desk) c.in_err-settings.ensures.settles (search rules)

pub returns-in-Some-clause-works : goal.returns-in-Some-clause-works
returns-in-Some-clause-works g c =
    works_judging (map (string_bytes {Z = Global}) c.args.words.now) (g.D.Desk.files c.args.desk.now) c.in_ok-job.job
    c.in_ok-job.ensures.job _ _ c.judge.result (g.D.Desk.files c.settle.new.desk) (g.D.Desk.view c.args.desk.now)
    (g.D.Desk.view c.settle.new.desk) (g.D.Desk.view c.judge.new.desk) c.in_ok-settings.ensures.settles
    c.settle.ensures.kept.files (search rules) c.judge.ensures.judges

pub returns-clause-works : goal.returns-clause-works
returns-clause-works g c =
    works_drawing (map (string_bytes {Z = Global}) c.args.words.now) (g.D.Desk.files c.args.desk.now) c.in_ok-job.job
    c.in_ok-job.ensures.job _ c.draw.result (g.D.Desk.files c.settle.new.desk) (g.D.Desk.view c.args.desk.now)
    (g.D.Desk.view c.settle.new.desk) (g.D.Desk.view c.draw.new.desk) c.in_ok-settings.ensures.settles
    c.settle.ensures.kept.files (search rules) c.draw.ensures.draws
