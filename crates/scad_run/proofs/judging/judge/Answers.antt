use Rattle.std.proofs.Common.{rules}
use Rattle.scad_script.specs.Script.{ends}
use Rattle.verdict_laws.proofs.Deciding.{opinions_are_there}
use Rattle.scad_run.specs.Judging.{judgement}
use Rattle.scad_run.proofs.Cases.{stops_at_outlines, stops_at_program, judges_both, no_rise}
use Rattle.scad_run.proofs.judging.judge.Goals as goal

pub returns-in_err-outlines-clause-judges : goal.returns-in_err-outlines-clause-judges
returns-in_err-outlines-clause-judges g c =
    stops_at_outlines (record { outlines = c.args.outlines.now; program = c.args.program.now }) c.args.line_width
    (g.D.Desk.files c.args.desk.now) _ _ (g.D.Desk.view c.args.desk.now) (g.D.Desk.view c.load_whole.new.desk)
    (search rules) c.in_err-outlines.ensures.loads

pub returns-in_err-program-clause-judges : goal.returns-in_err-program-clause-judges
returns-in_err-program-clause-judges g c =
    stops_at_program (record { outlines = c.args.outlines.now; program = c.args.program.now }) c.args.line_width
    (g.D.Desk.files c.args.desk.now) _ c.in_ok-outlines.outlines (g.D.Desk.files c.load_whole.new.desk)
    (g.D.Desk.view c.args.desk.now) (g.D.Desk.view c.load_whole.new.desk) (g.D.Desk.view c.load_whole-2.new.desk)
    c.load_whole.ensures.kept.files c.in_ok-outlines.ensures.loads _ (search rules) c.in_err-program.ensures.loads

pub returns-clause-judges : goal.returns-clause-judges
returns-clause-judges g c =
    judges_both (record { outlines = c.args.outlines.now; program = c.args.program.now }) c.args.line_width
    (g.D.Desk.files c.args.desk.now) c.judged.result c.in_ok-outlines.outlines (g.D.Desk.files c.load_whole.new.desk)
    (g.D.Desk.view c.args.desk.now) (g.D.Desk.view c.load_whole.new.desk) (g.D.Desk.view c.load_whole-2.new.desk)
    c.load_whole.ensures.kept.files c.in_ok-outlines.ensures.loads c.in_ok-program.program c.as_slice.result.now
    c.as_slice-2.result.now c.in_ok-program.ensures.loads c.as_slice.ensures c.as_slice-2.ensures c.judged.ensures

pub returns-clause-leaves : goal.returns-clause-leaves
returns-clause-leaves g c =
    record {
      files = search rules;
      later = search rules;
      cause = no_rise (ends (judgement opinions_are_there.0 c.args.line_width c.as_slice.result.now
          c.as_slice-2.result.now)) c.judged.result _ _ (c.judged.ensures opinions_are_there.0 opinions_are_there.1);
    }
