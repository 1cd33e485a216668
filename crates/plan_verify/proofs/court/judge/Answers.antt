-- One line more of a program, and its end.
use Rattle.std.proofs.Common.{arith, [], refl, ap}
use Rattle.std.proofs.lemmas.Result.{err_from_is_err_and}
use Rattle.gcode_text.specs.Reading.{lines}
use Rattle.plan_verify.specs.Fields.{StaysInFields}
use Rattle.plan_verify.proofs.Axes.{step_within}
use Rattle.plan_verify.proofs.MoveKnowledge.{read_first, read_line, read_refusal, refused_is, some_left, with_few, read_end}
use Rattle.plan_verify.proofs.court.judge.Goals as goal

pub lines-init : goal.lines-init
lines-init c = record {
  read = read_first (StaysInFields c.args.fields.now c.args.line_width) c.args.gcode.now c.new-machine.result
      c.none-judgement.result c.new-machine.ensures c.none-judgement.ensures;
  few = omega (arith, ap (λ j. j.moves) c.none-judgement.ensures);
}

pub with_line-judgement-requires-clause-within : goal.with_line-judgement-requires-clause-within
with_line-judgement-requires-clause-within c = (step_within c.lines.machine c.first_line.result.0.now
    (record { state = c.step.new.self; move = c.in_ok-done.done }) c.lines.invariant.read.within
    c.in_ok-done.ensures.accepted).move

pub lines-preserved : goal.lines-preserved
lines-preserved c =
    let does = StaysInFields c.args.fields.now c.args.line_width in
    let split = rw c.in-Some.is at c.first_line.ensures.line in
    let shorter = rw c.in-Some.is at c.first_line.ensures.shorter in
    let few = with_few does c.in_ok-done.done c.saturating_add-line.result c.lines.judgement c.with_line-judgement.result
    c.with_line-judgement.ensures in
    record {
      read = read_line does c.args.gcode.now c.first_line.result.0.now (lines c.lines.rest.now) (lines c.in-Some.text.now)
          c.lines.machine (record { state = c.step.new.self; move = c.in_ok-done.done }) c.lines.line
          c.saturating_add-line.result c.lines.judgement c.with_line-judgement.result c.lines.invariant.read split
          c.in_ok-done.ensures.accepted c.saturating_add-line.ensures c.with_line-judgement.ensures;
      few = omega (arith, c.lines.invariant.few, shorter, few);
    }

pub returns-in_err-done : goal.returns-in_err-done
returns-in_err-done c =
    let does = StaysInFields c.args.fields.now c.args.line_width in
    let p = err_from_is_err_and c.from_residual.result c.from_residual.ensures.1 in
    let behind = some_left c.first_line.result.1 (λ text. text.now) c.lines.rest.now c.first_line.result.0.now
    c.first_line.ensures.line in
    rw (p.1, p.2) (refused_is does c.args.gcode.now _ _ (read_refusal does c.args.gcode.now c.first_line.result.0.now
    (lines c.lines.rest.now) behind.0 c.lines.machine _ c.lines.line c.lines.judgement c.lines.invariant.read behind.1
    c.in_err-done.ensures.refused) refl)

pub returns-in-None : goal.returns-in-None
returns-in-None c =
    let does = StaysInFields c.args.fields.now c.args.line_width in
    let split = rw c.in-None.is at c.first_line.ensures.line in
    read_end does c.args.gcode.now c.step.new.self c.saturating_add-line.result c.with_line-judgement.result
    c.said.result
    (read_line does c.args.gcode.now c.first_line.result.0.now (lines c.lines.rest.now) [] c.lines.machine
    (record { state = c.step.new.self; move = c.in_ok-done.done }) c.lines.line c.saturating_add-line.result
    c.lines.judgement c.with_line-judgement.result c.lines.invariant.read split c.in_ok-done.ensures.accepted
    c.saturating_add-line.ensures c.with_line-judgement.ensures) c.said.ensures
