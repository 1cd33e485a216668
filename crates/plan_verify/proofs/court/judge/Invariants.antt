-- What is known between lines.
use Rattle.std.proofs.Common.{◌+◌, ◌≤◌, length}
use Rattle.gcode_text.specs.Reading.{lines}
use Rattle.plan_verify.specs.Fields.{StaysInFields}
use Rattle.plan_verify.proofs.MoveKnowledge.{IsRead}
use Rattle.plan_verify.proofs.court.judge.Given as goal

abbrev pub invariant-lines : goal.invariant-lines
invariant-lines l = record {
  read : IsRead (StaysInFields l.fields l.line_width) l.fn.gcode l.machine (lines l.rest) l.line l.judgement;
  few : l.judgement.moves + length l.rest ≤ length l.fn.gcode;
}

abbrev pub decreases-lines : goal.decreases-lines
decreases-lines l = length l.rest
