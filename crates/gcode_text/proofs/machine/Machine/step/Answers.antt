use Rattle.std.proofs.Common.{sym, ap, ◌∙◌, arith}
use Rattle.gcode_text.specs.Machine.{limited}
use Rattle.gcode_text.specs.Reading.{words}
use Rattle.gcode_text.proofs.Words.{blank_line, blank}
use Rattle.gcode_text.proofs.machine.Machine.step.Goals as goal

pub returns-else-text-gt0-clause-accepted : goal.returns-else-text-gt0-clause-accepted
returns-else-text-gt0-clause-accepted c =
    blank_line limited c.args.self.now c.args.line.now c.skip_spaces-text.result.now
    (c.skip_spaces-text.ensures.words ∙ ap words c.code_of.ensures) (omega arith)
    ∙ ap blank (sym c.count.ensures)
