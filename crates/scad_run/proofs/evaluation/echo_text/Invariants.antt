use Rattle.std.proofs.Common.{◌≡◌, take}
use Rattle.scad_run.specs.SourceReport.{echo_text}
use Rattle.scad_run.proofs.evaluation.echo_text.Given as goal

abbrev pub invariant-lines : goal.invariant-lines
invariant-lines l = l.text.items ≡ echo_text (take l.line-index l.lines)
