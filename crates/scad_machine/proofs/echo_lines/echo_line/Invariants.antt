use Rattle.std.proofs.Common.{◌≡◌, ◌++◌, drop, eqb}
use Rattle.scad_ast.specs.View.{arguments}
use Rattle.scad_machine.specs.EchoLines.{joined, echo_line}
use Rattle.scad_value.specs.View.{data_of}
use Rattle.scad_machine.proofs.echo_lines.echo_line.Given as goal

abbrev pub invariant-arguments : goal.invariant-arguments
invariant-arguments l = (l.i ≡ l.arg-index)
    × (l.line.items ++ joined (eqb l.i 0) (arguments (drop l.arg-index l.args))
    (data_of (drop l.i l.values)) ≡ echo_line (arguments l.args) (data_of l.values))
