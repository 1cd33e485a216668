use Rattle.std.proofs.Common.{◌≡◌, ◌++◌, drop}
use Rattle.scad_machine.proofs.echo_lines.push_bytes.Given as goal

abbrev pub invariant-bytes : goal.invariant-bytes
invariant-bytes l = l.out.items ++ drop l.b-index l.bytes ≡ l.fn.out.items ++ l.bytes
