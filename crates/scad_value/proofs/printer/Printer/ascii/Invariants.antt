-- What is left to print makes the whole.
use Rattle.std.proofs.Common.{drop}
use Rattle.text_scan.specs.Printing.{Printed, Adds}
use Rattle.scad_value.proofs.printer.Printer.ascii.Given as goal

abbrev pub invariant-bytes : goal.invariant-bytes
invariant-bytes l = (end : Printed) → Adds (drop l.b-index l.text) l.self end → Adds l.text l.fn.self end
