-- What is left to print makes the whole.
use Rattle.std.proofs.Common.{drop}
use Rattle.std.specs.List.{flat_map}
use Rattle.text_scan.specs.Printing.{Printed, Adds}
use Rattle.cli_text.specs.Cli.{polyline_text}
use Rattle.cli_text.proofs.writer.push_polylines.Given as goal

abbrev pub invariant-loops : goal.invariant-loops
invariant-loops l =
    (end : Printed) → Adds (flat_map polyline_text (drop l.outline-index l.loops)) l.out end
    → Adds (flat_map polyline_text l.loops) l.fn.out end
