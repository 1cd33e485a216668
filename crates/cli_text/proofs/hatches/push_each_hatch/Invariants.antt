-- What is left to print makes the whole.
use Rattle.std.proofs.Common.{drop}
use Rattle.std.specs.List.{flat_map}
use Rattle.text_scan.specs.Printing.{Printed, Adds}
use Rattle.cli_text.specs.Cli.{hatch_text}
use Rattle.cli_text.proofs.hatches.push_each_hatch.Given as goal

abbrev pub invariant-hatches : goal.invariant-hatches
invariant-hatches l =
    (end : Printed) → Adds (flat_map hatch_text (drop l.hatch-index l.hatches)) l.out end
    → Adds (flat_map hatch_text l.hatches) l.fn.out end
