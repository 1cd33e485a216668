-- What is left to print makes the whole.
use Rattle.std.proofs.Common.{drop}
use Rattle.std.specs.List.{flat_map}
use Rattle.text_scan.specs.Printing.{Printed, Adds}
use Rattle.cli_text.specs.Cli.{point_text}
use Rattle.cli_text.proofs.polyline.push_points.Given as goal

abbrev pub invariant-points : goal.invariant-points
invariant-points l =
    (end : Printed) → Adds (flat_map point_text (drop l.point-index l.points)) l.out end
    → Adds (flat_map point_text l.points) l.fn.out end
