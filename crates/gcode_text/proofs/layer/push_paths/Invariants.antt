-- What is left to print makes the whole, and so does what is left to add to the volume.
use Rattle.std.proofs.Common.{◌≡◌, ◌+◌, ◌*◌, ◌^◌, ◌≤◌, length, drop}
use Rattle.std.specs.List.{sum_by}
use Rattle.text_scan.specs.Printing.{Printed, Adds}
use Rattle.gcode_text.specs.Amount.{paths_volume}
use Rattle.gcode_text.specs.Gcode.{paths_text}
use Rattle.gcode_text.proofs.layer.push_paths.Given as goal

abbrev pub invariant-paths : goal.invariant-paths
invariant-paths l = record {
  text : (end : Printed) → Adds (paths_text l.rates l.sum (drop l.path-index l.paths)) l.out end
      → Adds (paths_text l.rates l.fn.volume l.paths) l.fn.out end;
  volume : l.sum + paths_volume l.rates (drop l.path-index l.paths) ≡ l.fn.volume + paths_volume l.rates l.paths;
  small : l.sum + 2 ^ 55 * sum_by length (drop l.path-index l.paths) ≤ l.fn.volume + 2 ^ 55 * sum_by length l.paths;
}
