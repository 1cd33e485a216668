-- What is left to print makes the whole, and so does what is left to add to the volume.
use Rattle.std.proofs.Common.{◌≡◌, ◌+◌, ◌*◌, ◌^◌, ◌≤◌, drop}
use Rattle.text_scan.specs.Printing.{Printed, Adds}
use Rattle.gcode_text.specs.Amount.{moves_volume}
use Rattle.gcode_text.specs.Gcode.{moves_text}
use Rattle.gcode_text.proofs.path.push_moves.Given as goal

abbrev pub invariant-points : goal.invariant-points
invariant-points l = record {
  text : (end : Printed) → Adds (moves_text l.rates l.sum l.from (drop l.to-index l.rest)) l.out end
      → Adds (moves_text l.rates l.fn.volume l.fn.first l.rest) l.fn.out end;
  volume : l.sum + moves_volume l.rates l.from (drop l.to-index l.rest) ≡ l.fn.volume + moves_volume l.rates
      l.fn.first l.rest;
  small : l.sum ≤ l.fn.volume + 2 ^ 55 * l.to-index;
}
