use Rattle.std.proofs.Common.{◌≡◌, ◌≤◌, length}
use Rattle.gcode_text.specs.Reading.{words}
use Rattle.gcode_text.proofs.scan.skip_spaces.Given as goal

abbrev pub invariant-spaces : goal.invariant-spaces
invariant-spaces l = record {
  words : words l.rest ≡ words l.fn.text;
  shorter : length l.rest ≤ length l.fn.text;
}

abbrev pub decreases-spaces : goal.decreases-spaces
decreases-spaces l = length l.rest
