use Rattle.std.proofs.Common.{◌≡◌, ◌+◌, ◌≤◌, length}
use Rattle.std.specs.Str.Lines.{lines}
use Rattle.cli_read.specs.Reading.{geometry_at, layers_at}
use Rattle.cli_read.specs.View.{built}
use Rattle.cli_read.proofs.Fronts.{made_of}
use Rattle.cli_read.proofs.geometry.geometry_of.Given as goal

abbrev pub invariant-lines : goal.invariant-lines
invariant-lines l = record {
  same : made_of (built l.building) (geometry_at l.n l.building.last (lines l.rest)) ≡ layers_at (lines l.fn.text);
  number : l.n + length l.rest ≤ 7 + length l.fn.text;
}

abbrev pub decreases-lines : goal.decreases-lines
decreases-lines l = length l.rest
