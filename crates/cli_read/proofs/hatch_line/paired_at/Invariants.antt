use Rattle.std.proofs.Common.{◌≡◌, length}
use Rattle.cli_read.specs.Reading.{paired_at}
use Rattle.cli_read.proofs.Fronts.{behind_hatches}
use Rattle.cli_read.proofs.hatch_line.paired_at.Given as goal

abbrev pub invariant-pairs : goal.invariant-pairs
invariant-pairs l = behind_hatches l.hatches.items (paired_at l.n l.rest) ≡ paired_at l.n l.fn.points

abbrev pub decreases-pairs : goal.decreases-pairs
decreases-pairs l = length l.rest
