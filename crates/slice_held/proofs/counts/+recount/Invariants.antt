use Rattle.std.proofs.Common.{◌+◌, ◌-◌}
use Rattle.slice_held.proofs.counts.+recount.Given as goal

abbrev pub decreases-recount : goal.decreases-recount
decreases-recount l = l.at
