use Rattle.std.proofs.Common.{◌≤◌, ◌*◌, ◌^◌}
use Rattle.slice_events.proofs.stay.sum_of_rises.Given as goal

abbrev pub invariant-lines : goal.invariant-lines
invariant-lines l = l.sum ≤ l.e-index * 2 ^ 32
