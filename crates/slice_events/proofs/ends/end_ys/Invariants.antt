use Rattle.std.proofs.Common.{◌≡◌, ◌++◌, drop}
use Rattle.slice_events.specs.Collection.{end_ys}
use Rattle.slice_events.proofs.ends.end_ys.Given as goal

abbrev pub invariant-edges : goal.invariant-edges
invariant-edges l = l.ends.items ++ end_ys (drop l.e-index l.edges) ≡ end_ys l.edges
