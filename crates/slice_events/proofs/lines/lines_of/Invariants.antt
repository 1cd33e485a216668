use Rattle.std.proofs.Common.{◌≡◌, take}
use Rattle.slice_events.specs.Lines.{edges_in, edges_of_leaves}
use Rattle.slice_events.proofs.lines.lines_of.Given as goal

abbrev pub invariant-edges : goal.invariant-edges
invariant-edges l = edges_in l.lines.items ≡ edges_of_leaves (take l.e-index l.edges)
