use Rattle.std.proofs.Common.{◌≡◌, ◌≤◌, take, drop}
use Rattle.slice_sweep.specs.Changes.{older}
use Rattle.slice_sweep.proofs.group.older.Given as goal

abbrev pub invariant-strands : goal.invariant-strands
invariant-strands l = record {
  value : l.count ≡ older l.step.edges.now l.step.lower.now (drop l.from (take l.i l.strands));
  small : l.count ≤ l.i;
}
