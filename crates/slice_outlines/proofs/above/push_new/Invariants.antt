use Rattle.std.proofs.Common.{◌≡◌, ◌++◌, ◌-◌, map, take, drop}
use Rattle.slice_sweep.specs.Front.{bundles_in}
use Rattle.slice_outlines.specs.Above.{new_mark}
use Rattle.slice_outlines.proofs.above.push_new.Given as goal

abbrev pub invariant-strands : goal.invariant-strands
invariant-strands l = l.above.items ≡ l.fn.above.items
    ++ map new_mark (take (l.i - l.change.from) (drop l.change.from (bundles_in l.front)))
