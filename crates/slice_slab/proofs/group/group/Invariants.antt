use Rattle.std.proofs.Common.{◌≡◌, ◌++◌, drop}
use Rattle.slice_slab.specs.Passages.{bundles_of}
use Rattle.slice_bundles.specs.Joined.{prefixed}
use Rattle.slice_slab.proofs.group.group.Given as goal

abbrev pub invariant-passages : goal.invariant-passages
invariant-passages l = l.out.items ++ prefixed l.current.items (bundles_of (drop l.i l.passages))
    ≡ bundles_of l.passages
