use Rattle.std.proofs.Common.{◌≡◌, ◌++◌, drop}
use Rattle.slice_bundles.specs.Joined.{prefixed}
use Rattle.slice_sweep.specs.Rays.{bundles_of}
use Rattle.slice_sweep.proofs.coinciding.group.Given as goal

abbrev pub invariant-rays : goal.invariant-rays
invariant-rays l = l.out.items ++ prefixed l.current.items (bundles_of (drop l.i l.rays))
    ≡ bundles_of l.rays
