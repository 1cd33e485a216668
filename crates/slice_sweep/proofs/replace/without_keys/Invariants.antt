use Rattle.std.proofs.Common.{◌≡◌}
use Rattle.slice_sweep.specs.Strands.{fresh}
use Rattle.slice_sweep.proofs.replace.without_keys.Given as goal

abbrev pub invariant-bundles : goal.invariant-bundles
invariant-bundles l = l.out.items ≡ fresh l.yielded
