use Rattle.std.proofs.Common.{◌≡◌, ◌++◌, drop}
use Rattle.slice_slab.specs.Passages.{numbers_of}
use Rattle.slice_slab.proofs.slab_bundles.put_in_order.Given as goal

abbrev pub invariant-passages : goal.invariant-passages
invariant-passages l = l.numbers.items ++ numbers_of (drop l.p-index l.passages) ≡ numbers_of l.passages
