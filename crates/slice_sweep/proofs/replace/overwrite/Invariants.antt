use Rattle.std.proofs.Common.{◌≡◌, ◌+◌, ◌++◌, length, take, drop}
use Rattle.slice_sweep.specs.Strands.{fresh}
use Rattle.slice_sweep.proofs.replace.overwrite.Given as goal

abbrev pub invariant-bundles : goal.invariant-bundles
invariant-bundles l = record {
  items : l.strands.items ≡ take l.from l.fn.strands.items
      ++ (fresh l.yielded ++ drop (l.from + length l.yielded) l.fn.strands.items);
  place : l.place ≡ l.from + length l.yielded;
  len : length l.strands.items ≡ length l.fn.strands.items;
}
