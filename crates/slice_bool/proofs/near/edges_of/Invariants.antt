use Rattle.std.proofs.Common.{◌≡◌, ◌++◌, drop}
use Rattle.slice_bool.specs.Near.{picked}
use Rattle.slice_bool.proofs.near.edges_of.Given as goal

abbrev pub invariant-numbers : goal.invariant-numbers
invariant-numbers l = l.out.items ++ picked l.edges (drop l.k-index l.numbers) ≡ picked l.edges l.numbers
