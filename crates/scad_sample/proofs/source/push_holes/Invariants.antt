use Rattle.std.proofs.Common.{◌≡◌, ◌++◌}
use Rattle.scad_sample.specs.Sample.{after, holes}
use Rattle.scad_sample.proofs.source.push_holes.Given as goal

abbrev pub invariant-holes : goal.invariant-holes
invariant-holes l = record {
  number : l.s ≡ after l.fn.n l.k;
  text : l.out.items ≡ l.fn.out.items ++ holes l.fn.n l.k;
}
