use Rattle.std.proofs.Common.{◌≡◌, ◌-◌, ◌^◌, ◌<◌, min, max, drop}
use Rattle.scad_value.specs.Measures.{deepest}
use Rattle.scad_value.specs.View.{elements}
use Rattle.scad_value.proofs.measures.+nesting.Given as goal

-- the deepest so far, and what is left
abbrev pub invariant-deepest-loop-v : goal.invariant-deepest-loop-v
invariant-deepest-loop-v l = record {
  in_range : l.depth < 2 ^ 32;
  reached : min (max l.depth (deepest (elements (drop l.v-index l.all)))) (2 ^ 32 - 1) ≡ min (deepest (elements l.all))
      (2 ^ 32 - 1);
}
