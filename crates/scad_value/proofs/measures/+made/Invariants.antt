use Rattle.std.proofs.Common.{◌≡◌, ◌-◌, ◌^◌, ◌+◌, ◌<◌, min, drop}
use Rattle.scad_value.specs.Measures.{made_all}
use Rattle.scad_value.specs.View.{elements}
use Rattle.scad_value.proofs.measures.+made.Given as goal

-- what is counted, and what is left
abbrev pub invariant-made_all-loop-v : goal.invariant-made_all-loop-v
invariant-made_all-loop-v l = record {
  in_range : l.count < 2 ^ 64;
  counted : min (l.count + made_all (elements (drop l.v-index l.all))) (2 ^ 64 - 1) ≡ min (made_all (elements l.all))
      (2 ^ 64 - 1);
}
