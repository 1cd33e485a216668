-- A strand that has a key keeps it.
use Rattle.std.proofs.Common.{refl, ◌∙◌}
use Rattle.slice_sweep.proofs.wake.wake_from.Goals as goal
use Rattle.slice_sweep.proofs.wake.wake_from.Goals.{then-i-len+then-index, else-i-len}

pub strands-init : goal.strands-init
strands-init c = record { ordered = c.requires.ordered; bundles = refl; low = λ lows h. h }

pub wake-requires-clause-ordered : goal.wake-requires-clause-ordered
wake-requires-clause-ordered c = c.strands.invariant.ordered

pub strands-preserved : goal.strands-preserved
strands-preserved c = elim c.if-i-len.branch [
  | then-i-len+then-index w ↦
      let i = c.strands.invariant in
      rw w.strands-is (record {
        ordered = w.wake.ensures.ordered;
        bundles = w.wake.ensures.bundles ∙ i.bundles;
        low = λ lows h. w.wake.ensures.low lows (i.low lows h);
      })
  | else-i-len w ↦ rw w.strands-is c.strands.invariant
]

pub returns : goal.returns
returns c = c.strands.invariant
