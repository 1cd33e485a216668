-- One more edge has begun.
use Rattle.std.proofs.Common.{ap, ◌∙◌, ◌+◌, List, ℕ}
use Rattle.std.proofs.lemmas.List.{take_all}
use Rattle.slice_bundles.specs.Times.{times}
use Rattle.slice_sweep.specs.Strands.{numbers_in}
use Rattle.slice_sweep.proofs.Starting.{started_more}
use Rattle.slice_sweep.proofs.start.start_all.Goals as goal

pub numbers-preserved : goal.numbers-preserved
numbers-preserved c = record {
  low = λ h. c.in_ok-start.ensures.low (c.numbers.invariant.low h);
  waiting = c.in_ok-start.ensures.waiting;
  numbers = λ k r. started_more k c.args.strands.now.items c.numbers.strands.items c.start.new.strands.items
      c.args.numbers.now c.numbers.k-index c.numbers-test.true (c.numbers.invariant.numbers k r)
      (c.in_ok-start.ensures.numbers k r);
  below = λ h. c.in_ok-start.ensures.below (h c.numbers.k-index 0 c.numbers-test.true) ∙ c.numbers.invariant.below h;
  keyless = λ h. c.in_ok-start.ensures.keyless (c.numbers.invariant.keyless h);
}

pub returns : goal.returns
returns c =
    let i = c.numbers.invariant in
    record {
      low = i.low;
      waiting = i.waiting;
      numbers = λ k r. i.numbers k r ∙ ap (λ (ks : List ℕ). times k (numbers_in c.args.strands.now.items) + times k ks)
          (take_all c.numbers.k-index c.args.numbers.now c.numbers-test.false);
      below = i.below;
      keyless = i.keyless;
    }
