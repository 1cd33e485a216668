-- What is needed to be lifted says nothing of the bundles.
use Rattle.slice_slab.proofs.rising_edges.Active.take_bundles.Goals as goal

pub returns-clause-ready : goal.returns-clause-ready
returns-clause-ready c = λ edges at r. record {
  starts = r.starts;
  rising = r.rising;
  begun = r.begun;
  there = r.there;
  later = r.later;
}
