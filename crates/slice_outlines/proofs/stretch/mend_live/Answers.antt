-- Those that begin come to those that were there, and those that end go.
use Rattle.std.proofs.Common.{List, refl, ap, ◌∙◌}
use Rattle.std.specs.List.{filter}
use Rattle.slice_outlines.specs.declared.flat.Flat.{Flat}
use Rattle.slice_outlines.specs.Along.{goes_on}
use Rattle.slice_outlines.proofs.stretch.mend_live.Goals as goal

pub returns-clause-live : goal.returns-clause-live
returns-clause-live c = record {
  from = c.in_ok-begun.ensures.from;
  begun = c.in_ok-begun.ensures.begun;
  later = c.in_ok-begun.ensures.later;
  live = c.end_flats.ensures ∙ ap (λ (fs : List Flat). filter (goes_on c.args.s.now) fs) c.in_ok-begun.ensures.live;
}

pub returns-clause-run : goal.returns-clause-run
returns-clause-run c = refl

pub returns-clause-below : goal.returns-clause-below
returns-clause-below c = refl

pub returns-clause-above : goal.returns-clause-above
returns-clause-above c = refl

pub returns-clause-flat : goal.returns-clause-flat
returns-clause-flat c = refl

pub returns-clause-begun : goal.returns-clause-begun
returns-clause-begun c = c.in_ok-begun.ensures.to
