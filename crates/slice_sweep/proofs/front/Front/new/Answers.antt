-- No edge has begun.
use Rattle.std.proofs.Common.{ℤ, sym, ap, subst, arith, List}
use Rattle.slice_bundles.specs.declared.start.Start.{Start}
use Rattle.slice_sweep.specs.declared.strand.Strand.{Strand}
use Rattle.slice_sweep.specs.LowerEnds.{starts_of}
use Rattle.slice_sweep.specs.Strands.{bundles_of, numbers_in, AreWaiting}
use Rattle.std.specs.List.{AllByRecursion}
use Rattle.slice_sweep.specs.Lows.{AreLow}
use Rattle.slice_sweep.specs.Front.{AreAll, StartsBelow}
use Rattle.slice_sweep.proofs.EdgeStarts.{starts_from}
use Rattle.slice_sweep.proofs.HeightStep.{none_yet, none_waiting}
use Rattle.slice_sweep.proofs.front.Front.new.Goals as goal

pub returns-clause-none : goal.returns-clause-none
returns-clause-none c = ap (λ (ss : List Strand). bundles_of ss) c.new.ensures.items

pub returns-clause-ready : goal.returns-clause-ready
returns-clause-ready c =
    let es = c.args.edges.now in
    let starts : List Start = starts_of c.in_ok-lower_ends.field-0.items in
    λ at. record {
      starts = c.in_ok-lower_ends.ensures.starts;
      rising = c.in_ok-lower_ends.ensures.rising;
      begun = omega arith;
      low = subst (λ (ls : List ℤ). AreLow ls c.new.result.items) (sym c.new-2.ensures.items) (λ b o. absurd (omega (arith, o)));
      waiting = subst (AreWaiting es at) (sym c.new.ensures.items) (none_waiting es at);
      later = λ h d o. subst (λ (ss : List Strand). AreAll es h (numbers_in ss) starts) (sym c.new.ensures.items)
          (none_yet es h starts c.in_ok-lower_ends.ensures.all);
    }

pub returns-clause-begun : goal.returns-clause-begun
returns-clause-begun c =
    let es = c.args.edges.now in
    λ at h. record {
      live = subst (λ (ss : List Strand). AllByRecursion (StartsBelow es at) (numbers_in ss)) (sym c.new.ensures.items)
          tt;
      pending = starts_from es at h (starts_of c.in_ok-lower_ends.field-0.items) c.in_ok-lower_ends.ensures.starts;
    }
