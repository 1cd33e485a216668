-- Those that don't lie to the right of the stop.
use Rattle.std.proofs.Common.{◌-◌, ◌<◌, ◌≤◌, ℕ, List, length, take, drop, refl, sym, subst, arith}
use Rattle.std.specs.List.{All}
use Rattle.std.proofs.lemmas.List.Elements.{All-append}
use Rattle.slice_outlines.specs.declared.mark.Mark.{Mark}
use Rattle.slice_outlines.specs.Marks.{mark_at}
use Rattle.slice_outlines.specs.Stops.{AllPass}
use Rattle.slice_outlines.specs.Along.{LiesRightOf}
use Rattle.slice_outlines.proofs.stretch.run_at.Goals as goal

pub strands_to-requires-clause-from : goal.strands_to-requires-clause-from
strands_to-requires-clause-from c = c.requires.within.below

pub strands_to-requires-clause-to : goal.strands_to-requires-clause-to
strands_to-requires-clause-to c = c.requires.within.run.below_to

pub strands_to-requires-clause-pass : goal.strands_to-requires-clause-pass
strands_to-requires-clause-pass c = c.requires.below_pass

pub strands_to-requires-2-clause-from : goal.strands_to-requires-2-clause-from
strands_to-requires-2-clause-from c = c.requires.within.above

pub strands_to-requires-2-clause-to : goal.strands_to-requires-2-clause-to
strands_to-requires-2-clause-to c =
    subst (λ (ms : List Mark). c.args.along.now.run.above_to ≤ length ms) (sym c.deref.ensures.value)
    c.requires.within.run.above_to

pub strands_to-requires-2-clause-pass : goal.strands_to-requires-2-clause-pass
strands_to-requires-2-clause-pass c =
    subst (AllPass c.args.height.now.edges.now c.args.height.now.at.now) (sym c.deref.ensures.value)
    c.requires.above_pass

within_all : (k m n : ℕ) → k ≤ m → m ≤ n → k ≤ n
within_all k m n h i = omega arith

pub returns-clause-below : goal.returns-clause-below
returns-clause-below c = refl

pub returns-clause-above : goal.returns-clause-above
returns-clause-above c = refl

pub returns-clause-run : goal.returns-clause-run
returns-clause-run c = record {
  below = c.strands_to.ensures.from;
  below_to = within_all c.strands_to.result c.args.along.now.run.below_to (length c.args.height.now.below.now)
      c.strands_to.ensures.to c.requires.within.run.below_to;
  above = c.strands_to-2.ensures.from;
  above_to = within_all c.strands_to-2.result c.args.along.now.run.above_to (length c.args.kept.now.marks.items)
      c.strands_to-2.ensures.to c.requires.within.run.above_to;
}

pub returns-clause-below_to : goal.returns-clause-below_to
returns-clause-below_to c = c.strands_to.ensures.to

pub returns-clause-above_to : goal.returns-clause-above_to
returns-clause-above_to c = c.strands_to-2.ensures.to

pub returns-clause-below_behind : goal.returns-clause-below_behind
returns-clause-below_behind c = c.strands_to.ensures.next

pub returns-clause-above_behind : goal.returns-clause-above_behind
returns-clause-above_behind c =
    subst (λ (ms : List Mark). c.strands_to-2.result < c.args.along.now.run.above_to
    → LiesRightOf c.args.height.now c.args.s.now (mark_at ms c.strands_to-2.result)) c.deref.ensures.value
    c.strands_to-2.ensures.next

pub returns-clause-by : goal.returns-clause-by
returns-clause-by c =
    let h = c.args.height.now in
    let s = c.args.s.now in
    let a = c.args.along.now in
    All-append (λ m. LiesRightOf h s m → ⊥) (take (c.strands_to.result - a.below) (drop a.below h.below.now))
    (take (c.strands_to-2.result - a.above) (drop a.above c.args.kept.now.marks.items)) c.strands_to.ensures.passed
    (subst (λ (ms : List Mark). All (λ m. LiesRightOf h s m
    → ⊥) (take (c.strands_to-2.result - a.above) (drop a.above ms)))
    c.deref.ensures.value c.strands_to-2.ensures.passed)
