-- The edge stands at the place that was found, and the strand before it has lost its key.
use Rattle.std.proofs.Common.{arith, ℕ, ◌≡◌, ◌≤◌, true, length, sym, subst, List, All}
use Rattle.std.proofs.lemmas.Result.{on_ok_weaker}
use Rattle.slice_sweep.specs.declared.strand.Strand.{Strand}
use Rattle.slice_bundles.specs.Bundles.{reaches}
use Rattle.slice_sweep.specs.Strands.{head, AreThere}
use Rattle.slice_sweep.specs.Lows.{KeysStay}
use Rattle.slice_sweep.proofs.Groups.{there_of, heads_reach}
use Rattle.slice_sweep.proofs.Starting.{started_by}
use Rattle.slice_sweep.proofs.EdgeStarts.{begun_below, begun_keyless}
use Rattle.slice_sweep.proofs.Blocks.{keys_before}
use Rattle.slice_sweep.proofs.Weakening.{weakened_length}
use Rattle.slice_sweep.proofs.start.begin_at.Goals as goal

pub place-i-requires-clause-strands : goal.place-i-requires-clause-strands
place-i-requires-clause-strands c =
    subst (AreThere c.args.edges.now) (sym c.deref.ensures.value)
    (there_of c.args.edges.now c.args.at.now c.args.strands.now.items c.requires.waiting.held)

pub place-i-requires-clause-reach : goal.place-i-requires-clause-reach
place-i-requires-clause-reach c =
    subst (All (λ (s : Strand). reaches (head c.args.edges.now s.bundle) c.args.at.now c.args.at.now ≡ true))
    (sym c.deref.ensures.value)
    (heads_reach c.args.edges.now c.args.at.now c.args.strands.now.items c.requires.waiting.held)

pub returns-clause-waiting : goal.returns-clause-waiting
returns-clause-waiting c = on_ok_weaker c.insert.result
    (λ e. (started_by c.args.edges.now c.args.at.now c.requires.at c.args.strands.now.items c.deref.result.now
    c.weaken.new.strands.items c.insert.new.strands.items c.place-i.result c.args.k c.deref.ensures.value
    c.place-i.ensures.within c.requires.reaching c.place-i.ensures.left c.place-i.ensures.right c.requires.waiting
    c.weaken.ensures e).0)
    c.insert.ensures

pub returns-clause-numbers : goal.returns-clause-numbers
returns-clause-numbers c = on_ok_weaker c.insert.result
    (λ e. (started_by c.args.edges.now c.args.at.now c.requires.at c.args.strands.now.items c.deref.result.now
    c.weaken.new.strands.items c.insert.new.strands.items c.place-i.result c.args.k c.deref.ensures.value
    c.place-i.ensures.within c.requires.reaching c.place-i.ensures.left c.place-i.ensures.right c.requires.waiting
    c.weaken.ensures e).1)
    c.insert.ensures

pub returns-clause-below : goal.returns-clause-below
returns-clause-below c = on_ok_weaker c.insert.result
    (λ e h. begun_below c.args.edges.now c.args.at.now c.args.strands.now.items c.deref.result.now
    c.weaken.new.strands.items c.insert.new.strands.items c.place-i.result c.args.k c.deref.ensures.value
    c.place-i.ensures.within c.weaken.ensures e h)
    c.insert.ensures

pub returns-clause-keyless : goal.returns-clause-keyless
returns-clause-keyless c = on_ok_weaker c.insert.result
    (λ e h. begun_keyless c.args.edges.now c.args.at.now c.args.strands.now.items c.deref.result.now
    c.weaken.new.strands.items c.insert.new.strands.items c.place-i.result c.args.k c.deref.ensures.value
    c.place-i.ensures.within c.weaken.ensures e h)
    c.insert.ensures

pub insert-requires : goal.insert-requires
insert-requires c =
    let within : c.place-i.result ≤ length c.args.strands.now.items =
    subst (λ (xs : List Strand). c.place-i.result ≤ length xs) c.deref.ensures.value c.place-i.ensures.within in
    let size = weakened_length c.args.strands.now.items c.weaken.new.strands.items c.place-i.result within
    c.weaken.ensures in
    omega (arith, within, size)

pub returns-clause-low : goal.returns-clause-low
returns-clause-low c = on_ok_weaker c.insert.result
    (λ e h. let L : List Strand = c.args.strands.now.items in
    let new : List Strand = c.insert.new.strands.items in
    c.forget_from.ensures L new h (subst (λ (i : ℕ). KeysStay i (length new) L new) (sym c.saturating_sub.ensures)
    (keys_before L c.weaken.new.strands.items c.place-i.result
    (subst (λ (xs : List Strand). c.place-i.result ≤ length xs) c.deref.ensures.value c.place-i.ensures.within)
    c.weaken.ensures new _ e)))
    c.insert.ensures
