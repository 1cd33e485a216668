-- A strand alone in which nothing ends stays as it is, and any other group is replaced.
use Rattle.std.proofs.Common.{◌+◌, ◌<◌, ◌≤◌, ℕ, length, take, drop, refl, arith, subst, sym, ap, ◌∙◌, List}
use Rattle.slice_sweep.specs.declared.strand.Strand.{Strand}
use Rattle.slice_sweep.specs.Strands.{AreThere, strand_at}
use Rattle.slice_sweep.specs.Mending.{AreMendedTo, IsGroup}
use Rattle.slice_sweep.specs.Changes.{older}
use Rattle.slice_sweep.specs.Places.{ArePlacedTo}
use Rattle.slice_sweep.proofs.Telling.{alone_told, one_of}
use Rattle.slice_sweep.proofs.Placing.{placed_stays}
use Rattle.slice_sweep.proofs.Groups.{there_of, alone_by}
use Rattle.slice_sweep.proofs.mend.mend_awake.Goals as goal
use Rattle.slice_sweep.proofs.mend.mend_awake.Goals.{In_ok-tell_start}

at_most : (a b : ℕ) → a < b → a ≤ b
at_most a b h = omega arith

pub group_end-end-requires-clause-strands : goal.group_end-end-requires-clause-strands
group_end-end-requires-clause-strands c =
    subst (AreThere c.args.step.now.edges.now) (sym c.deref.ensures.value)
    (there_of c.args.step.now.edges.now c.args.step.now.lower.now c.args.strands.now.items c.requires.mended.held)

pub older-gone-requires-clause-strands : goal.older-gone-requires-clause-strands
older-gone-requires-clause-strands c =
    subst (AreThere c.args.step.now.edges.now) (sym c.deref-2.ensures.value)
    (there_of c.args.step.now.edges.now c.args.step.now.lower.now c.args.strands.now.items c.requires.mended.held)

pub group_end-end-requires-clause-there : goal.group_end-end-requires-clause-there
group_end-end-requires-clause-there c =
    subst (λ (L : List Strand). c.args.place < length L) (sym c.deref.ensures.value) c.requires.there

pub older-gone-requires-clause-from : goal.older-gone-requires-clause-from
older-gone-requires-clause-from c = at_most c.args.place c.group_end-end.result c.group_end-end.ensures.some

pub older-gone-requires-clause-to : goal.older-gone-requires-clause-to
older-gone-requires-clause-to c =
    subst (λ (L : List Strand). c.group_end-end.result ≤ length L) (c.deref.ensures.value ∙ sym c.deref-2.ensures.value)
    c.group_end-end.ensures.within

pub is_alone-requires-clause-strands : goal.is_alone-requires-clause-strands
is_alone-requires-clause-strands c =
    subst (AreThere c.args.step.now.edges.now) (sym c.deref-3.ensures.value)
    (there_of c.args.step.now.edges.now c.args.step.now.lower.now c.args.strands.now.items c.requires.mended.held)

pub is_alone-requires-clause-there : goal.is_alone-requires-clause-there
is_alone-requires-clause-there c =
    subst (λ (L : List Strand). c.args.place < length L) (sym c.deref-3.ensures.value) c.requires.there

pub is_alone-requires-clause-place : goal.is_alone-requires-clause-place
is_alone-requires-clause-place c = c.group_end-end.ensures.some

pub regroup-requires-clause-neighbours : goal.regroup-requires-clause-neighbours
regroup-requires-clause-neighbours c = c.requires.neighbours

pub regroup-requires-clause-mended : goal.regroup-requires-clause-mended
regroup-requires-clause-mended c = c.requires.mended

pub regroup-requires-clause-group : goal.regroup-requires-clause-group
regroup-requires-clause-group c =
    subst (λ (L : List Strand). IsGroup c.args.step.now.edges.now c.args.step.now.lower.now c.args.place
    c.group_end-end.result L) c.deref.ensures.value (record {
      some = c.group_end-end.ensures.some;
      within = c.group_end-end.ensures.within;
      together = c.group_end-end.ensures.together;
      apart = c.group_end-end.ensures.apart;
    })

next : (c : In_ok-tell_start) → AreMendedTo c.args.step.now.edges.now c.args.step.now.lower.now
    c.args.step.now.upper.now (c.args.place + 1) c.args.strands.now.items
next c =
    let s = c.args.step.now in
    alone_by s.edges.now s.lower.now s.upper.now c.requires.neighbours c.args.place c.args.strands.now.items
    c.deref.result.now c.deref-3.result.now c.group_end-end.result c.requires.mended c.requires.there
    c.deref.ensures.value c.deref-3.ensures.value (c.is_alone.ensures.end c.if-is_alone.true)
    (c.is_alone.ensures.on c.if-is_alone.true) c.group_end-end.ensures.apart

pub returns-then-is_alone-clause-mended : goal.returns-then-is_alone-clause-mended
returns-then-is_alone-clause-mended c = next c

pub returns-then-is_alone-clause-told : goal.returns-then-is_alone-clause-told
returns-then-is_alone-clause-told c all a =
    let s = c.args.step.now in
    let L : List Strand = c.args.strands.now.items in
    let end = c.is_alone.ensures.end c.if-is_alone.true in
    let gone = c.older-gone.ensures ∙ ap (λ (xs : List Strand). older s.edges.now s.lower.now
    (drop c.args.place (take c.group_end-end.result xs))) c.deref-2.ensures.value
    ∙ ap (λ (i : ℕ). older s.edges.now s.lower.now (drop c.args.place (take i L))) end
    ∙ ap (older s.edges.now s.lower.now) (one_of L c.args.place c.requires.there) in
    subst (ArePlacedTo s.edges.now s.lower.now (c.args.place + 1) all L) (sym c.in_ok-tell_start.ensures)
    (placed_stays s.edges.now s.lower.now s.upper.now c.args.place all L c.requires.mended c.requires.there (next c)
    c.args.changes.now.items _ a
    (alone_told s.edges.now s.lower.now c.args.place (strand_at L c.args.place) c.older-gone.result gone))

pub returns-clause-told : goal.returns-clause-told
returns-clause-told c all a =
    let s = c.args.step.now in
    let L : List Strand = c.args.strands.now.items in
    let gone = c.older-gone.ensures ∙ ap (λ (xs : List Strand). older s.edges.now s.lower.now
    (drop c.args.place (take c.group_end-end.result xs))) c.deref-2.ensures.value in
    subst (ArePlacedTo s.edges.now s.lower.now c.in_ok-behind.behind all c.regroup.new.strands.items)
    (sym c.in_ok-tell.ensures)
    (c.in_ok-behind.ensures.told all c.args.changes.now.items c.older-gone.result gone a)

pub returns-then-is_alone-clause-low : goal.returns-then-is_alone-clause-low
returns-then-is_alone-clause-low c low = low

pub returns-then-is_alone-clause-numbers : goal.returns-then-is_alone-clause-numbers
returns-then-is_alone-clause-numbers c k reaches = refl

pub returns-then-is_alone-clause-fewer : goal.returns-then-is_alone-clause-fewer
returns-then-is_alone-clause-fewer c =
    let there = c.requires.there in
    omega (arith, there)

pub returns-clause-low : goal.returns-clause-low
returns-clause-low c = c.in_ok-behind.ensures.low

pub returns-clause-mended : goal.returns-clause-mended
returns-clause-mended c = c.in_ok-behind.ensures.mended

pub returns-clause-numbers : goal.returns-clause-numbers
returns-clause-numbers c = c.in_ok-behind.ensures.numbers

pub returns-clause-fewer : goal.returns-clause-fewer
returns-clause-fewer c = c.in_ok-behind.ensures.fewer
