-- Those that sleep stay as they are.
use Rattle.std.proofs.Common.{refl, sym, subst, List}
use Rattle.slice_sweep.specs.declared.strand.Strand.{Strand}
use Rattle.slice_sweep.specs.Mending.{AreMendedTo}
use Rattle.slice_sweep.specs.Places.{ArePlacedTo}
use Rattle.slice_sweep.proofs.mend.mend_at.Goals as goal

pub mend_awake-requires-clause-mended : goal.mend_awake-requires-clause-mended
mend_awake-requires-clause-mended c =
    let s = c.args.step.now in
    subst (AreMendedTo s.edges.now s.lower.now s.upper.now c.pass_asleep-awake.result) c.deref.ensures.value
    c.pass_asleep-awake.ensures.mended

pub returns-then-awake-len-clause-low : goal.returns-then-awake-len-clause-low
returns-then-awake-len-clause-low c = c.requires.low

pub returns-then-awake-len-clause-mended : goal.returns-then-awake-len-clause-mended
returns-then-awake-len-clause-mended c =
    let s = c.args.step.now in
    subst (AreMendedTo s.edges.now s.lower.now s.upper.now c.pass_asleep-awake.result) c.deref.ensures.value
    c.pass_asleep-awake.ensures.mended

pub returns-then-awake-len-clause-numbers : goal.returns-then-awake-len-clause-numbers
returns-then-awake-len-clause-numbers c k reaches = refl

pub returns-then-awake-len-clause-told : goal.returns-then-awake-len-clause-told
returns-then-awake-len-clause-told c all a =
    let s = c.args.step.now in
    let cs = c.args.changes.now.items in
    subst (λ (xs : List Strand). ArePlacedTo s.edges.now s.lower.now c.pass_asleep-awake.result all xs cs)
    c.deref.ensures.value (c.pass_asleep-awake.ensures.told all cs
    (subst (λ (xs : List Strand). ArePlacedTo s.edges.now s.lower.now c.args.place all xs cs)
    (sym c.deref.ensures.value) a))

pub returns-clause-mended : goal.returns-clause-mended
returns-clause-mended c = c.mend_awake.ensures.mended

pub returns-clause-numbers : goal.returns-clause-numbers
returns-clause-numbers c = c.mend_awake.ensures.numbers
