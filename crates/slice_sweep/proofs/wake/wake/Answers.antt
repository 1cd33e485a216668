-- Only the key is written.
use Rattle.std.proofs.Common.{sym, subst, FitsSigned}
use Rattle.std.proofs.lemmas.Int.{to_z-of_z}
use Rattle.slice_sweep.specs.Strands.{AreThere}
use Rattle.slice_sweep.proofs.Groups.{there_of}
use Rattle.slice_sweep.proofs.Waking.{woken_by}
use Rattle.slice_sweep.proofs.Blocks.{woken_low}
use Rattle.slice_sweep.proofs.wake.wake.Goals as goal
use mir.Syntax.{w64}

pub wake_of-key-requires-clause-strands : goal.wake_of-key-requires-clause-strands
wake_of-key-requires-clause-strands c =
    subst (AreThere c.args.step.now.edges.now) (sym c.deref.ensures.value)
    (there_of c.args.step.now.edges.now c.args.step.now.lower.now c.args.strands.now.items c.requires.ordered.held)

pub returns-clause-ordered : goal.returns-clause-ordered
returns-clause-ordered c =
    let s = c.args.step.now in
    let k_fits : FitsSigned w64 c.wake_of-key.result = record { sfits = c.wake_of-key.type_inv } in
    simp to_z-of_z (woken_by s.edges.now s.lower.now s.upper.now c.args.strands.now.items c.deref.result.now c.args.i
    c.index_mut.result.now c.wake_of-key.result s.lower_within c.deref.ensures.value c.requires.there
    c.index_mut.ensures.value c.wake_of-key.ensures.ends c.wake_of-key.ensures.left c.requires.ordered).0

pub returns-clause-bundles : goal.returns-clause-bundles
returns-clause-bundles c =
    let s = c.args.step.now in
    let k_fits : FitsSigned w64 c.wake_of-key.result = record { sfits = c.wake_of-key.type_inv } in
    simp to_z-of_z (woken_by s.edges.now s.lower.now s.upper.now c.args.strands.now.items c.deref.result.now c.args.i
    c.index_mut.result.now c.wake_of-key.result s.lower_within c.deref.ensures.value c.requires.there
    c.index_mut.ensures.value c.wake_of-key.ensures.ends c.wake_of-key.ensures.left c.requires.ordered).1

pub returns-clause-low : goal.returns-clause-low
returns-clause-low c lows h =
    woken_low lows c.args.strands.now.items c.args.i _ c.requires.there c.requires.keyless h
