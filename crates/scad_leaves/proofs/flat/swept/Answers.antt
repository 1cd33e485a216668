-- A profile goes round in the turns that were counted, and then it is placed.
use Rattle.std.proofs.Common.{ℕ, length, sym, ap, ◌∙◌, subst}
use Rattle.scad_extrude.specs.declared.count.FlatForm.TheVariants.{Turned as Sweep}
use Rattle.scad_extrude.specs.Count.{triangles_of}
use Rattle.scad_extrude.specs.Revolution.{turned_of}
use Rattle.scad_tree.specs.Solid.{Solid}
use Rattle.scad_tree.specs.View.{solid_of}
use Rattle.scad_machine.specs.Answers.{Does}
use Rattle.scad_machine.specs.Machine.{state_of}
use Rattle.scad_machine.specs.State.{Outcome, and_then}
use Rattle.scad_leaves.specs.FlatLeaves.{swept}
use Rattle.scad_leaves.specs.Products.{count_triangles, placed}
use Rattle.scad_leaves.proofs.Sweeps.{turns-some, sweep-solid}
use Rattle.scad_leaves.proofs.flat.swept.Goals as goal

pub count_sweep-requires : goal.count_sweep-requires
count_sweep-requires c = record {
  some = c.requires.some;
  few = c.requires.few;
  turns = c.turns_of-turns.ensures.few;
}

pub turned-requires : goal.turned-requires
turned-requires c = c.in_ok-count_sweep.ensures.few

pub placed-requires : goal.placed-requires
placed-requires c = sweep-solid (length c.args.ring.now) c.turns_of-turns.result c.turned.result c.requires.some
    (turns-some c.turns_of-turns.result c.turns_of-turns.ensures.few) c.turned.ensures.count

pub returns-clause-does : goal.returns-clause-does
unfolding swept
returns-clause-does c =
    let ring = c.args.ring.now in
    let turns = c.turns_of-turns.result in
    subst (λ (o : Outcome Solid). Does solid_of o c.placed.result (state_of c.count_sweep.new.m))
    (sym (sym (ap (λ (n : ℕ). and_then (count_triangles (triangles_of (Sweep (length ring) n)) c.args.at
    (state_of c.args.m.now)) (λ _. placed c.args.at (turned_of ring n c.args.whole.now)))
    c.turns_of-turns.ensures.value)
    ∙ ap (λ (o : Outcome (Unit {0})). and_then o (λ _. placed c.args.at (turned_of ring turns c.args.whole.now)))
    c.in_ok-count_sweep.ensures.does))
    (c.placed.ensures (turned_of ring turns c.args.whole.now) (state_of c.count_sweep.new.m) c.turned.ensures.solid)
