-- A hull is judged, and then it is made as its space wants.
use Rattle.std.proofs.lemmas.Result.{err_from_is_err_and}
use Rattle.scad_machine.specs.Machine.{state_of}
use Rattle.scad_leaves.specs.Hulls.{hull_in, hull_made}
use Rattle.scad_leaves.proofs.hulls.hull_made.Goals as goal

pub returns-in_err-judge_united-clause-does : goal.returns-in_err-judge_united-clause-does
unfolding hull_made
returns-in_err-judge_united-clause-does c =
    let p = err_from_is_err_and c.from_residual.result c.from_residual.ensures.1 in
    rw (p.1, p.2) (λ some. rw (c.in_err-judge_united.ensures (state_of c.args.m.now) some))

pub returns-in-Solid-clause-does : goal.returns-in-Solid-clause-does
unfolding hull_made hull_in
returns-in-Solid-clause-does c =
    rw (c.in_ok-judge_united.ensures (state_of c.args.m.now), c.in-Solid.is) c.solid_hull.ensures.does

pub returns-in-Linear-clause-does : goal.returns-in-Linear-clause-does
unfolding hull_made hull_in
returns-in-Linear-clause-does c =
    rw (c.in_ok-judge_united.ensures (state_of c.args.m.now), c.in-Linear.is) c.solid_hull-in-Linear.ensures.does

pub returns-in-Turned-clause-does : goal.returns-in-Turned-clause-does
unfolding hull_made hull_in
returns-in-Turned-clause-does c =
    rw (c.in_ok-judge_united.ensures (state_of c.args.m.now), c.in-Turned.is) c.turned_hull.ensures.does
