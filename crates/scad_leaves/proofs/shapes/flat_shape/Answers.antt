-- A flat shape's space is judged, its arguments are read, and the first outline is without the others.
use Rattle.std.proofs.lemmas.Result.{err_from_is_err_and}
use Rattle.scad_machine.specs.Machine.{state_of}
use Rattle.scad_leaves.specs.Shapes.{flat_made}
use Rattle.scad_leaves.proofs.shapes.flat_shape.Goals as goal

pub returns-in_err-judge_flat-clause-does : goal.returns-in_err-judge_flat-clause-does
unfolding flat_made
returns-in_err-judge_flat-clause-does c =
    let p = err_from_is_err_and c.from_residual.result c.from_residual.ensures.1 in
    rw (p.1, p.2) (λ some. rw (c.in_err-judge_flat.ensures (state_of c.args.m.now) some))

pub returns-in_err-outlines-clause-does : goal.returns-in_err-outlines-clause-does
unfolding flat_made
returns-in_err-outlines-clause-does c =
    let r = c.from_residual-in_err-outlines in
    let p = err_from_is_err_and r.result r.ensures.1 in
    rw (p.1, p.2) (λ some. rw (
      c.in_ok-judge_flat.ensures (state_of c.args.m.now),
      c.in_err-outlines.ensures.does some,
    ))

pub returns-clause-does : goal.returns-clause-does
unfolding flat_made
returns-clause-does c =
    rw (c.in_ok-judge_flat.ensures (state_of c.args.m.now), c.in_ok-outlines.ensures.does, ← c.deref.ensures.value)
    c.first_without_others.ensures.does
