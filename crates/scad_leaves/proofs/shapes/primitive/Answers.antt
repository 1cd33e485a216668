-- A primitive's space is judged, its arguments are read, and it is a leaf.
use Rattle.std.proofs.lemmas.Result.{err_from_is_err_and}
use Rattle.scad_machine.specs.Machine.{state_of}
use Rattle.scad_leaves.specs.Shapes.{primitive_made}
use Rattle.scad_leaves.proofs.shapes.primitive.Goals as goal

pub returns-in_err-judge_solid-clause-does : goal.returns-in_err-judge_solid-clause-does
unfolding primitive_made
returns-in_err-judge_solid-clause-does c =
    let p = err_from_is_err_and c.from_residual.result c.from_residual.ensures.1 in
    rw (p.1, p.2) (λ some. rw (c.in_err-judge_solid.ensures (state_of c.args.m.now) some))

pub returns-in_err-primitive-clause-does : goal.returns-in_err-primitive-clause-does
unfolding primitive_made
returns-in_err-primitive-clause-does c =
    let r = c.from_residual-in_err-primitive in
    let p = err_from_is_err_and r.result r.ensures.1 in
    rw (p.1, p.2) (λ some. rw (
      c.in_ok-judge_solid.ensures (state_of c.args.m.now),
      c.in_err-primitive.ensures.does some,
    ))

pub leaf-requires : goal.leaf-requires
leaf-requires c = c.in_ok-primitive.ensures.primitive

pub returns-clause-does : goal.returns-clause-does
unfolding primitive_made
returns-clause-does c =
    rw (c.in_ok-judge_solid.ensures (state_of c.args.m.now), c.in_ok-primitive.ensures.does) c.leaf.ensures.does
