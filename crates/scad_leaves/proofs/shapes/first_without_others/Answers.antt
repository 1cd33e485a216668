-- The leaves of outlines are made, and then the first without the others.
use Rattle.std.proofs.lemmas.Result.{err_from_is_err_and}
use Rattle.scad_machine.specs.Machine.{state_of}
use Rattle.scad_leaves.specs.Shapes.{first_without_others}
use Rattle.scad_leaves.proofs.shapes.first_without_others.Goals as goal

pub returns-in_err-leaves-clause-does : goal.returns-in_err-leaves-clause-does
unfolding first_without_others
returns-in_err-leaves-clause-does c =
    let p = err_from_is_err_and c.from_residual.result c.from_residual.ensures.1 in
    rw (p.1, p.2) (λ some. rw (c.in_err-leaves.ensures.does some))

pub returns-clause-does : goal.returns-clause-does
unfolding first_without_others
returns-clause-does c =
    rw (c.in_ok-leaves.ensures.does) (c.tree_of_operation.ensures (state_of c.flat_leaves.new.m))
