-- A leaf is counted, then its triangles are, and then it is placed.
use Rattle.std.proofs.lemmas.Result.{err_from_is_err_and}
use Rattle.scad_machine.specs.Machine.{state_of}
use Rattle.scad_leaves.specs.Products.{leaf}
use Rattle.scad_leaves.proofs.leaves.leaf.Goals as goal

pub returns-in_err-count_leaf-clause-does : goal.returns-in_err-count_leaf-clause-does
unfolding leaf
returns-in_err-count_leaf-clause-does c =
    let p = err_from_is_err_and c.from_residual.result c.from_residual.ensures.1 in
    rw (p.1, p.2) (λ some. rw (c.in_err-count_leaf.ensures.does some))

pub returns-in_err-count_primitive-clause-does : goal.returns-in_err-count_primitive-clause-does
unfolding leaf
returns-in_err-count_primitive-clause-does c =
    let r = c.from_residual-in_err-count_primitive in
    let p = err_from_is_err_and r.result r.ensures.1 in
    rw (p.1, p.2) (λ some. rw (c.in_ok-count_leaf.ensures.does, c.in_err-count_primitive.ensures.does some))

pub solid_of-requires-clause-few : goal.solid_of-requires-clause-few
solid_of-requires-clause-few c = c.in_ok-count_primitive.ensures.few

pub placed-requires : goal.placed-requires
placed-requires c = c.solid_of.ensures.some

pub returns-clause-does : goal.returns-clause-does
unfolding leaf
returns-clause-does c =
    rw (c.in_ok-count_leaf.ensures.does, c.in_ok-count_primitive.ensures.does)
    (c.placed.ensures _ (state_of c.count_primitive.new.m) c.solid_of.ensures.solid)
