-- A hull is counted as a leaf, then its triangles are.
use Rattle.std.proofs.lemmas.Result.{err_from_is_err_and}
use Rattle.scad_leaves.specs.Hulls.{hull_leaf}
use Rattle.scad_leaves.proofs.hulls.hull_leaf.Goals as goal

pub returns-in_err-count_leaf-clause-does : goal.returns-in_err-count_leaf-clause-does
unfolding hull_leaf
returns-in_err-count_leaf-clause-does c =
    let p = err_from_is_err_and c.from_residual.result c.from_residual.ensures.1 in
    rw (p.1, p.2) (λ some. rw (c.in-Some.is, c.in_err-count_leaf.ensures.does some))

pub returns-in_err-count_triangles-clause-does : goal.returns-in_err-count_triangles-clause-does
unfolding hull_leaf
returns-in_err-count_triangles-clause-does c =
    let r = c.from_residual-in_err-count_triangles in
    let p = err_from_is_err_and r.result r.ensures.1 in
    rw (p.1, p.2) (λ some. rw (
      c.in-Some.is,
      c.in_ok-count_leaf.ensures.does,
      ← c.count.ensures,
      c.in_err-count_triangles.ensures.does some,
    ))

pub leaf-requires : goal.leaf-requires
leaf-requires c = rw c.in-Some.is at c.requires

pub returns-clause-does : goal.returns-clause-does
unfolding hull_leaf
returns-clause-does c =
    rw (
      c.in-Some.is,
      c.in_ok-count_leaf.ensures.does,
      ← c.count.ensures,
      c.in_ok-count_triangles.ensures.does,
      c.leaf.ensures,
    )
