-- One more leaf, none, and one that is refused.
use Rattle.std.proofs.Common.{◌+◌, List, drop, sym, ap, ◌∙◌}
use Rattle.std.proofs.lemmas.Result.{err_from_is_err_and}
use Rattle.scad_modules.specs.View.{outlines}
use Rattle.scad_tree.specs.Solid.{Solid}
use Rattle.scad_tree.specs.View.{solids}
use Rattle.scad_machine.specs.Machine.{state_of}
use Rattle.scad_leaves.specs.FlatLeaves.{flat_leaves}
use Rattle.scad_leaves.specs.View.{trees_in}
use Rattle.scad_leaves.proofs.FlatRounds.{outline-at, leaf-goes, leaf-stops, leaves-end}
use Rattle.scad_leaves.proofs.flat.flat_leaves.Goals as goal

pub leaf_in-requires : goal.leaf_in-requires
leaf_in-requires c = outline-at c.args.shapes.now c.outlines.shape-index c.shape-item.result c.outlines-test.true
    c.shape-item.is c.requires

pub outlines-preserved : goal.outlines-preserved
outlines-preserved c = record {
  left =
      ap (λ (l : List Solid). flat_leaves c.args.at c.args.name.now c.args.w.now
      (outlines (drop (c.outlines.shape-index + 1) c.args.shapes.now)) l (state_of c.leaf_in.new.m))
      (ap solids c.in_ok-push.ensures.items)
      ∙ leaf-goes c.args.at c.args.name.now c.args.w.now c.args.shapes.now c.outlines.shape-index c.shape-item.result
      c.outlines-test.true c.shape-item.is c.outlines.so_far.items (state_of c.outlines.m) _ c.outlines.invariant.left
      c.in_ok-tree.tree (state_of c.leaf_in.new.m) c.in_ok-tree.ensures.does;
  kept = c.in_ok-tree.ensures.kept ∙ c.outlines.invariant.kept;
}

pub returns-clause-does : goal.returns-clause-does
returns-clause-does c =
    sym c.outlines.invariant.left ∙ leaves-end c.args.at c.args.name.now c.args.w.now c.args.shapes.now
    c.outlines.shape-index (trees_in c.outlines.so_far) (state_of c.outlines.m) c.outlines-test.false

pub returns-in_err-tree-clause-does : goal.returns-in_err-tree-clause-does
returns-in_err-tree-clause-does c =
    let p = err_from_is_err_and c.from_residual.result c.from_residual.ensures.1 in
    rw (p.1, p.2) (λ some. leaf-stops c.args.at c.args.name.now c.args.w.now c.args.shapes.now c.outlines.shape-index
    c.shape-item.result c.outlines-test.true c.shape-item.is c.outlines.so_far.items (state_of c.outlines.m) _
    c.outlines.invariant.left _ _ (c.in_err-tree.ensures.does some))
