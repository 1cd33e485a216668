use Rattle.std.proofs.Common.{◌≡◌, [], drop}
use Rattle.scad_modules.specs.View.{outlines}
use Rattle.scad_machine.specs.Machine.{held, state_of}
use Rattle.scad_leaves.specs.FlatLeaves.{flat_leaves}
use Rattle.scad_leaves.specs.View.{trees_in}
use Rattle.scad_leaves.proofs.flat.flat_leaves.Given as goal

-- what is left gives what the whole gives
abbrev pub invariant-outlines : goal.invariant-outlines
invariant-outlines l = record {
  left : flat_leaves l.at l.name l.w (outlines (drop l.shape-index l.shapes)) (trees_in l.so_far) (state_of l.m)
      ≡ flat_leaves l.at l.name l.w (outlines l.shapes) [] (state_of l.fn.m);
  kept : held l.m ≡ held l.fn.m;
}
