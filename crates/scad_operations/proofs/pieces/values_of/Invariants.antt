use Rattle.std.proofs.Common.{◌++◌}
use Rattle.std.specs.Vec.Iter.{into_iter_items}
use Rattle.scad_operations.specs.Parts.{parts_of, parts_in, MakeAlike}
use Rattle.scad_value.specs.View.{data_in}
use Rattle.scad_operations.proofs.pieces.values_of.Given as goal

abbrev pub invariant-parts : goal.invariant-parts
invariant-parts l = MakeAlike (data_in l.out ++ parts_of (into_iter_items l.part-iterator)) (parts_in l.fn.found)
