use Rattle.std.proofs.Common.{◌≡◌, ◌++◌}
use Rattle.std.specs.Vec.Iter.{into_iter_items}
use Rattle.scad_operations.specs.Parts.{parts_in}
use Rattle.scad_value.specs.View.{data_of, data_in}
use Rattle.scad_operations.proofs.pieces.add_ones.Given as goal

abbrev pub invariant-values : goal.invariant-values
invariant-values l = parts_in l.out ++ data_of (into_iter_items l.value-iterator) ≡ parts_in l.fn.out ++ data_in
    l.fn.all
