use Rattle.std.proofs.Common.{◌≡◌, ◌++◌}
use Rattle.std.specs.List.{flat_map}
use Rattle.std.specs.Vec.Iter.{into_iter_items}
use Rattle.scad_operations.specs.Parts.{parts_of, parts_in}
use Rattle.scad_operations.specs.Runs.{items}
use Rattle.scad_operations.proofs.pieces.add_parts.Given as goal

abbrev pub invariant-parts : goal.invariant-parts
invariant-parts l = parts_in l.out ++ flat_map items (parts_of (into_iter_items l.part-iterator))
    ≡ parts_in l.fn.before
    ++ flat_map items (parts_in l.fn.found)
