use Rattle.std.proofs.Common.{arith}
use Rattle.std.specs.Vec.Iter.{into_iter_items}
use Rattle.scad_machine.proofs.Giving.{nothing-left}
use Rattle.scad_operations.proofs.Parts.{alike-next, alike-end}
use Rattle.scad_operations.proofs.pieces.values_of.Goals as goal

pub parts-preserved : goal.parts-preserved
parts-preserved c = alike-next _ _ _ _ _ _ c.in-Some.ensures.steps.0 c.in_ok-add_values.ensures c.parts.invariant

pub returns : goal.returns
returns c = alike-end _ _ _ (nothing-left (into_iter_items c.parts.part-iterator)
    (omega (arith, c.in-None.ensures.steps))) c.parts.invariant
