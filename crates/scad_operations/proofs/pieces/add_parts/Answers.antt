use Rattle.scad_operations.proofs.Parts.{each-next}
use Rattle.scad_operations.proofs.pieces.add_parts.Goals as goal

pub parts-preserved : goal.parts-preserved
parts-preserved c = each-next _ _ _ _ _ _ c.in-Some.ensures.steps.0 c.in_ok-add_part.ensures c.parts.invariant
