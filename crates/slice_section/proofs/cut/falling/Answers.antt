use Rattle.std.proofs.lemmas.Int.{to_z-of_z}
use Rattle.slice_section.proofs.SideCuts.{falls_through_if}
use Rattle.slice_section.proofs.cut.falling.Goals as goal

pub returns-clause-through : goal.returns-clause-through
returns-clause-through c =
    let plane_fits = c.ranges.plane in
    let found = simp to_z-of_z at c.first_falling.ensures in
    falls_through_if c.args.plane c.args.triangle.now c.first_falling.result c.requires
    (rw c.sides-sides.ensures at found)
