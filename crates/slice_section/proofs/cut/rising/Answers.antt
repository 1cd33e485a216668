use Rattle.std.proofs.lemmas.Int.{to_z-of_z}
use Rattle.slice_section.proofs.SideCuts.{rises_through_if}
use Rattle.slice_section.proofs.cut.rising.Goals as goal

pub returns-clause-through : goal.returns-clause-through
returns-clause-through c =
    let plane_fits = c.ranges.plane in
    let found = simp to_z-of_z at c.first_rising.ensures in
    rises_through_if c.args.plane c.args.triangle.now c.first_rising.result c.requires
    (rw c.sides-sides.ensures at found)
