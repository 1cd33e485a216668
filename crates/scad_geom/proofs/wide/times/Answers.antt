use Rattle.std.proofs.Common.{FitsSigned}
use Rattle.std.proofs.lemmas.Int.{to_z-of_z}
use Rattle.scad_geom.proofs.Bits.{product_bits, product_below}
use Rattle.scad_geom.proofs.wide.times.Goals as goal
use mir.Syntax.{w128}

pub product-requires : goal.product-requires
product-requires g c =
    let left_fits = c.ranges.a in
    let right_fits = c.ranges.b in
    simp to_z-of_z
    (record { fits = product_below _ _ g.row.M g.row.N _ c.requires.left c.requires.right c.requires.fits })

pub returns-clause-size : goal.returns-clause-size
returns-clause-size g c =
    let left_fits = c.ranges.a in
    let right_fits = c.ranges.b in
    let fits : FitsSigned w128 c.product.result = record { sfits = c.product.type_inv } in
    let size = simp to_z-of_z at c.product.ensures.size in
    simp (to_z-of_z, size) (product_bits _ _ g.row.M g.row.N c.requires.left c.requires.right)
