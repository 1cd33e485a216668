-- The product has the product of the sizes, so it fits.
use Rattle.std.proofs.lemmas.Int.{to_z-of_z, unsigned_abs-mul}
use Rattle.scad_geom.proofs.Casts.{product_fits}
use Rattle.scad_geom.proofs.wide.product.Goals as goal
use mir.Syntax.{w128}

pub overflow_mul-result : goal.overflow_mul-result
overflow_mul-result c =
    let left_fits = c.ranges.a in
    let right_fits = c.ranges.b in
    simp to_z-of_z (product_fits w128 c.args.a c.args.b c.requires.fits)

pub returns-clause-product : goal.returns-clause-product
returns-clause-product c =
    let left_fits = c.ranges.a in
    let right_fits = c.ranges.b in
    let fits = product_fits w128 c.args.a c.args.b c.requires.fits in
    simp to_z-of_z

pub returns-clause-size : goal.returns-clause-size
returns-clause-size c =
    let left_fits = c.ranges.a in
    let right_fits = c.ranges.b in
    let fits = product_fits w128 c.args.a c.args.b c.requires.fits in
    simp to_z-of_z (unsigned_abs-mul c.args.a c.args.b)
