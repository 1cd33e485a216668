-- The sizes of what is handed on, and the difference of the products.
use Rattle.std.proofs.Common.{◌≡◌, to_z, of_z, arith}
use Rattle.scad_geom.specs.Line.{apart, rise, offset}
use Rattle.scad_geom.proofs.Casts.{sizes}
use Rattle.scad_geom.proofs.Casts.{difference_by, product_by, widened}
use mir.Syntax.{w64, w128}
use Rattle.slice_events.proofs.line.Line.apart.Goals as goal

pub times-requires-clause-left : goal.times-requires-clause-left
times-requires-clause-left c = omega (arith, sizes)

pub times-requires-clause-right : goal.times-requires-clause-right
times-requires-clause-right c = omega (arith, sizes)

pub times-requires-2-clause-left : goal.times-requires-2-clause-left
times-requires-2-clause-left c = omega (arith, sizes)

pub times-requires-2-clause-right : goal.times-requires-2-clause-right
times-requires-2-clause-right c = omega (arith, sizes)

pub minus-requires : goal.minus-requires
minus-requires c = record { fits = omega (arith, sizes) }

pub returns-clause-size : goal.returns-clause-size
returns-clause-size c = omega (arith, sizes)

pub returns-clause-value : goal.returns-clause-value
unfolding apart
returns-clause-value c =
    let s = c.args.self.now in
    let t = c.args.f.now in
    let start : to_z w128 (of_z w128 (to_z w64 (of_z w64 s.offset))) ≡ offset s.edge =
    widened w64 w128 s.offset (omega (arith, s.offset_size)) (omega (arith, s.offset_size)) s.read.offset_is in
    let up : to_z w128 (of_z w128 (to_z w64 (of_z w64 s.rise))) ≡ rise s.edge =
    widened w64 w128 s.rise (omega (arith, s.rise_size)) (omega (arith, s.rise_size)) s.read.rise_is in
    let its_start : to_z w128 (of_z w128 (to_z w64 (of_z w64 t.offset))) ≡ offset t.edge =
    widened w64 w128 t.offset (omega (arith, t.offset_size)) (omega (arith, t.offset_size)) t.read.offset_is in
    let its_up : to_z w128 (of_z w128 (to_z w64 (of_z w64 t.rise))) ≡ rise t.edge =
    widened w64 w128 t.rise (omega (arith, t.rise_size)) (omega (arith, t.rise_size)) t.read.rise_is in
    difference_by w128 c.minus.type_inv c.minus.ensures.difference
    (product_by w128 c.times.type_inv c.times.ensures.product start its_up)
    (product_by w128 c.times-2.type_inv c.times-2.ensures.product its_start up)
