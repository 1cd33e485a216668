-- The sizes of what is handed on, and the value of the chain.
use Rattle.std.proofs.Common.{◌≡◌, ◌+ℤ◌, ◌-ℤ◌, ◌*ℤ◌, to_z, of_z, refl, sym, ◌∙◌, arith}
use Rattle.scad_geom.specs.Line.{run, rise, offset}
use Rattle.scad_geom.proofs.Lines.{left_of_whole}
use Rattle.scad_geom.proofs.Casts.{sizes}
use Rattle.scad_geom.proofs.Casts.{sum_by, difference_by, product_by, handed, widened}
use mir.Syntax.{w32, w64}
use Rattle.slice_events.proofs.line.Line.left_of.Goals as goal

pub times-requires-clause-left : goal.times-requires-clause-left
times-requires-clause-left c = omega (arith, sizes)

pub times-requires-clause-right : goal.times-requires-clause-right
times-requires-clause-right c = omega (arith, sizes)

pub plus-x-requires : goal.plus-x-requires
plus-x-requires c = record { fits = omega (arith, sizes) }

pub times-requires-2-clause-left : goal.times-requires-2-clause-left
times-requires-2-clause-left c = omega (arith, sizes)

pub times-requires-2-clause-right : goal.times-requires-2-clause-right
times-requires-2-clause-right c = omega (arith, sizes)

pub minus-requires : goal.minus-requires
minus-requires c = record { fits = omega (arith, sizes) }

pub returns : goal.returns
returns c =
    let s = c.args.self.now in
    let p = c.args.p in
    let right : to_z w64 (of_z w64 s.run) ≡ run s.edge = handed w64 s.run (omega (arith, s.run_size)) s.read.run_is in
    let up : to_z w64 (of_z w64 s.rise) ≡ rise s.edge =
    handed w64 s.rise (omega (arith, s.rise_size)) s.read.rise_is in
    let start : to_z w64 (of_z w64 s.offset) ≡ offset s.edge =
    handed w64 s.offset (omega (arith, s.offset_size)) s.read.offset_is in
    let x : to_z w64 (of_z w64 (to_z w32 (of_z w32 p.x))) ≡ p.x =
    widened w32 w64 p.x (omega (arith, c.requires.x)) (omega (arith, c.requires.x)) refl in
    let y : to_z w64 (of_z w64 (to_z w32 (of_z w32 p.y))) ≡ p.y =
    widened w32 w64 p.y (omega (arith, c.requires.y)) (omega (arith, c.requires.y)) refl in
    let value : to_z w64 (of_z w64 c.minus.result) ≡ run s.edge *ℤ p.y +ℤ offset s.edge -ℤ rise s.edge *ℤ p.x =
    difference_by w64 c.minus.type_inv c.minus.ensures.difference
    (sum_by w64 c.plus-x.type_inv c.plus-x.ensures.sum
    (product_by w64 c.times.type_inv c.times.ensures.product right y) start)
    (product_by w64 c.times-2.type_inv c.times-2.ensures.product up x) in
    value ∙ sym (left_of_whole s.edge p.x p.y)
