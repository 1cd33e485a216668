-- The sizes of what is handed on, and the difference of the areas.
use Rattle.std.proofs.Common.{◌≡◌, to_z, of_z, arith}
use Rattle.scad_geom.specs.Line.{lean, run, rise}
use Rattle.scad_geom.proofs.Casts.{sizes}
use Rattle.scad_geom.proofs.Casts.{difference_by, product_by, handed}
use mir.Syntax.{w64}
use Rattle.slice_events.proofs.line.Line.lean.Goals as goal

pub area-requires : goal.area-requires
area-requires c = record { a = omega (arith, sizes); b = omega (arith, sizes) }

pub area-requires-2 : goal.area-requires-2
area-requires-2 c = record { a = omega (arith, sizes); b = omega (arith, sizes) }

pub minus-requires : goal.minus-requires
minus-requires c = record { fits = omega (arith, sizes) }

pub returns-clause-size : goal.returns-clause-size
returns-clause-size c = omega (arith, sizes)

pub returns-clause-value : goal.returns-clause-value
unfolding lean
returns-clause-value c =
    let s = c.args.self.now in
    let t = c.args.f.now in
    let right : to_z w64 (of_z w64 s.run) ≡ run s.edge = handed w64 s.run (omega (arith, s.run_size)) s.read.run_is in
    let up : to_z w64 (of_z w64 s.rise) ≡ rise s.edge =
    handed w64 s.rise (omega (arith, s.rise_size)) s.read.rise_is in
    let its_right : to_z w64 (of_z w64 t.run) ≡ run t.edge =
    handed w64 t.run (omega (arith, t.run_size)) t.read.run_is in
    let its_up : to_z w64 (of_z w64 t.rise) ≡ rise t.edge =
    handed w64 t.rise (omega (arith, t.rise_size)) t.read.rise_is in
    difference_by w64 c.minus.type_inv c.minus.ensures.difference
    (product_by w64 c.area.type_inv c.area.ensures.value right its_up)
    (product_by w64 c.area-2.type_inv c.area-2.ensures.value its_right up)
