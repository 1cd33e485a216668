-- The doubled coordinates are small, and the cuts of the solid wind round the point that is meant.
use Rattle.std.proofs.Common.{◌≡◌, not, ap, ap₂, ◌∙◌, to_z, of_z, arith}
use mir.Syntax.{w32, w64, w128}
use Rattle.scad_geom.specs.Half.{doubled}
use Rattle.scad_geom.specs.Point.{halves}
use Rattle.scad_geom.specs.Sign.{is_zero}
use Rattle.scad_geom.specs.Winding.{wind}
use Rattle.scad_geom.proofs.Casts.{casts, by_cast, cast_size, read_size, widened}
use Rattle.scad_solid.specs.Cut.{cuts_of}
use Rattle.slice_section.proofs.Differences.{zero_bits}
use Rattle.slice_section.proofs.inside.contains.Goals as goal

pub winding-requires-clause-x : goal.winding-requires-clause-x
winding-requires-clause-x c =
    let size = c.doubled.ensures.size in
    let coordinate = read_size w32 (of_z w32 c.args.p.x) in
    let narrow = cast_size w64 c.doubled.result (omega (arith, size, coordinate)) in
    let wide = cast_size w128 (to_z w64 (of_z w64 c.doubled.result)) (omega (arith, size, coordinate, narrow)) in
    omega (arith, size, coordinate, narrow, wide)

pub winding-requires-clause-y : goal.winding-requires-clause-y
winding-requires-clause-y c =
    let size = c.doubled-2.ensures.size in
    let coordinate = read_size w32 (of_z w32 c.args.p.y) in
    let narrow = cast_size w64 c.doubled-2.result (omega (arith, size, coordinate)) in
    let wide = cast_size w128 (to_z w64 (of_z w64 c.doubled-2.result)) (omega (arith, size, coordinate, narrow)) in
    omega (arith, size, coordinate, narrow, wide)

pub returns : goal.returns
returns c =
    let half = c.args.half in
    let p = c.args.p in
    let px : to_z w32 (of_z w32 p.x) ≡ p.x = search casts in
    let py : to_z w32 (of_z w32 p.y) ≡ p.y = search casts in
    let x_size = c.doubled.ensures.size in
    let y_size = c.doubled-2.ensures.size in
    let x_small = read_size w32 (of_z w32 p.x) in
    let y_small = read_size w32 (of_z w32 p.y) in
    let x = widened w64 w128 c.doubled.result (omega (arith, x_size, x_small)) (omega (arith, x_size, x_small))
    (c.doubled.ensures.value ∙ ap (doubled half) px) in
    let y = widened w64 w128 c.doubled-2.result (omega (arith, y_size, y_small)) (omega (arith, y_size, y_small))
    (c.doubled-2.ensures.value ∙ ap (doubled half) py) in
    let plane = by_cast w128 c.plane_of-plane.type_inv c.plane_of-plane.ensures in
    ap not (zero_bits c.winding.result (record { sfits = c.winding.type_inv })
    ∙ ap is_zero (c.winding.ensures ∙ ap₂ wind (ap₂ halves x y) (ap₂ cuts_of plane c.as_slice.ensures.all)))
