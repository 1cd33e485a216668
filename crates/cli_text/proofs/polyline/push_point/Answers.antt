use Rattle.std.proofs.Common.{◌≡◌, to_z, of_z, rules}
use mir.Syntax.{w32}
use Rattle.scad_geom.proofs.Casts.{casts}
use Rattle.text_scan.proofs.Printed.{four}
use Rattle.cli_text.proofs.polyline.push_point.Goals as goal

pub returns : goal.returns
returns c =
    let x : to_z w32 (of_z w32 c.args.point.x) ≡ c.args.point.x = search (rules, casts) in
    let y : to_z w32 (of_z w32 c.args.point.y) ≡ c.args.point.y = search (rules, casts) in
    four c.byte.ensures (rw x at c.number.ensures) c.byte-2.ensures (rw y at c.number-2.ensures)
