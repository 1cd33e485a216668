use Rattle.std.proofs.Common.{◌≡◌, to_z, of_z, rules}
use mir.Syntax.{w32}
use Rattle.scad_geom.proofs.Casts.{casts}
use Rattle.text_scan.proofs.Printed.{four}
use Rattle.gcode_text.specs.Gcode.{target}
use Rattle.gcode_text.proofs.word.push_target.Goals as goal

pub returns : goal.returns
unfolding target
returns c =
    let x : to_z w32 (of_z w32 c.args.to.x) ≡ c.args.to.x = search (rules, casts) in
    let y : to_z w32 (of_z w32 c.args.to.y) ≡ c.args.to.y = search (rules, casts) in
    four c.put.ensures (rw x at c.push_millimetres.ensures) c.put-2.ensures (rw y at c.push_millimetres-2.ensures)
