use Rattle.std.proofs.Common.{rules}
use Rattle.scad_script.specs.Script.{first}
use Rattle.scad_script.proofs.Layers.{as_left}
use Rattle.scad_slice.specs.Script.{heads}
use Rattle.scad_slice.proofs.Heads.{head_first}
use Rattle.scad_slice.proofs.Stopping.{stops_part}
use Rattle.scad_slice.proofs.pieces.send_heads.Goals as goal

pub returns-in_err-cli-clause-carries : goal.returns-in_err-cli-clause-carries
returns-in_err-cli-clause-carries g c whole rest start left =
    let here = head_first c.args.want c.args.settings.now c.args.count whole rest start _ left in
    stops_part whole rest _ _ start _ (search rules) (c.in_err-cli.ensures.carries whole here.0 start here.1)

pub returns-in_err-gcode-in-Plan-clause-carries : goal.returns-in_err-gcode-in-Plan-clause-carries
returns-in_err-gcode-in-Plan-clause-carries g c whole rest start left =
    stops_part whole rest _ _ start _ (search rules)
    (c.in_err-gcode-in-Plan.ensures.carries whole rest start
    (c.in_ok-cli.ensures.carries whole _ start
    (as_left (λ k. first (heads (c.in-Plan.is k) c.args.settings.now c.args.count) rest) left)))
