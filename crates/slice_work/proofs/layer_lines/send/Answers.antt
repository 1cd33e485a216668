use Rattle.scad_script.specs.Steps.{Sends}
use Rattle.scad_script.proofs.Playing.{goes_on}
use Rattle.slice_work.proofs.layer_lines.send.Goals as goal

pub returns-in-Ok-clause-carries : goal.returns-in-Ok-clause-carries
returns-in-Ok-clause-carries g c whole rest start left =
    goes_on (Sends c.args.out c.args.piece.now) _ left (c.requires.made, c.in-Ok.ensures.ok)
