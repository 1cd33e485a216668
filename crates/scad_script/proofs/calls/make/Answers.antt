use Rattle.scad_script.specs.Steps.{Makes}
use Rattle.scad_script.proofs.Playing.{goes_on}
use Rattle.scad_script.proofs.calls.make.Goals as goal

pub returns-in-Ok-clause-carries : goal.returns-in-Ok-clause-carries
returns-in-Ok-clause-carries g c whole rest start left =
    goes_on (Makes c.args.out c.args.name.now) _ left c.in-Ok.ensures.view
