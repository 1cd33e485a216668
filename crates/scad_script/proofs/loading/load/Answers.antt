use Rattle.std.proofs.Common.{rules}
use Rattle.scad_script.specs.Steps.{Reads}
use Rattle.scad_script.proofs.Playing.{goes_on}
use Rattle.scad_script.proofs.loading.load.Goals as goal

pub returns-in-Ok-read_all-clause-carries : goal.returns-in-Ok-read_all-clause-carries
returns-in-Ok-read_all-clause-carries g c whole rest start left =
    goes_on (Reads c.args.name.now) _ left (search rules)

pub returns-in-Err-Long-clause-carries : goal.returns-in-Err-Long-clause-carries
returns-in-Err-Long-clause-carries g c whole rest start left =
    goes_on (Reads c.args.name.now) _ left (search rules)

pub returns-in-Err-Memory-clause-carries : goal.returns-in-Err-Memory-clause-carries
returns-in-Err-Memory-clause-carries g c whole rest start left =
    (rest, goes_on (Reads c.args.name.now) _ left (search rules))
