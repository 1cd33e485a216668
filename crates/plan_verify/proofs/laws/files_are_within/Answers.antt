use Rattle.plan_verify.proofs.Files.{files_are_within}
use Rattle.plan_verify.proofs.laws.files_are_within.Goals as goal

pub returns : goal.returns
returns c = files_are_within
