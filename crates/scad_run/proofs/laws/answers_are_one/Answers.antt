use Rattle.scad_run.proofs.Uniqueness as answered
use Rattle.scad_run.proofs.laws.answers_are_one.Goals as goal

pub returns-clause-there : goal.returns-clause-there
returns-clause-there c = answered.answers_are_there

pub returns-clause-one : goal.returns-clause-one
returns-clause-one c = answered.answers_are_one
