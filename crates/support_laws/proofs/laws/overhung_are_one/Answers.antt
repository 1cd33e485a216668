use Rattle.support_laws.proofs.There.{overhung_are_there}
use Rattle.support_laws.proofs.One.{overhung_are_one}
use Rattle.support_laws.proofs.laws.overhung_are_one.Goals as goal

pub returns : goal.returns
returns c = record { there = overhung_are_there; one = overhung_are_one }
