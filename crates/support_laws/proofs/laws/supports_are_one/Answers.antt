use Rattle.support_laws.proofs.There.{supports_are_there}
use Rattle.support_laws.proofs.One.{supports_are_one}
use Rattle.support_laws.proofs.laws.supports_are_one.Goals as goal

pub returns : goal.returns
returns c = record { there = supports_are_there; one = supports_are_one }
