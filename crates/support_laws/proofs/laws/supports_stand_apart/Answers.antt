use Rattle.support_laws.proofs.SupportClearance.{supports_stand_apart, supports_have_lengths, supports_lie_within}
use Rattle.support_laws.proofs.laws.supports_stand_apart.Goals as goal

pub returns : goal.returns
returns c = record {
  apart = supports_stand_apart;
  lengths = supports_have_lengths;
  within = supports_lie_within;
}
