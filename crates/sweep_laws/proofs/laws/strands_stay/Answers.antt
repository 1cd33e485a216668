use Rattle.sweep_laws.proofs.Staying.{strands_stay, plain_places_pass}
use Rattle.sweep_laws.proofs.laws.strands_stay.Goals as goal

pub returns : goal.returns
returns c = record { stay = strands_stay; plain = plain_places_pass }
