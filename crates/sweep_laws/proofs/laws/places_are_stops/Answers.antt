use Rattle.sweep_laws.proofs.Stops.{places_are_stops, spots_are_there}
use Rattle.sweep_laws.proofs.laws.places_are_stops.Goals as goal

pub returns : goal.returns
returns c = record { stops = places_are_stops; spots = spots_are_there }
