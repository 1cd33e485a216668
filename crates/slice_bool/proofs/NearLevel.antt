-- What holds of a level holds of its stops.
use Rattle.std.proofs.Common.{List, [], ◌∷◌, sym, subst}
use Rattle.std.specs.List.{All, AllByRecursion}
use Rattle.std.proofs.lemmas.List.Elements.{All-from_recursion}
use Rattle.scad_geom.specs.declared.level.Level.{Level}
use Rattle.scad_geom.specs.declared.level.LeafEdge.{LeafEdge}
use Rattle.slice_border.specs.declared.stop.Stop.{Stop}
use Rattle.slice_border.specs.Pieces.{AreStops}
use Rattle.slice_border.specs.Stops.{spots_in}
use Rattle.slice_border.proofs.Winding.{IsSpotAt, stops_at}

pub all_at : (P : Level → Type 0) (es : List LeafEdge) (at : Level) (stops : List Stop)
    → AreStops es at (spots_in stops) → P at → All (λ s. P s.spot.at) stops
all_at P es at stops h n = All-from_recursion (λ s. P s.spot.at) stops (each stops (stops_at es at (spots_in stops) h))
  where
    each : (ss : List Stop) → AllByRecursion (IsSpotAt at) (spots_in ss) → AllByRecursion (λ s. P s.spot.at) ss
    each [] h = tt
    each (s ∷ ss) h = (subst P (sym h.0.at) n, each ss h.1)
