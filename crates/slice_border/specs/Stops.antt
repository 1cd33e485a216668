-- The stops of a level, in the order of the code: by x, each place once.
use Rattle.std.specs.Prelude.{Bool, List, [], ◌∷◌, map, ⊤}
use Rattle.std.specs.List.{AllByRecursion}
use Rattle.scad_geom.specs.Level.{IsAtMost}
use Rattle.slice_events.specs.Collection.{is_lower}
use Rattle.slice_pieces.specs.declared.piece.Spot.{Spot}
use Rattle.slice_border.specs.declared.stop.Stop.{Stop}
use Rattle.slice_border.specs.Pieces.{across, GoRight, HasSpot, IsOneOf}

abbrev pub spots_in : List Stop → List Spot
spots_in ss = map (λ s. s.spot) ss

-- whether the first of two spots at one height lies to the left
abbrev pub is_left : Spot → Spot → Bool
is_left s t = is_lower (across s) (across t)

-- none lies to the right of the next
abbrev pub AreSorted : List Spot → Type 0
AreSorted [] = ⊤
AreSorted (s ∷ []) = ⊤
AreSorted (s ∷ (t ∷ ss)) = IsAtMost (across s) (across t) × AreSorted (t ∷ ss)

-- the distinct ones of some spots, from left to right
pub record AreStopsOf (all stops : List Spot) : Type 0 where
  pub rightwards : GoRight stops
  pub sound : AllByRecursion (IsOneOf all) stops
  pub complete : AllByRecursion (HasSpot stops) all
