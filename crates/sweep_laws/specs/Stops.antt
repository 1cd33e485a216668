-- When places are the stops of a height: each is met by an edge, and each edge that meets the
-- height does so at one of them.
use Rattle.std.specs.Prelude.{◌≡◌, true, List, ℕ, ◌<◌, length, All, pos, ◌<ℤ◌}
use Rattle.std.specs.List.{AllByRecursion}
use Rattle.scad_geom.specs.declared.level.Level.{Level}
use Rattle.scad_geom.specs.declared.level.LeafEdge.{LeafEdge}
use Rattle.scad_geom.specs.Level.{IsAtMost}
use Rattle.scad_geom.specs.Heights.{heights, AreNeighbours}
use Rattle.slice_bundles.specs.Bundles.{edge_at, AreBundles}
use Rattle.slice_border.specs.Pieces.{spot_on, whole_spot, is_flat_at, passes_at, spots_at, GoRight, HasSpot, IsOneOf, AreStops}
use Rattle.sweep_laws.specs.Fronts.{bundles_of}
use Rattle.sweep_laws.specs.Crossing.{Place, spots_of, all_below, all_above, MeetsAt}

-- places from left to right, each where an edge meets the height; the ends of flat edges are among
-- them, and each strand is at its place
pub record AreMet (es : List LeafEdge) (m : Level) (places : List Place) : Type 0 where
  pub rightwards : GoRight (spots_of places)
  pub sound : AllByRecursion (IsOneOf (spots_at es m)) (spots_of places)
  pub flats : AllByRecursion (λ e. is_flat_at e.edge m ≡ true
      → HasSpot (spots_of places) (whole_spot e.edge.a.x m) × HasSpot (spots_of places) (whole_spot e.edge.b.x m)) es
  pub below : AllByRecursion (λ p. AllByRecursion (λ s. MeetsAt es m p.at s.bundle) p.below) places
  pub above : AllByRecursion (λ p. AllByRecursion (λ s. MeetsAt es m p.at s.bundle) p.above) places

-- ---- the laws
-- Such places are all stops of the height, where their strands are the bundles below the height and above it; nothing
-- lies below the first height and above the last.
pub record PlacesAreStops : Type 0 where
  pub between : (es : List LeafEdge) (l m u : Level) (places : List Place) → AreNeighbours es l m → AreNeighbours es m u
      → AreBundles es l m (bundles_of (all_below places)) → AreBundles es m u (bundles_of (all_above places))
      → AreMet es m places → AreStops es m (spots_of places)
  pub first : (es : List LeafEdge) (m u : Level) (places : List Place) → All (IsAtMost m) (heights es)
      → AreNeighbours es m u → AreBundles es m u (bundles_of (all_above places))
      → AreMet es m places → AreStops es m (spots_of places)
  pub last : (es : List LeafEdge) (l m : Level) (places : List Place) → AreNeighbours es l m
      → All (λ h. IsAtMost h m) (heights es) → AreBundles es l m (bundles_of (all_below places))
      → AreMet es m places → AreStops es m (spots_of places)
  pub only : (es : List LeafEdge) (m : Level) (places : List Place) → pos 0 <ℤ m.d → All (IsAtMost m) (heights es)
      → All (λ h. IsAtMost h m) (heights es) → AreMet es m places → AreStops es m (spots_of places)

-- Where an edge that isn't flat meets a height is one of the height's spots.
abbrev pub SpotsAreThere : Type 0
SpotsAreThere = (es : List LeafEdge) (m : Level) (k : ℕ) → k < length es → passes_at (edge_at es k) m ≡ true
    → IsOneOf (spots_at es m) (spot_on (edge_at es k) m)
