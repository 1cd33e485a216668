-- A front lifted over a height: the places of the height from left to right, with the strands that come to each from
-- below and those that leave it upwards, and the ways that end there.
use Rattle.std.specs.Prelude.{Bool, false, ◌≡◌, List, [], ◌∷◌, ◌++◌, map, ℕ, Option, None, Some}
use Rattle.std.specs.List.{AllByRecursion, position}
use Rattle.scad_geom.specs.declared.level.Level.{Level}
use Rattle.scad_geom.specs.declared.level.LeafEdge.{LeafEdge}
use Rattle.slice_bundles.specs.Bundles.{edge_at}
use Rattle.slice_pieces.specs.declared.piece.Spot.{Spot}
use Rattle.slice_border.specs.Pieces.{spot_on, IsSameAcross, AreStops, covers}
use Rattle.sweep_laws.specs.Ways.{Way, way_between}
use Rattle.sweep_laws.specs.Visits.{Pass, Visit}
use Rattle.sweep_laws.specs.Fronts.{Strand, value_before, ways_up, ways_from}

-- a place, the strands below and above it, where the way along the height to its right began, and
-- the ways that end there
pub record Place : Type 0 where
  pub at : Spot
  pub below : List Strand
  pub above : List Strand
  pub start : Spot
  pub closed : List Way

abbrev pub spots_of : List Place → List Spot
spots_of ps = map (λ p. p.at) ps

abbrev pub all_below : List Place → List Strand
all_below [] = []
all_below (p ∷ ps) = p.below ++ all_below ps

abbrev pub all_above : List Place → List Strand
all_above [] = []
all_above (p ∷ ps) = p.above ++ all_above ps

abbrev pub all_closed : List Place → List Way
all_closed [] = []
all_closed (p ∷ ps) = p.closed ++ all_closed ps

-- ---- along the height
-- the way from a spot to the next place, where an edge covers the stretch and the values above and below differ
abbrev pub way_along : Bool → Bool → Spot → Spot → Option ℕ → List Way
way_along above below s t None = []
way_along above below s t (Some name) = way_between above below s t name

abbrev pub flat_way : List LeafEdge → Spot → Place → List Place → List Way
flat_way es start p [] = []
flat_way es start p (q ∷ ps) = way_along (value_before (all_above (q ∷ ps)) false)
    (value_before (all_below (q ∷ ps)) false)
    start q.at (position (covers p.at q.at) es)

-- ---- at a place, with the places to its right
abbrev pub ins_to : List LeafEdge → Level → List Way → Place → List Place → List Way
ins_to es l flat p ps = ways_up es l (value_before (all_below ps) false) p.below ++ flat

abbrev pub outs_from : List LeafEdge → Level → Level → Place → List Place → List Way
outs_from es l u p ps = ways_from es l u (value_before (all_above ps) false) p.above ++ flat_way es p.at p ps

-- those that are open then
abbrev pub opens_after : List LeafEdge → Level → Place → List Place → List Way
opens_after es u p ps = ways_up es u (value_before (all_above ps) false) p.above ++ flat_way es p.start p ps

abbrev pub visits_at : List LeafEdge → Level → Level → List Place → List Visit
visits_at es l u [] = []
visits_at es l u (p ∷ ps) = record { at = p.at; outs = outs_from es l u p ps } ∷ visits_at es l u ps

-- each place in its turn, with the way along the height that comes to the first
abbrev pub ArePassed : List LeafEdge → Level → Level → List Way → List Place → Type 0
ArePassed es l u flat [] = flat ≡ []
ArePassed es l u flat (p ∷ ps) = Pass (ins_to es l flat p ps) (outs_from es l u p ps) (opens_after es u p ps) p.closed
    × ArePassed es l u (flat_way es p.start p ps) ps

-- ---- a crossing
-- the edges of a bundle meet the height at a spot, by its first
abbrev pub MeetsAt : List LeafEdge → Level → Spot → List ℕ → Type 0
MeetsAt es l s [] = ⊥
MeetsAt es l s (k ∷ ks) = IsSameAcross (spot_on (edge_at es k) l) s

-- the front below a height, that above it up to the next, and the places between them
pub record IsCrossing (es : List LeafEdge) (l u : Level) (below above : List Strand)
    (places : List Place) : Type 0 where
  pub stops : AreStops es l (spots_of places)
  pub below_is : below ≡ all_below places
  pub above_is : above ≡ all_above places
  pub meet_below : AllByRecursion (λ p. AllByRecursion (λ s. MeetsAt es l p.at s.bundle) p.below) places
  pub meet_above : AllByRecursion (λ p. AllByRecursion (λ s. MeetsAt es l p.at s.bundle) p.above) places
  pub passed : ArePassed es l u [] places
