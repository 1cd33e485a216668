-- The places of a height, from left to right: the bundles that wait at each, and those that leave it upwards.
use Rattle.std.specs.Prelude.{true, not, List, [], ◌∷◌, ◌++◌, map, filter, ℕ, ◌≡◌, pos, ◌<ℤ◌, ◌*ℤ◌, take, drop}
use Rattle.std.specs.List.{AllByRecursion}
use Rattle.scad_geom.specs.declared.point.Edge.{Edge}
use Rattle.scad_geom.specs.declared.level.Level.{Level}
use Rattle.scad_geom.specs.declared.level.LeafEdge.{LeafEdge}
use Rattle.scad_geom.specs.Line.{low, rise}
use Rattle.slice_bundles.specs.Bundles.{no_edge, edge_at}
use Rattle.slice_bundles.specs.KeptOrder.{IsLeftAt, IsSamePlaceAt}
use Rattle.slice_sweep.specs.declared.change.Change.{Change}
use Rattle.slice_sweep.specs.declared.strand.Strand.{Strand}
use Rattle.slice_sweep.specs.Keys.{stale}
use Rattle.slice_sweep.specs.Chains.{Chain, Joins}
use Rattle.slice_sweep.specs.Strands.{bundles_of, head}
use Rattle.slice_sweep.specs.Changes.{Group, all_at, Tell, has_started}

pub record Place : Type 0 where
  pub waiting : List (List ℕ)
  pub leaving : List (List ℕ)

abbrev pub all_waiting : List Place → List (List ℕ)
all_waiting [] = []
all_waiting (p ∷ ps) = p.waiting ++ all_waiting ps

abbrev pub all_leaving : List Place → List (List ℕ)
all_leaving [] = []
all_leaving (p ∷ ps) = p.leaving ++ all_leaving ps

-- a place stands where the first edge of the first bundle that waits there does
abbrev pub edge_of : List LeafEdge → List (List ℕ) → Edge
edge_of edges [] = no_edge.edge
edge_of edges (b ∷ bs) = head edges b

-- the first edge of a bundle rises, and meets a height where another edge does
abbrev pub MeetsWith : List LeafEdge → Level → Edge → List ℕ → Type 0
MeetsWith edges at e b = (pos 0 <ℤ rise (head edges b)) × IsSamePlaceAt at e (head edges b)

-- of some bundles, those that were there below the height
abbrev pub came_from_below : List LeafEdge → Level → List (List ℕ) → List (List ℕ)
came_from_below edges at bs = filter (λ b. not (has_started edges at b)) bs

abbrev pub group_of : List LeafEdge → Level → Place → Group
group_of edges at p = record { below = came_from_below edges at p.waiting; above = p.leaving }

abbrev pub groups_of : List LeafEdge → Level → List Place → List Group
groups_of edges at ps = map (group_of edges at) ps

pub record IsPlace (edges : List LeafEdge) (at : Level) (p : Place) : Type 0 where
  pub rises : pos 0 <ℤ rise (edge_of edges p.waiting)
  pub waiting : AllByRecursion (MeetsWith edges at (edge_of edges p.waiting)) p.waiting
  pub leaving : AllByRecursion (MeetsWith edges at (edge_of edges p.waiting)) p.leaving
  pub some : all_at (group_of edges at p) ≡ [] → ⊥

abbrev pub LiesBefore : List LeafEdge → Level → Place → Place → Type 0
LiesBefore edges at p q = IsLeftAt at (edge_of edges p.waiting) (edge_of edges q.waiting)

-- the places at which bundles wait and from which others leave
pub record ArePlaces (edges : List LeafEdge) (at : Level) (waiting leaving : List (List ℕ)) (places : List Place) : Type 0 where
  pub waiting_is : waiting ≡ all_waiting places
  pub leaving_is : leaving ≡ all_leaving places
  pub each : AllByRecursion (IsPlace edges at) places
  pub from_left : Chain (LiesBefore edges at) places

-- the place of a strand that goes on as it is
abbrev pub place_of : Strand → Place
place_of s = record { waiting = s.bundle ∷ []; leaving = s.bundle ∷ [] }

-- the edge of a number starts at the height
abbrev pub StartsAt : List LeafEdge → Level → ℕ → Type 0
StartsAt edges at k = (low (edge_at edges k)).y *ℤ at.d ≡ at.n

-- a strand that starts at the height has no key
abbrev pub StartsKeyless : List LeafEdge → Level → Strand → Type 0
StartsKeyless edges at s = has_started edges at s.bundle ≡ true → s.wake ≡ stale

-- the first so many strands leave their places, and to the right of these the others wait; the changes tell of these
-- places
pub record ArePlacedTo (edges : List LeafEdge) (at : Level) (n : ℕ) (old new : List Strand) (cs : List Change) : Type 0 where
  pub places : List Place
  pub are : ArePlaces edges at (all_waiting places) (bundles_of (take n new)) places
  pub old_is : bundles_of old ≡ all_waiting places ++ bundles_of (drop n new)
  pub beside : Joins (LiesBefore edges at) places (map place_of (drop n new))
  pub told : Tell 0 cs (groups_of edges at places)
  pub keyless : AllByRecursion (StartsKeyless edges at) new
