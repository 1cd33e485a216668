-- What a level asks of its sweep, and the spots that it passes.
use Rattle.std.specs.Prelude.{true, ◌≡◌, ◌⊎◌, ◌<◌, ◌^◌, ◌≤ℤ◌, ⊤, List, [], ◌∷◌, ℕ, length}
use Rattle.std.specs.List.{AllByRecursion, AllZip}
use Rattle.scad_geom.specs.declared.level.Level.{Level}
use Rattle.scad_geom.specs.declared.level.LeafEdge.{LeafEdge}
use Rattle.slice_bundles.specs.Bundles.{edge_at}
use Rattle.slice_pieces.specs.declared.piece.Spot.{Spot}
use Rattle.slice_pieces.specs.Spots.{point_of}
use Rattle.slice_sweep.specs.declared.change.Change.{Change}
use Rattle.slice_sweep.specs.Changes.{Group, Tell, AreGroups, all_below, all_above}
use Rattle.slice_sweep.specs.Front.{bundles_in}
use Rattle.slice_border.specs.Beside.{AreMembers, left_value, passing}
use Rattle.slice_border.specs.Pieces.{whole_spot, is_flat_at, spots_at, GoRight, HasSpot, IsOneOf}
use Rattle.sweep_laws.specs.Fronts.{bundles_of, AreValued}
use Rattle.sweep_laws.specs.Balance.{StaysAside}
use Rattle.slice_outlines.specs.declared.mark.Mark.{Mark}
use Rattle.slice_outlines.specs.declared.flat.Flat.{Flat}
use Rattle.slice_outlines.specs.declared.cursors.Cursors.{Cursors}
use Rattle.slice_outlines.specs.declared.height.Height.{Height}
use Rattle.slice_outlines.specs.Above.{AreTaken}
use Rattle.slice_outlines.specs.Marks.{IsNamed}
use Rattle.slice_outlines.specs.Stops.{AllPass}
use Rattle.slice_outlines.specs.Flats.{IsFlatOf, LiesOn}
use Rattle.slice_outlines.specs.Cursors.{StandForSome}
use Rattle.slice_outlines.specs.Heights.{Onwards}

-- the flat edge of a number is among these
abbrev pub HasNumber : List Flat → ℕ → Type 0
HasNumber [] k = ⊥
HasNumber (f ∷ fs) k = (f.number ≡ k) ⊎ HasNumber fs k

-- flat edges by their left ends
abbrev pub GoByLeft : List Flat → Type 0
GoByLeft [] = ⊤
GoByLeft (f ∷ fs) = AllByRecursion (λ g. f.left ≤ℤ g.left) fs × GoByLeft fs

-- all flat edges of a height, from left to right
pub record AreFlatsOn (es : List LeafEdge) (l : Level) (fs : List Flat) : Type 0 where
  pub each : AllByRecursion (IsFlatOf es) fs
  pub on : AllByRecursion (LiesOn l) fs
  pub rightwards : GoByLeft fs
  pub all : (k : ℕ) → k < length es → is_flat_at (edge_at es k) l ≡ true → HasNumber fs k

-- changes tell of the groups of a height: those of the strands below it, of whose marks these above it are taken, and
-- of the front above, on which cursors stand; and all its flat edges are at hand
pub record IsAtLevel (h : Height) (ms : List Mark) (cs : List Change) (fs : List Flat) (c : Cursors) : Type 0 where
  pub groups : List Group
  pub are_groups : AreGroups h.edges.now h.at.now groups
  pub told : Tell 0 cs groups
  pub taken : AreTaken 0 cs groups h.below.now ms
  pub above : all_above groups ≡ bundles_in h.front.now
  pub named_below : AllZip (λ m b. IsNamed m.name b) h.below.now (all_below groups)
  pub named_above : AllZip (λ m b. IsNamed m.name b) ms (all_above groups)
  pub few_below : length (all_below groups) < 2 ^ 32
  pub few_above : length (all_above groups) < 2 ^ 32
  pub members : AreMembers h.edges.now (bundles_in h.front.now)
  pub stands : StandForSome h.edges.now (bundles_in h.front.now) c
  pub pass_below : AllPass h.edges.now h.at.now h.below.now
  pub pass_above : AllPass h.edges.now h.at.now ms
  pub flats : AreFlatsOn h.edges.now h.at.now fs

-- the strands below a height are those of its groups and have the shape's values, and to the right of each spot from
-- which no flat edge leads on there is one value below it and above it
pub record IsValuedAt (on : Onwards) (gs : List Group) : Type 0 where
  pub below : bundles_of on.below ≡ all_below gs
  pub values : AreValued on.height.edges.now on.shape on.below
  pub balanced : (s : Spot) → s.at ≡ on.height.at.now → 0 < s.run
      → AllByRecursion (StaysAside (point_of s)) on.height.edges.now
      → left_value on.height.edges.now on.shape (passing on.height.edges.now true (point_of s) (bundles_of on.below))
      ≡ left_value on.height.edges.now on.shape
      (passing on.height.edges.now true (point_of s) (bundles_in on.height.front.now))

-- spots from left to right at which edges meet a height, the ends of these flat edges among them
pub record AreSpotsOf (h : Height) (fs : List Flat) (spots : List Spot) : Type 0 where
  pub rightwards : GoRight spots
  pub sound : AllByRecursion (IsOneOf (spots_at h.edges.now h.at.now)) spots
  pub flats : AllByRecursion (λ f. HasSpot spots (whole_spot f.left h.at.now)
      × HasSpot spots (whole_spot f.right h.at.now)) fs
