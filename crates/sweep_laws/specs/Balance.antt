-- Balance at a height: what the edges to the right of a place sum up to below it and above it.
use Rattle.std.specs.Prelude.{◌≡◌, ⊤, true, List, [], ◌∷◌, ℕ, ◌<◌, ◌+ℤ◌, ◌*ℤ◌, int_lt}
use Rattle.std.specs.List.{AllByRecursion, concat}
use Rattle.scad_geom.specs.declared.level.Level.{Level}
use Rattle.scad_geom.specs.declared.level.LeafEdge.{LeafEdge}
use Rattle.scad_geom.specs.declared.shape.Shape.{Shape}
use Rattle.scad_geom.specs.Point.{Point}
use Rattle.scad_geom.specs.Heights.{AreNeighbours}
use Rattle.scad_geom.specs.Leaves.{AreLeavesBalanced}
use Rattle.slice_bundles.specs.Bundles.{AreBundles}
use Rattle.slice_pieces.specs.declared.piece.Spot.{Spot}
use Rattle.slice_pieces.specs.Spots.{point_of}
use Rattle.slice_border.specs.Tally.{headings}
use Rattle.slice_border.specs.Beside.{left_value, passing}
use Rattle.slice_border.specs.Pieces.{AreStops}
use Rattle.sweep_laws.specs.Fronts.{bundles_of}
use Rattle.sweep_laws.specs.Crossing.{Place, spots_of, all_below, all_above}
use Rattle.sweep_laws.specs.Staying.{IsUncovered}
use Rattle.sweep_laws.specs.Stops.{AreMet}

-- a flat edge at a point's height doesn't lead from the point, or from its left, to its right
abbrev pub StaysAside : Point → LeafEdge → Type 0
StaysAside p e = e.edge.a.y ≡ e.edge.b.y → e.edge.a.y *ℤ p.d ≡ p.y
    → int_lt p.x (e.edge.a.x *ℤ p.d) ≡ int_lt p.x (e.edge.b.x *ℤ p.d)

-- ---- the laws
-- Where the edges of each leaf are balanced and no flat edge leads from a spot of a height to its right, the headings
-- of each leaf's edges to the right of the spot have one sum below the height and above it.
abbrev pub HeadingsAreBalanced : Type 0
HeadingsAreBalanced =
    (es : List LeafEdge) → AreLeavesBalanced es → (l m u : Level) → AreNeighbours es l m → AreNeighbours es m u
    → (below above : List (List ℕ)) → AreBundles es l m below → AreBundles es m u above
    → (s : Spot) → s.at ≡ m → 0 < s.run → AllByRecursion (StaysAside (point_of s)) es → (leaf : ℕ)
    → headings es leaf (concat (passing es true (point_of s) below))
    ≡ headings es leaf (concat (passing es true (point_of s) above))

-- So a shape has one value there.
abbrev pub ValuesAreKept : Type 0
ValuesAreKept =
    (es : List LeafEdge) (shape : Shape) → AreLeavesBalanced es → (l m u : Level) → AreNeighbours es l m
    → AreNeighbours es m u
    → (below above : List (List ℕ)) → AreBundles es l m below → AreBundles es m u above
    → (s : Spot) → s.at ≡ m → 0 < s.run → AllByRecursion (StaysAside (point_of s)) es
    → left_value es shape (passing es true (point_of s) below)
    ≡ left_value es shape (passing es true (point_of s) above)

-- ---- at the places of a height
-- at each place from which no flat edge leads on, the headings to its right have one sum below the height and above it
abbrev pub AreBoundariesBalanced : List LeafEdge → List Place → Type 0
AreBoundariesBalanced es [] = ⊤
AreBoundariesBalanced es (p ∷ ps) = (IsUncovered es p ps → (leaf : ℕ)
    → headings es leaf (concat (bundles_of (all_below ps))) ≡ headings es leaf (concat (bundles_of (all_above ps))))
    × AreBoundariesBalanced es ps

-- So it is where the edges of each leaf are balanced and the places are the stops of the height.
abbrev pub BoundariesAreBalanced : Type 0
BoundariesAreBalanced =
    (es : List LeafEdge) → AreLeavesBalanced es → (l m u : Level) → AreNeighbours es l m → AreNeighbours es m u
    → (places : List Place) → AreBundles es l m (bundles_of (all_below places))
    → AreBundles es m u (bundles_of (all_above places)) → AreMet es m places → AreStops es m (spots_of places)
    → AreBoundariesBalanced es places

-- Where what lies to the right sums up alike, so does it with a bundle that stays: its value to the left is kept.
abbrev pub StayingValues : Type 0
StayingValues =
    (es : List LeafEdge) (shape : Shape) (b : List ℕ) (below above : List (List ℕ))
    → ((leaf : ℕ) → headings es leaf (concat below) ≡ headings es leaf (concat above))
    → left_value es shape (b ∷ below) ≡ left_value es shape (b ∷ above)

-- A bundle's headings and those of the bundles to its right add up.
abbrev pub HeadingsAdd : Type 0
HeadingsAdd = (es : List LeafEdge) (leaf : ℕ) (b : List ℕ) (bs : List (List ℕ))
    → headings es leaf (concat (b ∷ bs)) ≡ headings es leaf b +ℤ headings es leaf (concat bs)
