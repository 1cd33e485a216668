-- A cursor: the headings of the strands from its place on, leaf by leaf.
use Rattle.std.specs.Prelude.{Bool, ◌≡◌, ◌≤◌, ◌<◌, ◌+◌, ◌^◌, ◌*ℤ◌, ⊤, List, [], ◌∷◌, ◌++◌, ℕ, length, drop, All}
use Rattle.std.specs.List.{concat}
use Rattle.std.specs.Ordering.{int_eq}
use Rattle.scad_geom.specs.declared.point.Edge.{Edge}
use Rattle.scad_geom.specs.declared.level.Level.{Level}
use Rattle.scad_geom.specs.declared.level.LeafEdge.{LeafEdge}
use Rattle.scad_geom.specs.declared.shape.Shape.{Shape}
use Rattle.scad_geom.specs.Line.{rise, x_at}
use Rattle.slice_bundles.specs.Bundles.{edge_at}
use Rattle.slice_bundles.specs.KeptOrder.{IsSamePlaceAt}
use Rattle.slice_sweep.specs.declared.change.Change.{Change}
use Rattle.slice_sweep.specs.Changes.{Group, Tell, all_below, all_above}
use Rattle.slice_outlines.specs.declared.mark.Mark.{Mark}
use Rattle.slice_outlines.specs.declared.cursor.Cursor.{Cursor}
use Rattle.slice_outlines.specs.declared.flat.Flat.{Flat}
use Rattle.slice_outlines.specs.Marks.{mark_at, spot_at}
use Rattle.slice_outlines.specs.Flats.{LiesAside}
use Rattle.slice_border.specs.Keeping.{Tells}

-- a cursor on these bundles
pub record StandsOn (es : List LeafEdge) (shape : Shape) (bundles : List (List ℕ)) (c : Cursor) : Type 0 where
  pub there : c.at ≤ length bundles
  pub tells : Tells es shape (concat (drop c.at bundles)) c.tally

-- it is one of some shape
pub record Stands (es : List LeafEdge) (bundles : List (List ℕ)) (c : Cursor) : Type 0 where
  pub shape : Shape
  pub on : StandsOn es shape bundles c

-- where one stood on these bundles, so does the other
abbrev pub StaysOn : List LeafEdge → List (List ℕ) → Cursor → Cursor → Type 0
StaysOn es bundles c d = (shape : Shape) → StandsOn es shape bundles c → StandsOn es shape bundles d

-- whether two edges pass a height at one place
abbrev pub is_same_place : Level → Edge → Edge → Bool
is_same_place at e f = int_eq (x_at e at.n at.d *ℤ rise f) (x_at f at.n at.d *ℤ rise e)

-- the strands on both sides of a place don't meet at a height
abbrev pub IsApartAt : List LeafEdge → Level → List Mark → ℕ → Type 0
IsApartAt es l ms n = (i : ℕ) → i + 1 ≡ n → n < length ms
    → IsSamePlaceAt l (edge_at es (mark_at ms i).name) (edge_at es (mark_at ms n).name) → ⊥

-- so it is, and these flat edges of the height lie aside of the next strand
pub record IsClearAt (es : List LeafEdge) (l : Level) (ms : List Mark) (fs : List Flat) (n : ℕ) : Type 0 where
  pub apart : IsApartAt es l ms n
  pub aside : n < length ms → All (LiesAside l (spot_at es l (mark_at ms n))) fs

-- strands come to the first of these groups from below
abbrev pub IsMetFromBelow : List Group → Type 0
IsMetFromBelow [] = ⊤
IsMetFromBelow (g ∷ gs) = g.below ≡ [] → ⊥

-- a place among the strands below a height is between two groups of it, and the other is that place above it; groups
-- there that no strand comes to from below lie to the left
pub record IsShifted (gs : List Group) (below above : ℕ) : Type 0 where
  pub left : List Group
  pub right : List Group
  pub groups : gs ≡ left ++ right
  pub lower : length (all_below left) ≡ below
  pub upper : length (all_above left) ≡ above
  pub next : IsMetFromBelow right

-- a place is between two groups that changes tell of
abbrev pub Fit : List Group → ℕ → Type 0
Fit gs n = (left : List Group) × (right : List Group) × (gs ≡ left ++ right) × (length (all_below left) ≡ n)

-- the changes tell of groups, not too many to be counted, and a place is between two of them
pub record CanShift (cs : List Change) (place : ℕ) : Type 0 where
  pub groups : List Group
  pub told : Tell 0 cs groups
  pub fits : Fit groups place
  pub few_below : length (all_below groups) < 2 ^ 32
  pub few_above : length (all_above groups) < 2 ^ 32
