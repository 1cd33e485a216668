-- Membership in a tree of set operations over leaves.
use Rattle.std.specs.Prelude.{Bool, true, false, not, ◌&&◌, ◌||◌, List, [], ◌∷◌, ℕ}
use Rattle.scad_geom.specs.declared.level.LeafEdge.{LeafEdge}
use Rattle.scad_geom.specs.declared.shape.Shape.{Shape, Empty, Leaf, Union', Inter', Diff', Row_of-Shape, end_of-Shape, more_of-Shape}
use Rattle.scad_geom.specs.Point.{Point}
use Rattle.scad_geom.specs.Segment.{segments}
use Rattle.scad_geom.specs.Winding.{wind_by}
use Rattle.scad_geom.specs.Leaves.{edges_of}
use Rattle.scad_geom.specs.Sign.{is_zero}

-- whether a shape holds a point that is inside these leaves. A union holds it where some member does, an intersection
-- where it has members and all do, a difference where the first does and none of the rest
abbrev mutual
  pub shape_holds : (ℕ → Bool) → Shape → Bool
  shape_holds inside Empty = false
  shape_holds inside (Leaf leaf) = inside leaf
  shape_holds inside (Union' list members) = some_hold inside members
  shape_holds inside (Inter' list members) = has_member members && all_hold inside members
  shape_holds inside (Diff' box first list rest) = shape_holds inside first && not (some_hold inside rest)

  pub some_hold : {m : _} → (ℕ → Bool) → Row_of-Shape m → Bool
  some_hold inside end_of-Shape = false
  some_hold inside (more_of-Shape member rest) = shape_holds inside member || some_hold inside rest

  pub all_hold : {m : _} → (ℕ → Bool) → Row_of-Shape m → Bool
  all_hold inside end_of-Shape = true
  all_hold inside (more_of-Shape member rest) = shape_holds inside member && all_hold inside rest

  pub has_member : {m : _} → Row_of-Shape m → Bool
  has_member end_of-Shape = false
  has_member (more_of-Shape member rest) = true

-- whether a shape over the leaves of an edge list holds what lies hard by a point. A leaf holds where the winding number
-- of its edges isn't 0
unfoldable pub is_in_by : Bool → Bool → List LeafEdge → Shape → Point → Bool
is_in_by above right edges shape p = shape_holds (λ leaf. not (is_zero (wind_by above right p (segments (edges_of leaf edges))))) shape

-- whether a shape holds a point: the nonzero winding rule for each leaf
unfoldable pub is_in : List LeafEdge → Shape → Point → Bool
is_in edges shape p = is_in_by true true edges shape p

-- the same of a list of members
abbrev pub any_holds : (ℕ → Bool) → List Shape → Bool
any_holds inside [] = false
any_holds inside (member ∷ rest) = shape_holds inside member || any_holds inside rest

abbrev pub all_holds : (ℕ → Bool) → List Shape → Bool
all_holds inside [] = true
all_holds inside (member ∷ rest) = shape_holds inside member && all_holds inside rest

abbrev pub has_items : List Shape → Bool
has_items [] = false
has_items (member ∷ rest) = true
