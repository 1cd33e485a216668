-- The levels of a list of edges: the distinct heights of their ends and meetings, ascending. And how many pairs cross.
use Rattle.std.specs.Prelude.{Bool, not, ◌&&◌, ◌||◌, List, [], ◌∷◌, ℕ, ◌+◌, ◌⊎◌, ⊤, pos, ◌<ℤ◌, count_by}
use Rattle.std.specs.List.{AllByRecursion}
use Rattle.scad_geom.specs.declared.point.Edge.{Edge}
use Rattle.scad_geom.specs.declared.level.Level.{Level}
use Rattle.scad_geom.specs.declared.level.LeafEdge.{LeafEdge}
use Rattle.scad_geom.specs.Point.{whole, is_same_point}
use Rattle.scad_geom.specs.Level.{IsLower, IsSameHeight}
use Rattle.scad_geom.specs.Meeting.{meets}
use Rattle.scad_geom.specs.Heights.{heights}

-- each lies below the next
abbrev pub IsRising : List Level → Type 0
IsRising [] = ⊤
IsRising (l ∷ []) = ⊤
IsRising (l ∷ (u ∷ ls)) = IsLower l u × IsRising (u ∷ ls)

-- some level of the list has this height
abbrev pub HasHeight : List Level → Level → Type 0
HasHeight [] h = ⊥
HasHeight (l ∷ ls) h = IsSameHeight l h ⊎ HasHeight ls h

-- the distinct heights of all ends, and of all points where two edges that aren't parallel meet, ascending
pub record AreLevels (edges : List LeafEdge) (levels : List Level) : Type 0 where
  pub divisors : AllByRecursion (λ l. pos 0 <ℤ l.d) levels
  pub rising : IsRising levels
  pub sound : AllByRecursion (HasHeight (heights edges)) levels
  pub complete : AllByRecursion (HasHeight levels) (heights edges)

-- whether an end of one edge is an end of the other
abbrev pub share_end : Edge → Edge → Bool
share_end e f = (is_same_point (whole e.a) (whole f.a) || is_same_point (whole e.a) (whole f.b))
    || (is_same_point (whole e.b) (whole f.a) || is_same_point (whole e.b) (whole f.b))

-- whether two edges that aren't parallel have a common point that isn't an end of both
abbrev pub crosses : Edge → Edge → Bool
crosses e f = meets e f && not (share_end e f)

-- how many pairs of edges cross
abbrev pub crossings : List LeafEdge → ℕ
crossings [] = 0
crossings (e ∷ es) = count_by (λ f. crosses e.edge f.edge) es + crossings es
