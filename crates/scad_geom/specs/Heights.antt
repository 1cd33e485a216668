-- The heights at which the order of edges may change: those of their ends and of the points where two meet.
use Rattle.std.specs.Prelude.{if◌then◌else◌, List, [], ◌∷◌, ◌++◌, ◌⊎◌, pos, ◌<ℤ◌, All}
use Rattle.scad_geom.specs.declared.point.Edge.{Edge}
use Rattle.scad_geom.specs.declared.level.Level.{Level}
use Rattle.scad_geom.specs.declared.level.LeafEdge.{LeafEdge}
use Rattle.scad_geom.specs.Level.{level_of, IsLower, IsAtMost}
use Rattle.scad_geom.specs.Meeting.{meets, meeting}

-- the heights at which an edge meets those of a list that aren't parallel to it
abbrev pub meetings : Edge → List LeafEdge → List Level
meetings e [] = []
meetings e (f ∷ fs) = if meets e f.edge then meeting e f.edge ∷ meetings e fs else meetings e fs

-- the heights of all ends, and of all points where two edges that aren't parallel meet, in any order and with repeats
abbrev pub heights : List LeafEdge → List Level
heights [] = []
heights (e ∷ es) = level_of e.edge.a.y ∷ level_of e.edge.b.y ∷ (meetings e.edge es ++ heights es)

-- two heights, the first below the second, with no height of the edges between them
pub record AreNeighbours (edges : List LeafEdge) (lower upper : Level) : Type 0 where
  pub lower_divisor : pos 0 <ℤ lower.d
  pub upper_divisor : pos 0 <ℤ upper.d
  pub in_order : IsLower lower upper
  pub between : All (λ h. IsAtMost h lower ⊎ IsAtMost upper h) (heights edges)
