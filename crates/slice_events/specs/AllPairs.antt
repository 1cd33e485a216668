-- What is known when all pairs of edges were compared.
use Rattle.std.specs.Prelude.{◌≡◌, ◌≤◌, ◌⊎◌, List, []}
use Rattle.std.specs.List.{AllByRecursion}
use Rattle.scad_geom.specs.declared.level.Level.{Level}
use Rattle.scad_geom.specs.declared.level.LeafEdge.{LeafEdge}
use Rattle.scad_geom.specs.Heights.{heights}
use Rattle.slice_events.specs.declared.comparison.Found.{Found}
use Rattle.slice_events.specs.Limits.{crossing_limit}
use Rattle.slice_events.specs.Levels.{HasHeight, crossings}
use Rattle.slice_events.specs.Boxes.{comparisons}
use Rattle.slice_events.specs.Collection.{levels_in, end_levels}

-- nothing was found yet
pub record IsEmpty (found : Found) : Type 0 where
  pub tests : found.tests ≡ 0
  pub count : found.count ≡ 0
  pub levels : levels_in found.heights.items ≡ []

-- each is a height of the edges, and the other heights are those of ends
pub record AreOtherHeights (edges : List LeafEdge) (levels : List Level) : Type 0 where
  pub sound : AllByRecursion (HasHeight (heights edges)) levels
  pub complete : AllByRecursion (λ h. HasHeight (end_levels edges) h ⊎ HasHeight levels h) (heights edges)

-- all pairs were compared, and the heights that aren't those of ends are known where no more cross than is allowed
pub record IsFoundOf (edges : List LeafEdge) (found : Found) : Type 0 where
  pub tests : found.tests ≡ comparisons edges
  pub count : found.count ≡ crossings edges
  pub levels : found.count ≤ crossing_limit → AreOtherHeights edges (levels_in found.heights.items)
