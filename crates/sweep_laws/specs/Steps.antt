-- One step of a sweep, from what is known at each place of a height.
use Rattle.std.specs.Prelude.{false, ◌≡◌, ⊤, List, [], ◌∷◌, All, pos, ◌<ℤ◌}
use Rattle.scad_geom.specs.declared.level.Level.{Level}
use Rattle.scad_geom.specs.declared.level.LeafEdge.{LeafEdge}
use Rattle.scad_geom.specs.declared.shape.Shape.{Shape}
use Rattle.scad_geom.specs.Level.{IsAtMost}
use Rattle.scad_geom.specs.Leaves.{AreLeavesBalanced}
use Rattle.scad_geom.specs.Heights.{heights, AreNeighbours}
use Rattle.slice_bundles.specs.Bundles.{AreBundles}
use Rattle.sweep_laws.specs.Fronts.{bundles_of, value_before, IsFront}
use Rattle.sweep_laws.specs.Crossing.{Place, all_below, all_above, ArePassed, IsCrossing}
use Rattle.sweep_laws.specs.Staying.{IsUncovered}
use Rattle.sweep_laws.specs.Stops.{AreMet}
use Rattle.sweep_laws.specs.Values.{AreNewValued}

-- to the right of each place from which no flat edge leads on, the strands below and above the height tell one value
abbrev pub AreAlikeBeside : List LeafEdge → List Place → Type 0
AreAlikeBeside es [] = ⊤
AreAlikeBeside es (p ∷ ps) = (IsUncovered es p ps → value_before (all_below ps) false
    ≡ value_before (all_above ps) false)
    × AreAlikeBeside es ps

-- ---- the laws
-- Where the edges of each leaf are balanced, a front is lifted over a height by places that its edges meet, with new
-- strands that have their values, if the ways pass at each place; that both sides tell one value may be used for
-- that. So it is at the first height, between two others, at the last, and where there is one alone.
pub record StepsLift : Type 0 where
  pub first : (es : List LeafEdge) (shape : Shape) → AreLeavesBalanced es → (m u : Level)
      → All (IsAtMost m) (heights es) → AreNeighbours es m u → (places : List Place) → all_below places ≡ []
      → AreBundles es m u (bundles_of (all_above places)) → AreMet es m places → AreNewValued es shape places
      → (AreAlikeBeside es places → ArePassed es m u [] places)
      → IsCrossing es m u [] (all_above places) places × IsFront es shape m u (all_above places)
  pub between : (es : List LeafEdge) (shape : Shape) → AreLeavesBalanced es → (l m u : Level) → AreNeighbours es l m
      → AreNeighbours es m u → (places : List Place) → IsFront es shape l m (all_below places)
      → AreBundles es m u (bundles_of (all_above places)) → AreMet es m places → AreNewValued es shape places
      → (AreAlikeBeside es places → ArePassed es m u [] places)
      → IsCrossing es m u (all_below places) (all_above places) places × IsFront es shape m u (all_above places)
  pub last : (es : List LeafEdge) (l m : Level) → AreNeighbours es l m → All (λ h. IsAtMost h m) (heights es)
      → (places : List Place) → AreBundles es l m (bundles_of (all_below places)) → all_above places ≡ []
      → AreMet es m places → ArePassed es m m [] places → IsCrossing es m m (all_below places) [] places
  pub only : (es : List LeafEdge) (m : Level) → pos 0 <ℤ m.d → All (IsAtMost m) (heights es)
      → All (λ h. IsAtMost h m) (heights es) → (places : List Place) → all_below places ≡ [] → all_above places ≡ []
      → AreMet es m places → ArePassed es m m [] places → IsCrossing es m m [] [] places
