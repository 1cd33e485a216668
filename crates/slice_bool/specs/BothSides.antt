-- The shape's values above and below a level, by the bundles between it and its neighbours.
use Rattle.std.specs.Prelude.{Bool, true, false, List, [], ◌∷◌, ◌≡◌}
use Rattle.std.specs.List.{AllByRecursion}
use Rattle.scad_geom.specs.declared.level.Level.{Level}
use Rattle.scad_geom.specs.declared.level.LeafEdge.{LeafEdge}
use Rattle.scad_geom.specs.declared.shape.Shape.{Shape}
use Rattle.slice_bool.specs.declared.beside.Valued.{Valued}
use Rattle.slice_bool.specs.declared.beside.Sides.{Sides}
use Rattle.slice_bool.specs.LeftValues.{AreLeftValues}
use Rattle.slice_border.specs.Beside.{RisesFirst, TellBeside}

-- bundles on one side of a level, with the values to their left
pub record IsSide (above : Bool) (edges : List LeafEdge) (shape : Shape) (at : Level) (v : Valued) : Type 0 where
  pub values : AreLeftValues edges shape v.bundles.items v.values.items
  pub firsts : AllByRecursion (RisesFirst edges) v.bundles.items
  pub tell : TellBeside above edges shape at v.bundles.items

-- those on both sides
pub record AreSides (edges : List LeafEdge) (shape : Shape) (at : Level) (sides : Sides) : Type 0 where
  pub below : IsSide false edges shape at sides.below.now
  pub above : IsSide true edges shape at sides.above.now

-- no bundles
pub record IsNothing (v : Valued) : Type 0 where
  pub bundles : v.bundles.items ≡ []
  pub values : v.values.items ≡ false ∷ []
