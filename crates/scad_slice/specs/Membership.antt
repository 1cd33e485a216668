-- The layers that were written hold what the tree contains, and lie near to its border.
use Rattle.std.specs.Prelude.{◌≡◌, ◌<◌, ◌≤◌, ◌+◌, ◌*◌, ℕ, false, List, length, IsSomeAnd, slice_get}
use Rattle.scad_geom.specs.Point.{Point}
use Rattle.scad_tree.specs.Solid.{Solid}
use Rattle.scad_tree.specs.Containment.{contained_at}
use Rattle.slice_layer.specs.Membership.{HoldCentres}
use Rattle.slice_layer.specs.Border.{AreNearSectionBorder}
use Rattle.cli_text.specs.Cli.{Layer}
use Rattle.scad_slice.specs.Budgets.{layer_count}

-- layer i: its upper surface; at each cell centre that is clear of the tree's exact cuts by one micrometre, outlines
-- that wind once round the centre where the tree contains it, and not at all elsewhere; and each point of each side of
-- these less than one micrometre along both axes from the border of the tree's section
pub record IsLayerOf (h : ℕ) (tree : Solid) (i : ℕ) (layer : Layer) : Type 0 where
  pub z : layer.z ≡ h * (i + 1)
  pub centres : HoldCentres i h tree layer.loops
  pub near : AreNearSectionBorder i h tree layer.loops

-- there are as many layers as the tree has, each is one of it, and from their number on the tree contains no point
pub record HoldTree (h : ℕ) (tree : Solid) (layers : List Layer) : Type 0 where
  pub number : length layers ≡ layer_count h tree
  pub each : (i : ℕ) → i < length layers → IsSomeAnd (slice_get layers i) (IsLayerOf h tree i)
  pub above : (i : ℕ) (q : Point) → length layers ≤ i → contained_at i h q tree ≡ false
