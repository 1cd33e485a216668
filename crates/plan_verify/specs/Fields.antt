-- Layers whose sides lie in an index.
use Rattle.std.specs.Prelude.{◌≡◌, ◌<◌, ◌^◌, ◌/◌, ℕ, List, length, flat_map, pos, All}
use Rattle.std.specs.List.{Any}
use Rattle.scad_geom.specs.declared.point.Pt.{Pt}
use Rattle.scad_geom.specs.Limits.{coordinate_limit}
use Rattle.scad_geom.specs.Within.{IsEdgeWithin}
use Rattle.scad_geom.specs.Loop.{sides}
use Rattle.gcode_text.specs.declared.machine.Move.{Move}
use Rattle.cli_read.specs.declared.layers.CliLayer.{CliLayer}
use Rattle.plan_verify.specs.declared.field.Field.{Field}
use Rattle.plan_verify.specs.Index.{sides_in, IsBoxed}
use Rattle.plan_verify.specs.Stays.{KeepsClear, from_above}

-- the sides of layers are within the limit of coordinates
abbrev pub AreSidesWithin : List CliLayer → Type 0
AreSidesWithin layers = All (λ l. All (IsEdgeWithin coordinate_limit) (flat_map sides l.loops)) layers

-- an index is what its search takes it for
pub record IsSound (f : Field) : Type 0 where
  pub boxed : IsBoxed f.sides
  pub within : All (IsEdgeWithin coordinate_limit) (sides_in f.sides)
  pub few : length (sides_in f.sides) < 2 ^ 63
  pub outlines : List (List Pt)
  pub closed : sides_in f.sides ≡ flat_map sides outlines

-- a layer's index
pub record IsFieldOf (layer : CliLayer) (f : Field) : Type 0 where
  pub z : f.z ≡ layer.z
  pub sides : sides_in f.sides ≡ flat_map sides layer.loops
  pub sound : IsSound f

-- the same of a layer's index as of the layer
pub record IsInField (width : ℕ) (m : Move) (f : Field) : Type 0 where
  pub height : pos f.z ≡ m.from.z
  pub clear : KeepsClear (sides_in f.sides) (width / 2) (from_above m)

pub record StaysInFields (fields : List Field) (width : ℕ) (m : Move) : Type 0 where
  pub level : m.from.z ≡ m.to.z
  pub field : Any (IsInField width m) fields
