-- What is read, as it is seen.
use Rattle.std.specs.Prelude.{ℕ, List, ◌∷◌, ◌++◌, map, Option, Some, None}
use Rattle.cli_text.specs.Cli.{Layer}
use Rattle.scad_geom.specs.declared.point.Pt.{Pt}
use Rattle.scad_geom.specs.declared.point.Edge.{Edge}
use Rattle.cli_read.specs.Reading.{Geometry}
use Rattle.cli_read.specs.declared.geometry.Building.{Building}
use Rattle.cli_read.specs.declared.layers.Cli.{Cli}
use Rattle.cli_read.specs.declared.layers.CliLayer.{CliLayer}

abbrev pub layer_of : CliLayer → Layer
layer_of layer = record { z = layer.z; loops = layer.loops; hatches = layer.hatches }

-- the layers of a list
abbrev pub seen : List CliLayer → List Layer
seen layers = map layer_of layers

abbrev pub layers_of : Cli → List Layer
layers_of cli = seen cli.layers

-- whole layers, the layer of the last height with outlines and hatches of its own and those of what is behind, and the
-- layers there
abbrev pub with_last : List Layer → Option ℕ → List (List Pt) → List Edge → Geometry → List Layer
with_last whole None outlines hatches more = whole ++ more.layers
with_last whole (Some z) outlines hatches more =
    whole ++ record { z = z; loops = outlines ++ more.outlines; hatches = hatches ++ more.hatches } ∷ more.layers

-- the layers that are read so far, with what stands behind
abbrev pub built : Building → Geometry → List Layer
built b more = with_last (seen b.whole.items) b.last b.outlines.items b.hatches.items more
