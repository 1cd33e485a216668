-- What is drawn of a tree by settings: each of its layers.
use Rattle.std.specs.Prelude.{◌≡◌, ◌<◌, ◌+◌, ◌*◌, ℕ, List, map, Ok}
use Rattle.std.specs.List.{range_with_len}
use Rattle.scad_tree.specs.Solid.{Solid}
use Rattle.scad_words.specs.declared.settings.Settings.{Settings}
use Rattle.cli_text.specs.Cli.{Layer}
use Rattle.gcode_text.specs.Gcode.{Printed}
use Rattle.slice_work.specs.declared.want.Want.{Want}
use Rattle.slice_work.specs.declared.want.Want.TheVariants.{Plan}
use Rattle.slice_work.specs.Part.{Layout, Part, outlines_of, hatches_of, printed_of}
use Rattle.scad_slice.specs.Layer.{IsLayer}

-- Each layer is the tree's. A tree of solids has a part, and by settings in range one (the laws).
abbrev pub IsPart : Want → Settings → Solid → Part → Type 0
IsPart want s tree part = (i : ℕ) → IsLayer want s tree i (part i)

-- none of the first n layers passes a budget
abbrev pub AreMade : Part → ℕ → Type 0
AreMade part n = (i : ℕ) → i < n → (layout : Layout) × (part i ≡ Ok layout)

-- a layer with the height of its upper surface in micrometres, its outlines, and its infill as hatches
abbrev pub layer_at : ℕ → Part → ℕ → Layer
layer_at h part i = record { z = h * (i + 1); loops = outlines_of (part i); hatches = hatches_of (part i) }

-- the first n layers
abbrev pub layers_of : ℕ → Part → ℕ → List Layer
layers_of h part n = map (layer_at h part) (range_with_len 0 n)

-- what is printed of the first n layers
abbrev pub plans_of : Part → ℕ → List Printed
plans_of part n = map (λ i. printed_of Plan (part i)) (range_with_len 0 n)
