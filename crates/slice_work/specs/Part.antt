-- What is drawn of a part, layer by layer.
use Rattle.std.specs.Prelude.{◌≡◌, ℕ, ◌-◌, List, [], drop, length, sum_by, Result, Ok, Err, All}
use Rattle.scad_fault.specs.declared.budget.Budget.{Budget}
use Rattle.scad_geom.specs.declared.point.Pt.{Pt}
use Rattle.scad_geom.specs.declared.point.Edge.{Edge}
use Rattle.scad_geom.specs.Limits.{coordinate_limit}
use Rattle.scad_geom.specs.Within.{IsWithin}
use Rattle.plan_layer.specs.Moves.{all_moves}
use Rattle.gcode_text.specs.Gcode.{Printed}
use Rattle.slice_work.specs.declared.want.Want.{Want}
use Rattle.slice_work.specs.declared.want.Want.TheVariants.{Outlines, Plan}
use Rattle.slice_work.specs.declared.layer.LayerEnd.{LayerEnd}
use Rattle.slice_work.specs.declared.layer.LayerEnd.TheVariants.{Made, Over}

-- a layer: its outlines, the paths along which it is printed, the last so many of which are runs of infill, and its
-- support runs as paths, none where none are wanted
pub record Layout : Type 0 where
  pub outlines : List (List Pt)
  pub paths : List (List Pt)
  pub runs : ℕ
  pub supports : List (List Pt)

-- the moves along the last so many of paths
abbrev pub last_moves : List (List Pt) → ℕ → List Edge
last_moves paths runs = all_moves (drop (length paths - runs) paths)

-- each layer is laid out so, or passes this budget
abbrev pub Part : Type 0
Part = ℕ → Result Layout Budget

-- the outlines of a layer, none where it passes a budget
abbrev pub outlines_of : Result Layout Budget → List (List Pt)
outlines_of (Ok layout) = layout.outlines
outlines_of (Err budget) = []

-- the hatches of a layer: the moves along its runs of infill, in their order and directions; none where it passes a
-- budget
abbrev pub hatches_of : Result Layout Budget → List Edge
hatches_of (Ok layout) = last_moves layout.paths layout.runs
hatches_of (Err budget) = []

abbrev pub nothing_printed : Printed
nothing_printed = record { paths = []; supports = [] }

-- what is printed of a layer: nothing where it passes a budget, and nothing where that isn't wanted
abbrev pub printed_of : Want → Result Layout Budget → Printed
printed_of Outlines layer = nothing_printed
printed_of Plan (Ok layout) = record { paths = layout.paths; supports = layout.supports }
printed_of Plan (Err budget) = nothing_printed

-- the moves along paths: one from each point to the next
abbrev pub move_count : List (List Pt) → ℕ
move_count paths = sum_by (λ path. length path - 1) paths

-- the work on a layer ends so
abbrev pub Ends : Result Layout Budget → LayerEnd → Type 0
Ends (Ok layout) (Made loops plan) =
    (loops.items ≡ layout.outlines) × (plan.paths.items ≡ layout.paths) × (plan.runs ≡ layout.runs)
    × (plan.supports.items ≡ layout.supports)
Ends (Ok layout) (Over passed) = ⊥
Ends (Err budget) (Made loops plan) = ⊥
Ends (Err budget) (Over passed) = passed ≡ budget

-- the outlines that it ends with lie within the limit of coordinates
abbrev pub EndsWithin : LayerEnd → Type 0
EndsWithin (Made loops plan) = All (λ l. All (IsWithin coordinate_limit) l) loops.items
EndsWithin (Over passed) = Unit {0}

-- a part has at most so many layers
abbrev pub layer_limit : ℕ
layer_limit = 20000
