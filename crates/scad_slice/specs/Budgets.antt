-- The layers of a tree, what is counted of them, and the budgets that they may pass; h is the height of a layer in
-- micrometres.
use Rattle.std.specs.Prelude.{ℕ, Option, Some, None, length, nat_lt, if◌then◌else◌}
use Rattle.scad_fault.specs.declared.budget.Budget.{Budget}
use Rattle.scad_fault.specs.declared.budget.BudgetKind.TheVariants.{Layers, LayerEdges, LayerCrossings, LayerMoves}
use Rattle.scad_fault.specs.Place.{no_place}
use Rattle.slice_events.specs.Limits.{crossing_limit}
use Rattle.slice_events.specs.Levels.{crossings}
use Rattle.scad_tree.specs.Solid.{Solid}
use Rattle.scad_tree.specs.Height.{layers}
use Rattle.scad_tree.specs.Sections.{tree_section}
use Rattle.plan_layer.specs.declared.fault.PlanFault.{PlanFault}
use Rattle.plan_layer.specs.declared.fault.PlanFault.TheVariants.{Memory, Edges, Crossings, Moves}

-- how many layers a tree has
abbrev pub layer_count : ℕ → Solid → ℕ
layer_count h tree = layers tree h

-- a layer's section has at most so many edges
abbrev pub edge_limit : ℕ
edge_limit = 20000

-- more layers than the limit
abbrev pub layers_passed : ℕ → Budget
layers_passed count = record { kind = Layers; at = no_place; layer = 0; count = count }

-- more edges at a layer than the limit
abbrev pub edges_passed : ℕ → ℕ → Budget
edges_passed layer count = record { kind = LayerEdges; at = no_place; layer = layer; count = count }

-- more crossings of edges at a layer than the limit
abbrev pub crossings_passed : ℕ → ℕ → Budget
crossings_passed layer count = record { kind = LayerCrossings; at = no_place; layer = layer; count = count }

-- more moves of a layer than the limit
abbrev pub moves_passed : ℕ → ℕ → Budget
moves_passed layer count = record { kind = LayerMoves; at = no_place; layer = layer; count = count }

-- the budget that a layer passes whose section has so many edges and crossings; the edges are judged first
abbrev pub budget_passed : ℕ → ℕ → ℕ → Option Budget
budget_passed layer edges crossed =
    if nat_lt edge_limit edges then Some (edges_passed layer edges)
    else if nat_lt crossing_limit crossed then Some (crossings_passed layer crossed)
    else None

-- the budget that the outlines of a tree's layer pass, if any
unfoldable pub layer_budget : ℕ → Solid → ℕ → Option Budget
layer_budget h tree layer =
    let section = tree_section layer h tree in
    budget_passed layer (length section) (crossings section)

-- the budget that a layer passes whose plan has this fault; want of memory is none
abbrev pub plan_budget : ℕ → PlanFault → Option Budget
plan_budget layer Memory = None
plan_budget layer (Edges count) = Some (edges_passed layer count)
plan_budget layer (Crossings count) = Some (crossings_passed layer count)
plan_budget layer (Moves count) = Some (moves_passed layer count)
