-- When a plan is accepted, and when it is refused.
use Rattle.std.specs.Prelude.{◌≡◌, ◌≢◌, ◌⊎◌, ℕ, ◌<◌, ◌≤◌, List, ◌++◌, length}
use Rattle.scad_geom.specs.declared.point.Pt.{Pt}
use Rattle.slice_events.specs.Limits.{crossing_limit}
use Rattle.slice_events.specs.Levels.{crossings}
use Rattle.slice_border.specs.declared.fault.BoolFault.{BoolFault}
use Rattle.slice_border.specs.declared.fault.BoolFault.TheVariants.{Memory as NoMemory, Edges as ManyEdges}
use Rattle.slice_border.specs.declared.fault.BoolFault.TheVariants.{Crossings as ManyCrossings}
use Rattle.plan_walls.specs.Walls.{wall_edges}
use Rattle.plan_walls.specs.Refusal as of_walls
use Rattle.plan_walls.specs.Refusal.{wall_edge_limit}
use Rattle.scad_words.specs.declared.settings.Settings.{Settings}
use Rattle.plan_layer.specs.declared.fault.PlanFault.{PlanFault}
use Rattle.plan_layer.specs.declared.fault.PlanFault.TheVariants.{Memory, Edges, Crossings, Moves}
use Rattle.plan_layer.specs.Moves.{all_moves, move_limit}
use Rattle.plan_layer.specs.Plan.{distance, IsPlan}

-- the fault of a wall, as that of a plan
abbrev pub fault_of : BoolFault → PlanFault
fault_of NoMemory = Memory
fault_of (ManyEdges n) = Edges n
fault_of (ManyCrossings n) = Crossings n

-- the walls at a distance pass no limit
pub record IsWallAccepted (outlines : List (List Pt)) (c : ℕ) : Type 0 where
  pub few_edges : length (wall_edges c outlines) ≤ wall_edge_limit
  pub few_crossings : crossings (wall_edges c outlines) ≤ crossing_limit

-- the first n walls pass no limit
abbrev pub AreAccepted : List (List Pt) → ℕ → ℕ → Type 0
AreAccepted outlines width n = (k : ℕ) → k < n → IsWallAccepted outlines (distance width k)

-- a wall has this fault, and those outside of it have none
pub record IsWallRefused (outlines : List (List Pt)) (s : Settings) (fault : BoolFault) : Type 0 where
  pub wall : ℕ
  pub there : wall < s.walls
  pub accepted : AreAccepted outlines s.line_width wall
  pub refused : of_walls.IsRefusal (length (wall_edges (distance s.line_width wall) outlines)) wall_edge_limit
      (crossings (wall_edges (distance s.line_width wall) outlines)) fault

-- by the first wall that has a fault; want of memory may come before it is known
abbrev pub IsWallsRefusal : List (List Pt) → Settings → PlanFault → Type 0
IsWallsRefusal outlines s Memory = Unit {0}
IsWallsRefusal outlines s (Edges n) = IsWallRefused outlines s (ManyEdges n)
IsWallsRefusal outlines s (Crossings n) = IsWallRefused outlines s (ManyCrossings n)
IsWallsRefusal outlines s (Moves n) = ⊥

-- by the number of moves along paths, which passes the limit
abbrev pub IsManyMoves : List (List Pt) → PlanFault → Type 0
IsManyMoves paths Memory = Unit {0}
IsManyMoves paths (Edges n) = ⊥
IsManyMoves paths (Crossings n) = ⊥
IsManyMoves paths (Moves n) = (n ≡ length (all_moves paths)) × (move_limit < n)

-- the walls have no fault, but the plan has too many moves, those of its supports counted
pub record HasManyMoves (outlines : List (List Pt)) (layer : ℕ) (s : Settings) (supports : List (List Pt))
    (fault : PlanFault)
    : Type 0 where
  pub paths : List (List Pt)
  pub runs : ℕ
  pub plan : IsPlan outlines layer s paths runs
  pub accepted : AreAccepted outlines s.line_width s.walls
  pub many : IsManyMoves (paths ++ supports) fault

-- by the first wall that has a fault, then by the number of moves
abbrev pub IsRefusal : List (List Pt) → ℕ → Settings → List (List Pt) → PlanFault → Type 0
IsRefusal outlines layer s supports fault =
    IsWallsRefusal outlines s fault ⊎ HasManyMoves outlines layer s supports fault

-- paths, of which so many are runs of infill, are a plan that passes no limit with these supports
pub record IsAccepted (outlines : List (List Pt)) (layer : ℕ) (s : Settings) (supports paths : List (List Pt)) (runs : ℕ)
    : Type 0 where
  pub plan : IsPlan outlines layer s paths runs
  pub walls : AreAccepted outlines s.line_width s.walls
  pub moves : length (all_moves (paths ++ supports)) ≤ move_limit

-- a layer is refused by a fault that isn't want of memory
pub record IsRefused (outlines : List (List Pt)) (layer : ℕ) (s : Settings) (supports : List (List Pt)) (fault : PlanFault)
    : Type 0 where
  pub known : fault ≢ Memory
  pub refusal : IsRefusal outlines layer s supports fault
