-- The supports of a tree's layers by settings, and the budgets that a print with supports is judged by before its first
-- layer.
use Rattle.std.specs.Prelude.{◌≡◌, ◌⊎◌, ◌+◌, ◌<◌, ℕ, List, [], ◌∷◌, Option, Some, None, length, drop, slice_index_or, map, min, nat_lt, if◌then◌else◌}
use Rattle.std.specs.List.{range_with_len}
use Rattle.scad_fault.specs.declared.budget.Budget.{Budget}
use Rattle.scad_fault.specs.declared.budget.BudgetKind.TheVariants.{SupportRuns}
use Rattle.scad_fault.specs.Place.{no_place}
use Rattle.scad_geom.specs.declared.point.Pt.{Pt}
use Rattle.scad_tree.specs.Solid.{Solid}
use Rattle.scad_words.specs.declared.settings.Settings.{Settings}
use Rattle.slice_layer.specs.Outlines.{AreLayerOutlines}
use Rattle.plan_support.specs.Covers.{run_count, stretch_limit}
use Rattle.plan_support.specs.Lines.{greatest_count}
use Rattle.plan_support.specs.Rows.{Row}
use Rattle.support_laws.specs.Supports.{AreOverhung, AreSupportsBelow}
use Rattle.slice_work.specs.declared.want.Want.{Want}
use Rattle.slice_work.specs.declared.want.Want.TheVariants.{Outlines, Plan}
use Rattle.scad_slice.specs.Budgets.{layer_count, layer_budget}

-- the outlines of all layers of a tree, from the lowest upwards
pub record AreAllOutlines (h : ℕ) (tree : Solid) (all : List (List (List Pt))) : Type 0 where
  pub number : length all ≡ layer_count h tree
  pub each : (n : ℕ) → n < length all → AreLayerOutlines n h tree (slice_index_or all n [])

-- ---- support runs

-- without support lines there are none,
pub record AreNone (s : Settings) (supports : List (List Pt)) : Type 0 where
  pub spacing : s.support_spacing ≡ 0
  pub none : supports ≡ []

-- with them they stand below what any higher layer has
pub record StandBelow (s : Settings) (tree : Solid) (i : ℕ) (outlines supports : List (List Pt)) : Type 0 where
  pub spacing : 0 < s.support_spacing
  pub all : List (List (List Pt))
  pub are_all : AreAllOutlines s.layer_height tree all
  pub are : AreSupportsBelow (drop (i + 1) all) outlines s.support_spacing s.support_gap s.line_width supports

-- the support runs of layer i of a tree over its outlines
abbrev pub AreSupportsOf : Settings → Solid → ℕ → List (List Pt) → List (List Pt) → Type 0
AreSupportsOf s tree i outlines supports = AreNone s supports ⊎ StandBelow s tree i outlines supports

-- ---- budgets

abbrev pub first_of : List (Option Budget) → Option Budget
first_of [] = None
first_of (None ∷ rest) = first_of rest
first_of (Some budget ∷ rest) = Some budget

-- the budget of the least layer whose outlines pass one
abbrev pub outlines_budget : ℕ → Solid → Option Budget
outlines_budget h tree = first_of (map (layer_budget h tree) (range_with_len 0 (layer_count h tree)))

-- more stretches below higher layers than the limit
abbrev pub stretches_passed : ℕ → Budget
stretches_passed count = record { kind = SupportRuns; at = no_place; layer = 0; count = count }

-- the budget that so many stretches pass; a number that passes 64 bits is told as the greatest
abbrev pub stretch_budget : ℕ → Option Budget
stretch_budget count = if nat_lt stretch_limit count then Some (stretches_passed (min count greatest_count)) else None

-- The budget that the stretches of support lines below higher layers pass, those of all layers counted; and then that
-- of the outlines of layer i itself. Of the tree's layers none passes one here, so it is left for those above them.
pub record IsStretchBudget (s : Settings) (tree : Solid) (i : ℕ) (passed : Option Budget) : Type 0 where
  pub all : List (List (List Pt))
  pub are_all : AreAllOutlines s.layer_height tree all
  pub covers : List (List Row)
  pub overhung : AreOverhung all s.support_spacing covers
  pub is : passed ≡ first_of (stretch_budget (run_count covers) ∷ layer_budget s.layer_height tree i ∷ [])

abbrev pub IsBudgetUnless : Option Budget → Settings → Solid → ℕ → Option Budget → Type 0
IsBudgetUnless (Some budget) s tree i passed = passed ≡ Some budget
IsBudgetUnless None s tree i passed = IsStretchBudget s tree i passed

-- without supports a layer passes the budget of its own outlines,
pub record PassesOwn (s : Settings) (tree : Solid) (i : ℕ) (passed : Option Budget) : Type 0 where
  pub spacing : s.support_spacing ≡ 0
  pub is : passed ≡ layer_budget s.layer_height tree i

-- with supports each layer that of all: the outlines of all layers are judged before the first is written, and then the
-- stretches
pub record PassesOfAll (s : Settings) (tree : Solid) (i : ℕ) (passed : Option Budget) : Type 0 where
  pub spacing : 0 < s.support_spacing
  pub is : IsBudgetUnless (outlines_budget s.layer_height tree) s tree i passed

-- the budget, if any, that is passed before what is wanted of layer i over its outlines
abbrev pub IsPassedBefore : Want → Settings → Solid → ℕ → Option Budget → Type 0
IsPassedBefore Outlines s tree i passed = passed ≡ layer_budget s.layer_height tree i
IsPassedBefore Plan s tree i passed = PassesOwn s tree i passed ⊎ PassesOfAll s tree i passed
