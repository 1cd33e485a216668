-- A layer of a tree by settings: its outlines and, where it is wanted, the plan over them with its supports, or the
-- first budget that is passed. With supports that may be one for all layers, so that none is written.
use Rattle.std.specs.Prelude.{◌≡◌, ℕ, List, [], Option, Some, None, Result, Ok, Err}
use Rattle.scad_fault.specs.declared.budget.Budget.{Budget}
use Rattle.scad_geom.specs.declared.point.Pt.{Pt}
use Rattle.scad_tree.specs.Solid.{Solid}
use Rattle.scad_words.specs.declared.settings.Settings.{Settings}
use Rattle.slice_layer.specs.Outlines.{AreLayerOutlines}
use Rattle.plan_layer.specs.declared.fault.PlanFault.{PlanFault}
use Rattle.plan_layer.specs.Refusal.{IsAccepted, IsRefused}
use Rattle.slice_work.specs.declared.want.Want.{Want}
use Rattle.slice_work.specs.declared.want.Want.TheVariants.{Outlines, Plan}
use Rattle.slice_work.specs.Part.{Layout}
use Rattle.scad_slice.specs.Budgets.{plan_budget}
use Rattle.scad_slice.specs.Supports.{AreSupportsOf, IsPassedBefore}

-- the plan of layer i over its outlines is refused by this budget
pub record IsRefusedBy (outlines : List (List Pt)) (i : ℕ) (s : Settings) (tree : Solid) (budget : Budget)
    : Type 0 where
  pub supports : List (List Pt)
  pub are_supports : AreSupportsOf s tree i outlines supports
  pub fault : PlanFault
  pub refused : IsRefused outlines i s supports fault
  pub passed : plan_budget i fault ≡ Some budget

-- a layout of layer i has these outlines, its supports and the plan over them
pub record IsPlannedOver (outlines : List (List Pt)) (i : ℕ) (s : Settings) (tree : Solid) (layout : Layout)
    : Type 0 where
  pub outlines_are : layout.outlines ≡ outlines
  pub supports : AreSupportsOf s tree i outlines layout.supports
  pub accepted : IsAccepted outlines i s layout.supports layout.paths layout.runs

-- what is wanted of layer i over its outlines
abbrev pub IsLaidOut : Want → Settings → Solid → ℕ → List (List Pt) → Result Layout Budget → Type 0
IsLaidOut Outlines s tree i outlines layer =
    layer ≡ Ok (record { outlines = outlines; paths = []; runs = 0; supports = [] })
IsLaidOut Plan s tree i outlines (Ok layout) = IsPlannedOver outlines i s tree layout
IsLaidOut Plan s tree i outlines (Err budget) = IsRefusedBy outlines i s tree budget

-- what is wanted of layer i of a tree, unless a budget is passed before
abbrev pub IsLayerUnless : Option Budget → Want → Settings → Solid → ℕ → Result Layout Budget → Type 0
IsLayerUnless (Some budget) want s tree i layer = layer ≡ Err budget
IsLayerUnless None want s tree i layer =
    (outlines : List (List Pt)) × AreLayerOutlines i s.layer_height tree outlines
    × IsLaidOut want s tree i outlines layer

-- layer i of a tree
pub record IsLayer (want : Want) (s : Settings) (tree : Solid) (i : ℕ) (layer : Result Layout Budget) : Type 0 where
  pub before : Option Budget
  pub passed : IsPassedBefore want s tree i before
  pub is : IsLayerUnless before want s tree i layer

-- a layer of a tree can be laid out within the limits
abbrev pub IsWithinLimits : Want → Settings → Solid → ℕ → Type 0
IsWithinLimits want settings tree i = (layout : Layout) × IsLayer want settings tree i (Ok layout)
