-- That a layer has walls, and a plan or a refusal.
use Rattle.std.specs.Prelude.{◌⊎◌, ℕ, List}
use Rattle.scad_geom.specs.declared.point.Pt.{Pt}
use Rattle.plan_walls.specs.Walls.{AreWalls}
use Rattle.scad_words.specs.declared.settings.Settings.{Settings}
use Rattle.plan_layer.specs.declared.fault.PlanFault.{PlanFault}
use Rattle.plan_layer.specs.Plan.{IsPlan}
use Rattle.plan_layer.specs.Refusal.{IsAccepted, IsRefused}

-- there are loops of the walls at a distance from outlines
pub record HasWalls (c : ℕ) (outlines : List (List Pt)) : Type 0 where
  pub loops : List (List Pt)
  pub are_walls : AreWalls c outlines loops

-- there is a plan of a layer, whatever its size
pub record HasPlan (outlines : List (List Pt)) (layer : ℕ) (s : Settings) : Type 0 where
  pub paths : List (List Pt)
  pub runs : ℕ
  pub is_plan : IsPlan outlines layer s paths runs

-- there is a plan that passes no limit
pub record HasAccepted (outlines : List (List Pt)) (layer : ℕ) (s : Settings) (supports : List (List Pt)) : Type 0 where
  pub paths : List (List Pt)
  pub runs : ℕ
  pub accepted : IsAccepted outlines layer s supports paths runs

-- there is a fault by which a layer is refused
pub record HasRefusal (outlines : List (List Pt)) (layer : ℕ) (s : Settings) (supports : List (List Pt)) : Type 0 where
  pub fault : PlanFault
  pub refused : IsRefused outlines layer s supports fault

-- ---- the laws
-- Outlines have walls at each distance.
abbrev pub WallsAreThere : Type 0
WallsAreThere = (c : ℕ) (outlines : List (List Pt)) → HasWalls c outlines

-- A layer has a plan over its outlines.
abbrev pub PlansAreThere : Type 0
PlansAreThere = (outlines : List (List Pt)) (layer : ℕ) (s : Settings) → HasPlan outlines layer s

-- With any supports it has one that passes no limit, or a fault by which it is refused.
abbrev pub PlansAreDecided : Type 0
PlansAreDecided =
    (outlines : List (List Pt)) (layer : ℕ) (s : Settings) (supports : List (List Pt))
    → HasAccepted outlines layer s supports ⊎ HasRefusal outlines layer s supports
