-- That a plan, and a refusal, leave nothing open.
use Rattle.std.specs.Prelude.{◌≡◌, ℕ, List, All}
use Rattle.scad_geom.specs.declared.point.Pt.{Pt}
use Rattle.scad_geom.specs.Limits.{point_limit}
use Rattle.scad_geom.specs.Within.{IsWithin}
use Rattle.scad_words.specs.declared.settings.Settings.{Settings}
use Rattle.scad_words.specs.Settings.{AreInRange}
use Rattle.plan_layer.specs.declared.fault.PlanFault.{PlanFault}
use Rattle.plan_layer.specs.Plan.{IsPlan}
use Rattle.plan_layer.specs.Refusal.{IsAccepted, IsRefused}

-- ---- the laws
-- A layer has one plan over its outlines, with one number of runs.
abbrev pub PlansAreOne : Type 0
PlansAreOne =
    (outlines : List (List Pt)) → All (λ l. All (IsWithin point_limit) l) outlines → (layer : ℕ) (s : Settings)
    → AreInRange s
    → (a b : List (List Pt)) (m n : ℕ) → IsPlan outlines layer s a m → IsPlan outlines layer s b n → (a ≡ b) × (m ≡ n)

-- With its supports it is refused by one fault.
abbrev pub RefusalsAreOne : Type 0
RefusalsAreOne =
    (outlines : List (List Pt)) → All (λ l. All (IsWithin point_limit) l) outlines → (layer : ℕ) (s : Settings)
    → AreInRange s
    → (supports : List (List Pt)) (a b : PlanFault) → IsRefused outlines layer s supports a
    → IsRefused outlines layer s supports b → a ≡ b

-- Where a plan passes no limit it isn't refused.
abbrev pub AcceptedIsNotRefused : Type 0
AcceptedIsNotRefused =
    (outlines : List (List Pt)) → All (λ l. All (IsWithin point_limit) l) outlines → (layer : ℕ) (s : Settings)
    → AreInRange s
    → (supports paths : List (List Pt)) (runs : ℕ) (fault : PlanFault) → IsAccepted outlines layer s supports paths runs
    → IsRefused outlines layer s supports fault → ⊥
