-- Where the files of a tree end by a budget: before its layer, or, where it is that of all layers, before the first.
use Rattle.std.proofs.Common.{◌≡◌, ◌⊎◌, inl, inr, ◌<◌, ℕ, zero, suc, Some, Ok, Err, refl, sym, ◌∙◌, arith}
use Rattle.scad_fault.specs.declared.budget.Budget.{Budget}
use Rattle.scad_fault.specs.declared.budget.BudgetKind.{BudgetKind}
use Rattle.scad_words.specs.declared.settings.Settings.{Settings as SettingsOfRun}
use Rattle.scad_words.specs.Settings.{AreInRange}
use Rattle.scad_tree.specs.Solid.{Solid}
use Rattle.scad_tree.specs.Solids.{AreSolids}
use Rattle.slice_work.specs.declared.want.Want.{Want}
use Rattle.slice_work.specs.declared.want.Want.TheVariants.{Outlines as OutlinesAlone, Plan as WithPlan}
use Rattle.slice_work.specs.Part.{Part}
use Rattle.scad_slice.specs.Parts.{IsPart, AreMade}
use Rattle.scad_slice.specs.Supports.{PassesOfAll, IsPassedBefore}
use Rattle.scad_slice.proofs.ScriptCourse.{IsKind, IsKindOfAll, IsOfLayer, IsOfAll, budget_of_layer, passed_by_all}
use Rattle.scad_run.specs.Promises.{IsOfLayers}
use Rattle.scad_run.specs.Cut.{EndsAt}

-- the kind of the budget, and where the files end by it
pub record IsPlaced (want : Want) (s : SettingsOfRun) (tree : Solid) (budget : Budget) (layer : ℕ) : Type 0 where
  pub kind : IsOfLayers budget.kind
  pub ends : EndsAt want s tree budget layer

of_layer_kind : (want : Want) (kind : BudgetKind) → IsKind want kind → IsOfLayers kind
of_layer_kind OutlinesAlone kind (inl edges) = inl edges
of_layer_kind OutlinesAlone kind (inr crossed) = inr (inl crossed)
of_layer_kind WithPlan kind (inl edges) = inl edges
of_layer_kind WithPlan kind (inr (inl crossed)) = inr (inl crossed)
of_layer_kind WithPlan kind (inr (inr moves)) = inr (inr (inl moves))

of_all_kind : (kind : BudgetKind) → IsKindOfAll kind → IsOfLayers kind
of_all_kind kind (inl edges) = inl edges
of_all_kind kind (inr (inl crossed)) = inr (inl crossed)
of_all_kind kind (inr (inr runs)) = inr (inr (inr runs))

module _ (s : SettingsOfRun) (tree : Solid) (budget : Budget) where
  -- a layer's own budget
  at_own : (want : Want) (layer : ℕ) → IsOfLayer want layer budget → IsPlaced want s tree budget layer
  at_own OutlinesAlone layer own = record {
    kind = of_layer_kind OutlinesAlone budget.kind own.kind;
    ends = sym own.layer;
  }
  at_own WithPlan layer own = record {
    kind = of_layer_kind WithPlan budget.kind own.kind;
    ends = inl (sym own.layer);
  }

  -- what is passed before each layer is passed with supports
  of_all : (layer : ℕ) → 0 < s.support_spacing → IsPassedBefore WithPlan s tree layer (Some budget)
      → PassesOfAll s tree layer (Some budget)
  of_all layer spaced (inl own) = let none = own.spacing in absurd (omega (arith, none, spaced))
  of_all layer spaced (inr all) = all

  module _ (part : Part) (solids : AreSolids tree) (range : AreInRange s) where
    -- no layer is made where all pass a budget
    none_made : IsPart WithPlan s tree part → IsOfAll WithPlan s tree budget → (layer : ℕ) → AreMade part layer
        → layer ≡ 0
    none_made is_part is zero made = refl
    none_made is_part is (suc n) made =
        let layout = made 0 (omega arith) in
        let passed = passed_by_all WithPlan s tree part budget solids range is_part is.passed 0 in
        let both : Ok layout.0 ≡ Err budget = sym layout.1 ∙ passed in
        let never : ⊥ = cc in
        absurd never

    at_first : (want : Want) (layer : ℕ) → IsPart want s tree part → AreMade part layer → IsOfAll want s tree budget
        → IsPlaced want s tree budget layer
    at_first OutlinesAlone layer is_part made is =
        let other : OutlinesAlone ≡ WithPlan = is.plan in let never : ⊥ = cc in absurd never
    at_first WithPlan layer is_part made is = record {
      kind = of_all_kind budget.kind is.kind;
      ends = inr (none_made is_part is layer made, of_all layer is.spacing (is.passed layer));
    }

    pub placed : (want : Want) (layer : ℕ) → IsPart want s tree part → AreMade part layer → part layer ≡ Err budget
        → IsPlaced want s tree budget layer
    placed want layer is_part made passed = by_budget (budget_of_layer want s tree part layer budget is_part passed)
      where
        by_budget : IsOfLayer want layer budget ⊎ IsOfAll want s tree budget → IsPlaced want s tree budget layer
        by_budget (inl own) = at_own want layer own
        by_budget (inr is) = at_first want layer is_part made is
