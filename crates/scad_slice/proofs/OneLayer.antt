-- A layer of a tree of solids is one, and so is its part.
use Rattle.std.proofs.Common.{◌≡◌, ℕ, List, Option, Some, None, Result, Ok, Err, sym, ap, ◌∙◌, subst}
use Rattle.std.specs.Prelude.{All, unwrap_or}
use Rattle.scad_fault.specs.declared.budget.Budget.{Budget}
use Rattle.scad_geom.specs.declared.point.Pt.{Pt}
use Rattle.scad_geom.specs.Limits.{point_limit}
use Rattle.scad_geom.specs.Within.{IsWithin}
use Rattle.scad_tree.specs.Solid.{Solid}
use Rattle.scad_tree.specs.Solids.{AreSolids}
use Rattle.scad_words.specs.declared.settings.Settings.{Settings}
use Rattle.scad_words.specs.Settings.{AreInRange}
use Rattle.slice_layer.proofs.Within.{outlines_are_within}
use Rattle.outline_laws.proofs.OneLayer.{layers_have_one_outlines}
use Rattle.plan_layer.proofs.OnePlan.{plans_are_one}
use Rattle.plan_layer.proofs.OneAnswer.{refusals_are_one, accepted_is_not_refused}
use Rattle.slice_work.specs.declared.want.Want.{Want}
use Rattle.slice_work.specs.declared.want.Want.TheVariants.{Outlines, Plan}
use Rattle.slice_work.specs.Part.{Layout}
use Rattle.plan_layer.specs.Refusal.{IsRefused}
use Rattle.scad_slice.specs.Budgets.{plan_budget}
use Rattle.scad_slice.specs.Supports.{AreSupportsOf}
use Rattle.scad_slice.specs.Layer.{IsRefusedBy, IsPlannedOver, IsLaidOut, IsLayerUnless, IsLayer}
use Rattle.scad_slice.specs.Laws.{PartsAreOne}
use Rattle.scad_slice.proofs.OneBudget.{supports_of_are_one, before_is_one}

-- what an option holds
one_held : (a b : Budget) → Some a ≡ Some b → a ≡ b
one_held a b same = ap (λ o. unwrap_or o a) same

-- ---- a plan over outlines
module _ (s : Settings) (tree : Solid) (i : ℕ) (outlines : List (List Pt)) (solids : AreSolids tree)
    (within : All (λ l. All (IsWithin point_limit) l) outlines) (range : AreInRange s) where
  planned_is_one : (a b : Layout) → IsPlannedOver outlines i s tree a → IsPlannedOver outlines i s tree b → a ≡ b
  planned_is_one a b of_a of_b =
      let loops : a.outlines ≡ b.outlines = of_a.outlines_are ∙ sym of_b.outlines_are in
      let plans =
      plans_are_one outlines within i s range a.paths b.paths a.runs b.runs of_a.accepted.plan of_b.accepted.plan in
      let supports : a.supports ≡ b.supports =
      supports_of_are_one s tree i solids outlines a.supports b.supports of_a.supports of_b.supports in
      λ k. record { outlines = loops k; paths = plans.0 k; runs = plans.1 k; supports = supports k }

  -- a refusal with the supports of another
  refused_with : (supports : List (List Pt)) (budget : Budget) (by : IsRefusedBy outlines i s tree budget)
      → AreSupportsOf s tree i outlines supports → IsRefused outlines i s supports by.fault
  refused_with supports budget by are =
      subst (λ (paths : List (List Pt)). IsRefused outlines i s paths by.fault)
      (supports_of_are_one s tree i solids outlines by.supports supports by.are_supports are) by.refused

  not_both : (layout : Layout) (budget : Budget) → IsPlannedOver outlines i s tree layout
      → IsRefusedBy outlines i s tree budget → ⊥
  not_both layout budget planned by =
      accepted_is_not_refused outlines within i s range layout.supports layout.paths layout.runs by.fault
      planned.accepted (refused_with layout.supports budget by planned.supports)

  refused_is_one : (a b : Budget) → IsRefusedBy outlines i s tree a → IsRefusedBy outlines i s tree b → a ≡ b
  refused_is_one a b by_a by_b =
      let fault : by_a.fault ≡ by_b.fault =
      refusals_are_one outlines within i s range by_a.supports by_a.fault by_b.fault by_a.refused
      (refused_with by_a.supports b by_b by_a.are_supports) in
      one_held a b (sym by_a.passed ∙ ap (plan_budget i) fault ∙ by_b.passed)

  -- what is wanted
  laid_out_is_one : (want : Want) (a b : Result Layout Budget) → IsLaidOut want s tree i outlines a
      → IsLaidOut want s tree i outlines b → a ≡ b
  laid_out_is_one Outlines a b is_a is_b = is_a ∙ sym is_b
  laid_out_is_one Plan (Ok a) (Ok b) of_a of_b = ap Ok (planned_is_one a b of_a of_b)
  laid_out_is_one Plan (Ok a) (Err b) of_a by_b = absurd (not_both a b of_a by_b)
  laid_out_is_one Plan (Err a) (Ok b) by_a of_b = absurd (not_both b a of_b by_a)
  laid_out_is_one Plan (Err a) (Err b) by_a by_b = ap Err (refused_is_one a b by_a by_b)

-- ---- a layer, by the budget that is passed before it
unless_is_one : (before : Option Budget) (want : Want) (s : Settings) (tree : Solid) (i : ℕ) → AreSolids tree
    → AreInRange s → (a b : Result Layout Budget) → IsLayerUnless before want s tree i a
    → IsLayerUnless before want s tree i b → a ≡ b
unless_is_one (Some budget) want s tree i solids range a b is_a is_b = is_a ∙ sym is_b
unless_is_one None want s tree i solids range a b (loops, of_loops, is_a) (others, of_others, is_b) =
    let same : others ≡ loops = layers_have_one_outlines i s.layer_height tree solids others loops of_others of_loops in
    laid_out_is_one s tree i loops solids (outlines_are_within i s.layer_height tree loops solids of_loops) range want
    a b is_a (subst (λ (ls : List (List Pt)). IsLaidOut want s tree i ls b) same is_b)

pub layer_is_one : (want : Want) (s : Settings) (tree : Solid) (i : ℕ) → AreSolids tree → AreInRange s
    → (a b : Result Layout Budget) → IsLayer want s tree i a → IsLayer want s tree i b → a ≡ b
layer_is_one want s tree i solids range a b is_a is_b =
    let same : is_b.before ≡ is_a.before =
    before_is_one s tree i solids want is_b.before is_a.before is_b.passed is_a.passed in
    unless_is_one is_a.before want s tree i solids range a b is_a.is
    (subst (λ (before : Option Budget). IsLayerUnless before want s tree i b) same is_b.is)

pub parts_are_one : PartsAreOne
parts_are_one want s tree a b solids range of_a of_b =
    λ k i. layer_is_one want s tree i solids range (a i) (b i) (of_a i) (of_b i) k
