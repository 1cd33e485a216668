-- The supports of a layer of a tree of solids, and the budget that is passed before it, are one.
use Rattle.std.proofs.Common.{◌≡◌, inl, inr, ◌+◌, ◌<◌, ℕ, List, [], ◌∷◌, Option, Some, None, sym, ap, ◌∙◌, subst, arith}
use Rattle.std.specs.Prelude.{drop}
use Rattle.scad_fault.specs.declared.budget.Budget.{Budget}
use Rattle.scad_geom.specs.declared.point.Pt.{Pt}
use Rattle.scad_tree.specs.Solid.{Solid}
use Rattle.scad_tree.specs.Solids.{AreSolids}
use Rattle.scad_words.specs.declared.settings.Settings.{Settings}
use Rattle.plan_support.specs.Covers.{run_count}
use Rattle.plan_support.specs.Rows.{Row}
use Rattle.support_laws.specs.Supports.{AreOverhung, AreSupportsBelow}
use Rattle.support_laws.proofs.One.{overhung_are_one, supports_are_one}
use Rattle.slice_work.specs.declared.want.Want.{Want}
use Rattle.slice_work.specs.declared.want.Want.TheVariants.{Outlines, Plan}
use Rattle.scad_slice.specs.Budgets.{layer_budget}
use Rattle.scad_slice.specs.Supports.{StandBelow, AreSupportsOf, first_of, outlines_budget, stretch_budget, IsStretchBudget, IsBudgetUnless, IsPassedBefore}
use Rattle.scad_slice.proofs.AllOutlines.{all_are_one}

-- a spacing isn't both 0 and more
never_both : (n : ℕ) → n ≡ 0 → 0 < n → ⊥
never_both n none some = omega (arith, none, some)

module _ (s : Settings) (tree : Solid) (i : ℕ) (solids : AreSolids tree) where
  -- ---- supports

  below_are_one : (outlines a b : List (List Pt)) → StandBelow s tree i outlines a → StandBelow s tree i outlines b
      → a ≡ b
  below_are_one outlines a b of_a of_b =
      let same : of_b.all ≡ of_a.all =
      all_are_one s.layer_height tree of_b.all of_a.all solids of_b.are_all of_a.are_all in
      supports_are_one (drop (i + 1) of_a.all) outlines s.support_spacing s.support_gap s.line_width a b of_a.are
      (subst (λ (all : List (List (List Pt))).
      AreSupportsBelow (drop (i + 1) all) outlines s.support_spacing s.support_gap s.line_width b) same of_b.are)

  pub supports_of_are_one : (outlines a b : List (List Pt)) → AreSupportsOf s tree i outlines a
      → AreSupportsOf s tree i outlines b → a ≡ b
  supports_of_are_one outlines a b (inl x) (inl y) = x.none ∙ sym y.none
  supports_of_are_one outlines a b (inl x) (inr y) = absurd (never_both s.support_spacing x.spacing y.spacing)
  supports_of_are_one outlines a b (inr x) (inl y) = absurd (never_both s.support_spacing y.spacing x.spacing)
  supports_of_are_one outlines a b (inr x) (inr y) = below_are_one outlines a b x y

  -- ---- budgets

  stretches_are_one : (a b : Option Budget) → IsStretchBudget s tree i a → IsStretchBudget s tree i b → a ≡ b
  stretches_are_one a b of_a of_b =
      let same : of_b.all ≡ of_a.all =
      all_are_one s.layer_height tree of_b.all of_a.all solids of_b.are_all of_a.are_all in
      let covers : of_a.covers ≡ of_b.covers =
      overhung_are_one of_a.all s.support_spacing of_a.covers of_b.covers of_a.overhung
      (subst (λ (all : List (List (List Pt))). AreOverhung all s.support_spacing of_b.covers) same of_b.overhung) in
      of_a.is
      ∙ ap (λ (cs : List (List Row)).
      first_of (stretch_budget (run_count cs) ∷ layer_budget s.layer_height tree i ∷ [])) covers
      ∙ sym of_b.is

  unless_one : (found a b : Option Budget) → IsBudgetUnless found s tree i a → IsBudgetUnless found s tree i b → a ≡ b
  unless_one (Some budget) a b is_a is_b = is_a ∙ sym is_b
  unless_one None a b is_a is_b = stretches_are_one a b is_a is_b

  pub before_is_one : (want : Want) (a b : Option Budget) → IsPassedBefore want s tree i a
      → IsPassedBefore want s tree i b → a ≡ b
  before_is_one Outlines a b is_a is_b = is_a ∙ sym is_b
  before_is_one Plan a b (inl x) (inl y) = x.is ∙ sym y.is
  before_is_one Plan a b (inl x) (inr y) = absurd (never_both s.support_spacing x.spacing y.spacing)
  before_is_one Plan a b (inr x) (inl y) = absurd (never_both s.support_spacing y.spacing x.spacing)
  before_is_one Plan a b (inr x) (inr y) = unless_one (outlines_budget s.layer_height tree) a b x.is y.is
