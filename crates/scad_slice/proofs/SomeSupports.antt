-- A layer of a tree of solids has supports, and a budget that is passed before it or none.
use Rattle.std.proofs.Common.{◌≡◌, ◌⊎◌, inl, inr, refl, ◌+◌, ◌<◌, ℕ, zero, suc, List, [], Option, Some, None, arith}
use Rattle.std.specs.Prelude.{drop}
use Rattle.scad_fault.specs.declared.budget.Budget.{Budget}
use Rattle.scad_geom.specs.declared.point.Pt.{Pt}
use Rattle.scad_tree.specs.Solid.{Solid}
use Rattle.scad_tree.specs.Solids.{AreSolids}
use Rattle.scad_words.specs.declared.settings.Settings.{Settings}
use Rattle.support_laws.proofs.There.{overhung_are_there, supports_are_there}
use Rattle.slice_work.specs.declared.want.Want.{Want}
use Rattle.slice_work.specs.declared.want.Want.TheVariants.{Outlines, Plan}
use Rattle.scad_slice.specs.Supports.{AreSupportsOf, outlines_budget, IsBudgetUnless, IsPassedBefore}
use Rattle.scad_slice.proofs.AllOutlines.{all_are_there}

-- a number is 0 or more
none_or_some : (n : ℕ) → (n ≡ 0) ⊎ (0 < n)
none_or_some zero = inl refl
none_or_some (suc n) = inr (omega arith)

module _ (s : Settings) (tree : Solid) (i : ℕ) (solids : AreSolids tree) where
  -- ---- supports

  supports_by : (outlines : List (List Pt)) → (s.support_spacing ≡ 0) ⊎ (0 < s.support_spacing)
      → (supports : List (List Pt)) × AreSupportsOf s tree i outlines supports
  supports_by outlines (inl none) = ([], inl (record { spacing = none; none = refl }))
  supports_by outlines (inr some) =
      let all = all_are_there s.layer_height tree solids in
      let has =
      supports_are_there (drop (i + 1) all.0) outlines s.support_spacing s.support_gap s.line_width some in
      (has.paths, inr (record { spacing = some; all = all.0; are_all = all.1; are = has.are_supports }))

  pub supports_are : (outlines : List (List Pt))
      → (supports : List (List Pt)) × AreSupportsOf s tree i outlines supports
  supports_are outlines = supports_by outlines (none_or_some s.support_spacing)

  -- ---- budgets

  unless_there : (found : Option Budget) → 0 < s.support_spacing
      → (passed : Option Budget) × IsBudgetUnless found s tree i passed
  unless_there (Some budget) some = (Some budget, refl)
  unless_there None some =
      let all = all_are_there s.layer_height tree solids in
      let has = overhung_are_there all.0 s.support_spacing some in
      (_, record { all = all.0; are_all = all.1; covers = has.covers; overhung = has.are_overhung; is = refl })

  before_by : (s.support_spacing ≡ 0) ⊎ (0 < s.support_spacing)
      → (passed : Option Budget) × IsPassedBefore Plan s tree i passed
  before_by (inl none) = (_, inl (record { spacing = none; is = refl }))
  before_by (inr some) =
      let found = unless_there (outlines_budget s.layer_height tree) some in
      (found.0, inr (record { spacing = some; is = found.1 }))

  pub before_is_there : (want : Want) → (passed : Option Budget) × IsPassedBefore want s tree i passed
  before_is_there Outlines = (_, refl)
  before_is_there Plan = before_by (none_or_some s.support_spacing)
