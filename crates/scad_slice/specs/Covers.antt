-- What stands below higher layers, as it is given to the work on a tree's layers.
use Rattle.std.specs.Prelude.{◌≡◌, ◌<◌, ◌≤◌, ℕ, List, [], ◌∷◌, length, Option, Some, None, All}
use Rattle.std.specs.Option.{ForSome}
use Rattle.std.specs.Coded.{×_prop, Unit-prop}
use Rattle.std.proofs.Props.{props}
use Rattle.scad_fault.specs.declared.budget.Budget.{Budget}
use Rattle.scad_geom.specs.declared.point.Pt.{Pt}
use Rattle.scad_tree.specs.Solid.{Solid}
use Rattle.scad_words.specs.declared.settings.Settings.{Settings}
use Rattle.plan_support.specs.Covers.{run_count, stretch_limit}
use Rattle.plan_infill.specs.declared.run.Run.{Run}
use Rattle.plan_support.specs.Rows.{Row, AreApart, GoUpwards, AreRows}
use Rattle.support_laws.specs.Supports.{AreOverhung}
use Rattle.support_laws.specs.Laws.{AreSpansOf}
use Rattle.slice_work.specs.declared.want.Want.{Want}
use Rattle.slice_work.specs.declared.want.Want.TheVariants.{Outlines, Plan}
use Rattle.scad_slice.specs.Budgets.{layer_count}
use Rattle.scad_slice.specs.Supports.{AreAllOutlines, outlines_budget, IsPassedBefore}

-- the stretches of support lines that the outlines of each layer of a tree wind round, where no outlines pass a budget
pub record AreSurveyedOf (s : Settings) (tree : Solid) (layers : List (List Row)) : Type 0 where
  pub none_passed : outlines_budget s.layer_height tree ≡ None
  pub all : List (List (List Pt))
  pub are_all : AreAllOutlines s.layer_height tree all
  pub spans : AreSpansOf all s.support_spacing layers
  pub rows : All AreRows layers

-- of each layer of a tree the stretches below higher layers, where no outlines pass a budget and neither do they
pub record AreCoversOf (s : Settings) (tree : Solid) (covers : List (List Row)) : Type 0 where
  pub spacing : 0 < s.support_spacing
  pub none_passed : outlines_budget s.layer_height tree ≡ None
  pub all : List (List (List Pt))
  pub are_all : AreAllOutlines s.layer_height tree all
  pub overhung : AreOverhung all s.support_spacing covers
  pub rows : All AreRows covers
  pub few : run_count covers ≤ stretch_limit

-- they are given exactly where a plan with supports is wanted
abbrev pub CoversFit : Want → Settings → Solid → Option (List (List Row)) → Type 0
CoversFit Outlines s tree covers = covers ≡ None
CoversFit Plan s tree None = s.support_spacing ≡ 0
CoversFit Plan s tree (Some covers) = AreCoversOf s tree covers

-- There are rows for each of so many layers. This has one proof at most, as a ghost field asks.
pub record AreGiven (count : ℕ) (covers : List (List Row)) : Type 0 where
  pub as_many : length covers ≡ count
  pub rows : All AreRows covers

upwards-prop : (rows : List Row) → IsProp (GoUpwards rows)
upwards-prop [] = Unit-prop
upwards-prop (r ∷ rs) = ×_prop (Prim.hlevel props) (upwards-prop rs)

apart-prop : (runs : List Run) → IsProp (AreApart runs)
apart-prop [] = Unit-prop
apart-prop (r ∷ rs) = let behind = apart-prop rs in Prim.hlevel (props, behind)

pub given-prop : (count : ℕ) (covers : Option (List (List Row))) → IsProp (ForSome covers (AreGiven count))
given-prop count covers = Prim.hlevel (props, upwards-prop, apart-prop)

-- before the first layer is written every layer passes this budget
pub record IsPassedByAll (want : Want) (s : Settings) (tree : Solid) (budget : Budget) : Type 0 where
  pub some : 0 < layer_count s.layer_height tree
  pub each : (i : ℕ) → IsPassedBefore want s tree i (Some budget)
