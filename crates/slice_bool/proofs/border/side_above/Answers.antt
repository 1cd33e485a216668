-- The slab above the level, or nothing above the last.
use Rattle.std.proofs.Common.{◌+◌, ◌∙◌, pos, sym, subst, true, false, ℕ, List}
use Rattle.std.proofs.lemmas.Result.{IfOk-weaker}
use Rattle.scad_geom.specs.declared.level.Level.{Level}
use Rattle.slice_bundles.specs.Bundles.{AreBundles}
use Rattle.slice_bool.specs.declared.beside.Valued.{Valued}
use Rattle.slice_border.specs.Levels.{level_at}
use Rattle.slice_bool.specs.LeftValues.{AreLeftValues}
use Rattle.slice_border.proofs.BundleValues.{are_members}
use Rattle.slice_border.proofs.Neighbours.{neighbours_at}
use Rattle.slice_border.proofs.Telling.{tell_above, tell_below, tell_last}
use Rattle.slice_bool.proofs.BothSides.{slab_side, nothing_side}
use Rattle.slice_bool.proofs.border.side_above.Goals as goal

abbrev none : Level
none = record { n = pos 0; d = pos 0 }

pub left_values-requires-clause-members : goal.left_values-requires-clause-members
left_values-requires-clause-members c =
    let es = c.args.sweep.now.edges.now in
    let l : Level = level_at c.args.levels.now c.args.i in
    let u : Level = level_at c.args.levels.now (c.args.i + 1) in
    are_members es l u c.deref.result.now (subst (AreBundles es l u)
    (sym (c.deref.ensures.value ∙ c.take_bundles-bundles.ensures.bundles)) (c.requires.bundles c.if-i-levels.true))

pub returns-in_ok-values-clause-above : goal.returns-in_ok-values-clause-above
returns-in_ok-values-clause-above c =
    let es = c.args.sweep.now.edges.now in
    let shape = c.args.sweep.now.shape.now in
    let l : Level = level_at c.args.levels.now c.args.i in
    let u : Level = level_at c.args.levels.now (c.args.i + 1) in
    let v : Valued = record { bundles = c.take_bundles-bundles.result; values = c.in_ok-values.values } in
    let are : AreBundles es l u v.bundles.items = subst (AreBundles es l u) (sym c.take_bundles-bundles.ensures.bundles)
    (c.requires.bundles c.if-i-levels.true) in
    let values : AreLeftValues es shape v.bundles.items v.values.items =
    subst (λ (bs : List (List ℕ)). AreLeftValues es shape bs v.values.items) c.deref.ensures.value c.in_ok-values.ensures.values in
    slab_side true es shape l u l v are values (tell_above es shape l u v.bundles.items
    (neighbours_at es c.args.levels.now c.args.i none none c.if-i-levels.true c.requires.levels) are)

pub returns-in_ok-values-clause-below : goal.returns-in_ok-values-clause-below
returns-in_ok-values-clause-below c =
    let es = c.args.sweep.now.edges.now in
    let shape = c.args.sweep.now.shape.now in
    let l : Level = level_at c.args.levels.now c.args.i in
    let u : Level = level_at c.args.levels.now (c.args.i + 1) in
    let v : Valued = record { bundles = c.take_bundles-bundles.result; values = c.in_ok-values.values } in
    let are : AreBundles es l u v.bundles.items = subst (AreBundles es l u) (sym c.take_bundles-bundles.ensures.bundles)
    (c.requires.bundles c.if-i-levels.true) in
    let values : AreLeftValues es shape v.bundles.items v.values.items =
    subst (λ (bs : List (List ℕ)). AreLeftValues es shape bs v.values.items) c.deref.ensures.value c.in_ok-values.ensures.values in
    λ h. slab_side false es shape l u u v are values (tell_below es shape l u v.bundles.items
    (neighbours_at es c.args.levels.now c.args.i none none c.if-i-levels.true c.requires.levels) are)

pub returns-in_ok-values-clause-stands : goal.returns-in_ok-values-clause-stands
returns-in_ok-values-clause-stands c =
    λ h d o. c.take_bundles-bundles.ensures.ready c.args.sweep.now.edges.now h (c.requires.stands h d o)

pub returns-else-i-levels-clause-above : goal.returns-else-i-levels-clause-above
returns-else-i-levels-clause-above c =
    let es = c.args.sweep.now.edges.now in
    let shape = c.args.sweep.now.shape.now in
    IfOk-weaker c.nothing_beside.result _ _
    (λ v e. nothing_side true es shape (level_at c.args.levels.now c.args.i) v e.bundles e.values
    (tell_last es shape c.args.levels.now c.args.i none c.requires.levels c.requires.there c.if-i-levels.false))
    c.nothing_beside.ensures
