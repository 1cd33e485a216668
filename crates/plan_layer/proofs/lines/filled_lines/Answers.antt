use Rattle.std.proofs.Common.{◌≡◌, Bool, true, FitsSigned, to_z, of_z, List, flat_map, sym, subst, ◌∙◌, arith, rules}
use Rattle.std.proofs.Common.{ℤ, pos, ◌+ℤ◌, ◌-ℤ◌}
use lib.Signed.{◌≤ℤ◌}
use Rattle.std.specs.Prelude.{All, unsigned_abs, int_le, ◌≤◌}
use Rattle.std.proofs.lemmas.Int.{ints, to_z-of_z}
use Rattle.scad_geom.specs.declared.point.Edge.{Edge}
use Rattle.scad_geom.specs.Limits.{point_limit}
use Rattle.scad_geom.specs.Loop.{sides}
use Rattle.scad_geom.specs.Within.{IsEdgeWithin}
use Rattle.plan_infill.specs.Extent.{IsEdgeAmong}
use Rattle.plan_infill.proofs.Extents.{sides_within}
use Rattle.plan_infill.proofs.Multiples.{next_multiple, falls, read_high}
use Rattle.plan_layer.specs.Infill.{has_rows, LineRuns, AddsLine}
use Rattle.plan_layer.proofs.LineRuns.{FilledBefore, before_none, before_more, before_all}
use Rattle.plan_layer.proofs.lines.filled_lines.Goals as goal
use Rattle.plan_layer.proofs.lines.filled_lines.Goals.{After-extent_of-extent}
use mir.Syntax.{w32, w64}

-- ---- what the extent says
within : (c : After-extent_of-extent) → All (IsEdgeWithin point_limit) c.deref.result.now
within c =
    sides_within point_limit c.args.outlines.now _ (c.deref.ensures.value ∙ c.in_ok-sides.ensures) c.requires.within

-- the extent of the sides is that of the outlines, across the lines of the layer
among : (c : After-extent_of-extent) → All (IsEdgeAmong (has_rows c.args.layer) c.extent_of-extent.result.low
    c.extent_of-extent.result.high) (flat_map sides c.args.outlines.now)
among c =
    let low = c.extent_of-extent.result.low in
    let high = c.extent_of-extent.result.high in
    subst (λ (r : Bool). All (IsEdgeAmong r low high) (flat_map sides c.args.outlines.now)) c.has_rows.ensures
    (subst (λ (es : List Edge). All (IsEdgeAmong c.has_rows.result low high) es)
    (c.deref.ensures.value ∙ c.in_ok-sides.ensures) c.extent_of-extent.ensures.among)

highest : (c : After-extent_of-extent) → to_z w64 (of_z w64 (to_z w32 (of_z w32 c.extent_of-extent.result.high)))
    ≡ c.extent_of-extent.result.high
highest c = read_high c.extent_of-extent.result.high (search rules)

-- a line that the loop comes to lies within the limit
limited : (c : After-extent_of-extent) (at : ℤ) → (pos 0 -ℤ pos point_limit) ≤ℤ at
    → int_le at (to_z w64 (of_z w64 (to_z w32 (of_z w32 c.extent_of-extent.result.high)))) ≡ true
    → unsigned_abs at ≤ point_limit
limited c at low before =
    let to = c.extent_of-extent.ensures.to point_limit (within c) in
    let high = highest c in
    omega (arith, ints)

-- the place of the next line is a number too
next_is : (c : After-extent_of-extent) (at : ℤ) → unsigned_abs at ≤ point_limit
    → to_z w64 (of_z w64 (at +ℤ to_z w64 c.args.settings.now.infill_spacing))
    ≡ at +ℤ pos c.args.settings.now.infill_spacing
next_is c at here =
    let most = c.requires.settings.infill_spacing.most in
    let spaced : to_z w64 c.args.settings.now.infill_spacing ≡ pos c.args.settings.now.infill_spacing =
    omega (arith, ints) in
    let fits : FitsSigned w64 (at +ℤ pos c.args.settings.now.infill_spacing) = omega (arith, ints) in
    simp (spaced, to_z-of_z)

-- ---- the goals
pub lines-init : goal.lines-init
lines-init c =
    let at_fits : FitsSigned w64 c.multiple_from-at.result = record { sfits = c.multiple_from-at.type_inv } in
    let low_fits : FitsSigned w32 c.extent_of-extent.result.low = search rules in
    let from = simp to_z-of_z at c.multiple_from-at.ensures.from in
    let first = simp to_z-of_z at c.multiple_from-at.ensures.first in
    let extent = (goal.at.lines-init c).After-extent_of-extent in
    let low = c.extent_of-extent.ensures.from point_limit (within extent) in
    let filled = subst (λ (ls : List LineRuns). FilledBefore c.args.outlines.now c.args.layer c.args.settings.now
    c.multiple_from-at.result ls) (sym c.new-lines.ensures.items)
    (before_none c.args.outlines.now c.args.layer c.args.settings.now c.extent_of-extent.result.low
    c.extent_of-extent.result.high (among extent) c.multiple_from-at.result c.multiple_from-at.ensures.multiple first) in
    simp to_z-of_z (record {
      filled = filled;
      multiple = c.multiple_from-at.ensures.multiple;
      from = omega (arith, ints);
    })

pub push_filled-requires-clause-line : goal.push_filled-requires-clause-line
push_filled-requires-clause-line c =
    let here = limited (goal.at.push_filled-requires-clause-line c).After-extent_of-extent (to_z w64 c.lines.at-bits)
    c.lines.invariant.from c.lines-test.true in
    let at_fits : FitsSigned w32 (to_z w64 c.lines.at-bits) = omega (arith, ints) in
    simp to_z-of_z here

pub lines-smaller : goal.lines-smaller
lines-smaller c =
    let extent = (goal.at.lines-smaller c).After-extent_of-extent in
    let positive = c.lines.invariant.multiple.spaced in
    let before = c.lines-test.true in
    let here = limited extent (to_z w64 c.lines.at-bits) c.lines.invariant.from before in
    let next = next_is extent (to_z w64 c.lines.at-bits) here in
    falls (to_z w64 (of_z w64 (to_z w32 (of_z w32 c.extent_of-extent.result.high)))) (to_z w64 c.lines.at-bits)
    (to_z w64 (of_z w64 (to_z w64 c.lines.at-bits +ℤ to_z w64 c.args.settings.now.infill_spacing)))
    (omega (arith, ints)) (omega (arith, ints))

pub lines-preserved : goal.lines-preserved
lines-preserved c =
    let extent = (goal.at.lines-preserved c).After-extent_of-extent in
    let low = c.lines.invariant.from in
    let here = limited extent (to_z w64 c.lines.at-bits) low c.lines-test.true in
    let next = next_is extent (to_z w64 c.lines.at-bits) here in
    let at_fits : FitsSigned w32 (to_z w64 c.lines.at-bits) = omega (arith, ints) in
    let added : AddsLine c.args.outlines.now c.args.layer c.args.settings.now (to_z w64 c.lines.at-bits)
    c.lines.lines.items c.push_filled.new.lines.items = simp to_z-of_z at c.in_ok-push_filled.ensures in
    let filled = subst (λ (ls : List LineRuns). FilledBefore c.args.outlines.now c.args.layer c.args.settings.now
    (to_z w64 c.lines.at-bits +ℤ pos c.args.settings.now.infill_spacing) ls) (sym added.added)
    (before_more c.args.outlines.now c.args.layer c.args.settings.now (to_z w64 c.lines.at-bits) c.lines.lines.items
    c.lines.invariant.multiple c.lines.invariant.filled added.runs added.are_runs) in
    let multiple = next_multiple c.args.settings.now.infill_spacing (to_z w64 c.lines.at-bits)
    c.lines.invariant.multiple in
    simp next (record { filled = filled; multiple = multiple; from = omega (arith, ints) })

pub returns : goal.returns
returns c =
    let extent = (goal.at.returns c).After-extent_of-extent in
    let high = highest extent in
    let behind = c.lines-test.false in
    before_all c.args.outlines.now c.args.layer c.args.settings.now c.extent_of-extent.result.low
    c.extent_of-extent.result.high (among extent) (to_z w64 c.lines.at-bits) c.lines.lines.items (omega (arith, ints))
    c.lines.invariant.filled
