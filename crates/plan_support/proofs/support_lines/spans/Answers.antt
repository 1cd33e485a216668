use Rattle.std.proofs.Common.{◌≡◌, true, FitsSigned, to_z, of_z, List, flat_map}
use Rattle.std.proofs.Common.{sym, subst, ◌∙◌, arith, rules, pos, ◌+ℤ◌}
use Rattle.std.specs.Prelude.{All, unsigned_abs, ◌≤◌}
use Rattle.std.proofs.lemmas.Int.{ints, to_z-of_z}
use Rattle.scad_geom.specs.declared.point.Edge.{Edge}
use Rattle.scad_geom.specs.Limits.{coordinate_limit}
use Rattle.scad_geom.specs.Loop.{sides}
use Rattle.plan_infill.specs.Extent.{IsEdgeAmong}
use Rattle.plan_infill.proofs.Extents.{sides_within}
use Rattle.plan_infill.proofs.Multiples.{next_multiple, falls, read_high}
use Rattle.plan_support.specs.Spans.{AreSpans, AddsSpans, IsSpanned}
use Rattle.plan_support.proofs.LineRows.{SpannedBelow, below_none, below_more, below_all_of, rows_apart}
use Rattle.plan_support.proofs.support_lines.spans.Goals as goal
use mir.Syntax.{w32, w64}

among : (c : goal.After-multiple_from-y)
    → All (IsEdgeAmong true c.extent_of-extent.result.low c.extent_of-extent.result.high)
    (flat_map sides c.args.outlines.now)
among c =
    subst (λ (es : List Edge). All (IsEdgeAmong true c.extent_of-extent.result.low c.extent_of-extent.result.high) es)
    (c.deref.ensures.value ∙ c.in_ok-sides.ensures) c.extent_of-extent.ensures.among

pub lines-init : goal.lines-init
lines-init c =
    let at_fits : FitsSigned w64 c.multiple_from-y.result = record { sfits = c.multiple_from-y.type_inv } in
    let low_fits : FitsSigned w32 c.extent_of-extent.result.low = search rules in
    let from = simp to_z-of_z at c.multiple_from-y.ensures.from in
    let first = simp to_z-of_z at c.multiple_from-y.ensures.first in
    let within = sides_within coordinate_limit c.args.outlines.now _ (c.deref.ensures.value ∙ c.in_ok-sides.ensures)
    c.requires.within in
    let low = c.extent_of-extent.ensures.from coordinate_limit within in
    let spanned = subst (SpannedBelow c.args.outlines.now c.args.spacing c.multiple_from-y.result)
    (sym c.new-rows.ensures)
    (below_none c.args.outlines.now c.args.spacing c.extent_of-extent.result.low
    c.extent_of-extent.result.high (among c)
    c.multiple_from-y.result c.multiple_from-y.ensures.multiple first) in
    simp to_z-of_z (record {
      spanned = spanned;
      multiple = c.multiple_from-y.ensures.multiple;
      from = omega (arith, ints);
    })

pub push_spans-requires-clause-line : goal.push_spans-requires-clause-line
push_spans-requires-clause-line c =
    let within = sides_within coordinate_limit c.args.outlines.now _ (c.deref.ensures.value ∙ c.in_ok-sides.ensures)
    c.requires.within in
    let to = c.extent_of-extent.ensures.to coordinate_limit within in
    let low = c.lines.invariant.from in
    let high_fits : FitsSigned w32 c.extent_of-extent.result.high = search rules in
    let high : to_z w64 (of_z w64 (to_z w32 (of_z w32 c.extent_of-extent.result.high)))
    ≡ c.extent_of-extent.result.high = read_high c.extent_of-extent.result.high high_fits in
    let before = c.lines-test.true in
    let at_fits : FitsSigned w32 (to_z w64 c.lines.y-bits) = omega (arith, ints) in
    let here : unsigned_abs (to_z w64 c.lines.y-bits) ≤ coordinate_limit = omega (arith, ints) in
    simp to_z-of_z here

pub lines-smaller : goal.lines-smaller
lines-smaller c =
    let spaced : to_z w64 c.args.spacing ≡ pos c.args.spacing = omega (arith, ints) in
    let positive = c.lines.invariant.multiple.spaced in
    let low = c.lines.invariant.from in
    let within = sides_within coordinate_limit c.args.outlines.now _ (c.deref.ensures.value ∙ c.in_ok-sides.ensures)
    c.requires.within in
    let to = c.extent_of-extent.ensures.to coordinate_limit within in
    let high_fits : FitsSigned w32 c.extent_of-extent.result.high = search rules in
    let high : to_z w64 (of_z w64 (to_z w32 (of_z w32 c.extent_of-extent.result.high)))
    ≡ c.extent_of-extent.result.high = read_high c.extent_of-extent.result.high high_fits in
    let before = c.lines-test.true in
    let next_fits : FitsSigned w64 (to_z w64 c.lines.y-bits +ℤ to_z w64 c.args.spacing) =
    omega (arith, ints) in
    let next : to_z w64 (of_z w64 (to_z w64 c.lines.y-bits +ℤ to_z w64 c.args.spacing)) ≡ to_z w64
    c.lines.y-bits +ℤ to_z w64 c.args.spacing =
    to_z-of_z w64 (to_z w64 c.lines.y-bits +ℤ to_z w64 c.args.spacing) next_fits in
    falls (to_z w64 (of_z w64 (to_z w32 (of_z w32 c.extent_of-extent.result.high)))) (to_z w64 c.lines.y-bits)
    (to_z w64 (of_z w64 (to_z w64 c.lines.y-bits +ℤ to_z w64 c.args.spacing)))
    (omega (arith, ints)) (omega (arith, ints))

pub lines-preserved : goal.lines-preserved
lines-preserved c =
    let spaced : to_z w64 c.args.spacing ≡ pos c.args.spacing = omega (arith, ints) in
    let low = c.lines.invariant.from in
    let within = sides_within coordinate_limit c.args.outlines.now _ (c.deref.ensures.value ∙ c.in_ok-sides.ensures)
    c.requires.within in
    let to = c.extent_of-extent.ensures.to coordinate_limit within in
    let high_fits : FitsSigned w32 c.extent_of-extent.result.high = search rules in
    let high : to_z w64 (of_z w64 (to_z w32 (of_z w32 c.extent_of-extent.result.high)))
    ≡ c.extent_of-extent.result.high = read_high c.extent_of-extent.result.high high_fits in
    let before = c.lines-test.true in
    let at_fits : FitsSigned w32 (to_z w64 c.lines.y-bits) = omega (arith, ints) in
    let next_fits : FitsSigned w64 (to_z w64 c.lines.y-bits +ℤ pos c.args.spacing) = omega (arith, ints) in
    let here : unsigned_abs (to_z w64 c.lines.y-bits) ≤ coordinate_limit = omega (arith, ints) in
    let added : AddsSpans c.args.outlines.now (to_z w64 c.lines.y-bits) c.lines.rows c.push_spans.new.rows =
    simp to_z-of_z at c.in_ok-push_spans.ensures in
    let spanned = subst (SpannedBelow c.args.outlines.now c.args.spacing
    (to_z w64 c.lines.y-bits +ℤ pos c.args.spacing)) (sym added.added)
    (below_more c.args.outlines.now c.args.spacing (to_z w64 c.lines.y-bits) c.lines.rows
    c.lines.invariant.multiple here c.lines.invariant.spanned added.runs added.are_runs) in
    let multiple = next_multiple c.args.spacing (to_z w64 c.lines.y-bits) c.lines.invariant.multiple in
    simp (spaced, to_z-of_z) (record { spanned = spanned; multiple = multiple; from = omega (arith, ints) })

are_spans : (c : goal.After-lines) → AreSpans c.args.outlines.now c.args.spacing c.lines.rows
are_spans c =
    let high_fits : FitsSigned w32 c.extent_of-extent.result.high = search rules in
    let high : to_z w64 (of_z w64 (to_z w32 (of_z w32 c.extent_of-extent.result.high)))
    ≡ c.extent_of-extent.result.high = read_high c.extent_of-extent.result.high high_fits in
    let behind = c.lines-test.false in
    below_all_of c.args.outlines.now c.args.spacing c.extent_of-extent.result.low
    c.extent_of-extent.result.high
    (subst (λ (es : List Edge). All (IsEdgeAmong true c.extent_of-extent.result.low c.extent_of-extent.result.high) es)
    (c.deref.ensures.value ∙ c.in_ok-sides.ensures) c.extent_of-extent.ensures.among)
    (to_z w64 c.lines.y-bits) c.lines.rows (omega (arith, ints)) c.lines.invariant.spanned

pub returns-clause-spans : goal.returns-clause-spans
returns-clause-spans c = are_spans c

pub returns-clause-rows : goal.returns-clause-rows
returns-clause-rows c = rows_apart (λ x y. IsSpanned c.args.outlines.now c.args.spacing x y) c.lines.rows (are_spans c)
    c.lines.invariant.spanned.within
