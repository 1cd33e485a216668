use Rattle.std.proofs.Common.{◌≡◌, ◌+◌, ◌<◌, ◌≤◌, List, length, get_or, flat_map, sym, subst, ap, ◌∙◌, arith, ℤ, pos}
use Rattle.std.specs.Prelude.{All}
use Rattle.std.proofs.lemmas.Int.{to_z-of_z}
use Rattle.std.proofs.lemmas.Result.{IfOk-weaker}
use Rattle.std.proofs.lemmas.List.Elements.{All-get_or}
use Rattle.scad_geom.specs.declared.point.Edge.{Edge}
use Rattle.scad_geom.specs.Limits.{coordinate_limit}
use Rattle.scad_geom.specs.Loop.{sides}
use Rattle.scad_geom.specs.Within.{IsEdgeWithin}
use Rattle.plan_sides.proofs.Within.{outlines_within}
use Rattle.plan_infill.specs.declared.line.Line.TheVariants.{Row as AtHeight}
use Rattle.plan_infill.specs.Runs.{AreRuns}
use Rattle.plan_support.specs.On.{is_on}
use Rattle.plan_support.specs.Near.{AddsNear, AreHoles}
use Rattle.plan_support.proofs.Holes.{HoledUpTo, holed_start, holed_more, at_any, are_holes}
use Rattle.plan_support.proofs.support.holes_of.Goals as goal

abbrev none : Edge
none = record { a = record { x = pos 0; y = pos 0 }; b = record { x = pos 0; y = pos 0 } }

pub sides-init : goal.sides-init
sides-init c =
    let y_fits = c.ranges.y in
    let are : AreRuns c.args.outlines.now 0 (AtHeight c.args.y) 0 c.in_ok-holes.holes.items =
    simp to_z-of_z at c.in_ok-holes.ensures in
    simp to_z-of_z (holed_start c.args.outlines.now c.args.y c.args.gap c.in_ok-holes.holes.items are)

pub push_near-requires-clause-edge : goal.push_near-requires-clause-edge
push_near-requires-clause-edge c =
    All-get_or (IsEdgeWithin coordinate_limit) c.deref-side-items.result.now c.sides.side-index none c.sides-test.true
    (subst (All (IsEdgeWithin coordinate_limit)) (sym (c.deref-side-items.ensures.value ∙ c.in_ok-sides.ensures))
    (outlines_within coordinate_limit c.args.outlines.now c.requires.within))

pub sides-preserved : goal.sides-preserved
sides-preserved c =
    let y_fits = c.ranges.y in
    let outlines = c.args.outlines.now in
    let y = c.args.y in
    let gap = c.args.gap in
    let es = flat_map sides outlines in
    let same : c.deref-side-items.result.now ≡ es = c.deref-side-items.ensures.value ∙ c.in_ok-sides.ensures in
    let i = c.sides.side-index in
    let l : i < length es = let a = ap length same in let b = c.sides-test.true in omega (arith, a, b) in
    let side = get_or c.deref-side-items.result.now i none in
    let before : HoledUpTo outlines y gap i c.sides.holes.items = simp to_z-of_z at c.sides.invariant in
    let add : AddsNear side y gap c.sides.holes.items c.push_near.new.holes.items =
    simp to_z-of_z at c.in_ok-push_near.ensures in
    let after : HoledUpTo outlines y gap (i + 1) c.push_near.new.holes.items =
    subst (HoledUpTo outlines y gap (i + 1)) (sym add.added)
    (holed_more outlines y gap i c.sides.holes.items side add.found before add.near
    (λ m d. ap (λ (xs : List Edge). get_or xs i none) same ∙ at_any es i none d m) l) in
    simp to_z-of_z after

pub returns-clause-holes : goal.returns-clause-holes
returns-clause-holes c =
    let y_fits = c.ranges.y in
    let outlines = c.args.outlines.now in
    let y = c.args.y in
    let gap = c.args.gap in
    let es = flat_map sides outlines in
    let same : c.deref-side-items.result.now ≡ es = c.deref-side-items.ensures.value ∙ c.in_ok-sides.ensures in
    let l : length es ≤ c.sides.side-index = let a = ap length same in let b = c.sides-test.false in
    omega (arith, a, b) in
    let all : HoledUpTo outlines y gap c.sides.side-index c.sides.holes.items = simp to_z-of_z at c.sides.invariant in
    IfOk-weaker c.united.result (λ v. (x : ℤ) → is_on v.items x ≡ is_on c.sides.holes.items x)
    (λ v. AreHoles outlines y gap v.items)
    (λ v s. are_holes outlines y gap c.sides.side-index c.sides.holes.items v.items l all s) c.united.ensures.on
