-- One more row is supported.
use Rattle.std.proofs.Common.{◌≡◌, ℕ, ◌<◌, ◌≤◌, unsigned_abs, true, List, length}
use Rattle.std.proofs.Common.{get_or, sym, subst, ap, ◌∙◌, ℤ, to_z, of_z}
use Rattle.scad_geom.specs.Limits.{coordinate_limit}
use Rattle.scad_geom.proofs.Casts.{by_cast}
use Rattle.plan_infill.specs.declared.run.Run.{Run}
use Rattle.plan_support.specs.Stretches.{AreStretches}
use Rattle.plan_support.specs.Rows.{Row, AreApart, no_row}
use Rattle.plan_support.specs.Free.{at_least}
use Rattle.plan_support.specs.Supports.{IsFreeOn, AddsRow}
use Rattle.plan_support.proofs.SupportRuns.{SupportedUpTo, supported_start, supported_more}
use Rattle.plan_support.proofs.SupportRuns.{long_stretches, are_supports}
use Rattle.plan_support.proofs.support.supports.Goals as goal
use mir.Syntax.{w32}

pub rows-init : goal.rows-init
rows-init c =
    subst (SupportedUpTo c.args.outlines.now c.args.cover.now c.args.gap c.args.min 0 true)
    (sym c.new-paths.ensures.items)
    (supported_start c.args.outlines.now c.args.cover.now c.args.gap c.args.min)

pub rows-preserved : goal.rows-preserved
rows-preserved c =
    let outlines = c.args.outlines.now in
    let cover = c.args.cover.now in
    let gap = c.args.gap in
    let least = c.args.min in
    let i = c.rows.i in
    let here : Row = get_or cover i no_row in
    let y = to_z w32 (of_z w32 c.y-y.result) in
    let y_is : y ≡ here.y = by_cast w32 c.y-y.type_inv c.y-y.ensures in
    let l : i < length cover = subst (λ (n : ℕ). i < n) c.len-i-end.ensures c.rows-test.true in
    let free : AreStretches (IsFreeOn outlines gap here.y here.runs) 0 c.in_ok-free.free.items =
    subst (λ (z : ℤ). AreStretches (IsFreeOn outlines gap z here.runs) 0 c.in_ok-free.free.items) y_is
    (subst (λ (rs : List Run). AreStretches (IsFreeOn outlines gap y rs) 0 c.in_ok-free.free.items) c.runs.ensures
    c.in_ok-free.ensures) in
    let found = c.in_ok-long_runs.field-0.items in
    let found_is : found ≡ at_least least c.in_ok-free.free.items =
    c.in_ok-long_runs.ensures ∙ ap (at_least least) c.deref.ensures.value in
    let long : AreStretches (IsFreeOn outlines gap here.y here.runs) least found =
    subst (AreStretches (IsFreeOn outlines gap here.y here.runs) least) (sym found_is)
    (long_stretches (IsFreeOn outlines gap here.y here.runs) least c.in_ok-free.free.items free) in
    let one : record { y = y; runs = c.deref-in-rows.result.now } ≡ record { y = here.y; runs = found } =
    λ j. record { y = y_is j; runs = c.deref-in-rows.ensures.value j } in
    let adds : AddsRow c.rows.to_right (record { y = here.y; runs = found }) c.rows.paths.items
    c.push_row.new.paths.items c.in_ok-to_right.to_right =
    subst (λ (row : Row). AddsRow c.rows.to_right row c.rows.paths.items c.push_row.new.paths.items
    c.in_ok-to_right.to_right) one c.in_ok-to_right.ensures in
    supported_more outlines cover gap least i c.rows.to_right c.rows.paths.items c.requires.cover.upwards l no_row
    c.rows.invariant
    found c.in_ok-to_right.to_right c.push_row.new.paths.items long adds

pub y-y-requires : goal.y-y-requires
y-y-requires c = subst (λ (n : ℕ). c.rows.i < n) c.len-i-end.ensures c.rows-test.true

pub runs-requires : goal.runs-requires
runs-requires c = subst (λ (n : ℕ). c.rows.i < n) c.len-i-end.ensures c.rows-test.true

pub free_runs-requires-clause-row : goal.free_runs-requires-clause-row
free_runs-requires-clause-row c =
    let there = subst (λ (n : ℕ). c.rows.i < n) c.len-i-end.ensures c.rows-test.true in
    subst (λ (z : ℤ). unsigned_abs z ≤ coordinate_limit) (sym (by_cast w32 c.y-y.type_inv c.y-y.ensures))
    (c.requires.cover.within c.rows.i no_row there)

pub free_runs-requires-clause-runs : goal.free_runs-requires-clause-runs
free_runs-requires-clause-runs c =
    let there = subst (λ (n : ℕ). c.rows.i < n) c.len-i-end.ensures c.rows-test.true in
    subst AreApart (sym c.runs.ensures) (c.requires.cover.each c.rows.i no_row there)

pub returns : goal.returns
returns c =
    are_supports c.args.outlines.now c.args.cover.now c.args.gap c.args.min c.rows.i c.rows.to_right c.rows.paths.items
    (subst (λ (n : ℕ). n ≤ c.rows.i) c.len-i-end.ensures c.rows-test.false) c.rows.invariant
