-- The item is that of the frame, or else the one that the frame round it means.
use Rattle.std.proofs.Common.{◌≡◌, None, Some, ◌<◌, ◌≤◌, length, option_map, refl, sym, ap, ◌∙◌, arith}
use Rattle.scad_ast.specs.Scope.{item_of}
use Rattle.scad_scope.specs.Definitions.{item_in, word_of_kind}
use Rattle.scad_scope.specs.FrameStore.{stored_at}
use Rattle.scad_scope.specs.View.{stored}
use Rattle.scad_machine.proofs.Homes.{item-past, item-there, item-round, item-round_past, item-outermost}
use Rattle.scad_machine.proofs.lookup.item_from.Goals as goal
use Rattle.scad_machine.proofs.lookup.item_from.Goals.{In_ok-item, In-Some-parent}

-- ---- what the frame answers that the search has come to
inside : (c : In_ok-item) → c.outwards.at < length (stored c.args.frames.now)
inside c =
    let many = ap length c.outwards.invariant.0 in
    omega (arith, c.len.ensures, many)

found : (c : In_ok-item) → item_in (word_of_kind c.args.kind) c.args.name.now
    (stored_at (stored c.args.frames.now) c.outwards.at).scope ≡ option_map (λ i. item_of i.now) c.in_ok-item.field-0
found c =
    sym (ap (λ l. item_in (word_of_kind c.args.kind) c.args.name.now (stored_at l c.outwards.at).scope)
    c.outwards.invariant.0)
    ∙ sym c.in_ok-item.ensures.found

round : (c : In-Some-parent)
    → (stored_at (stored c.args.frames.now) c.outwards.at).parent ≡ Some c.in-Some-parent.parent
round c =
    sym (ap (λ l. (stored_at l c.outwards.at).parent) (c.item.ensures.same ∙ c.outwards.invariant.0))
    ∙ sym c.in-Some-parent.ensures

-- ---- the clauses
pub returns-then-at-parent-clause-found : goal.returns-then-at-parent-clause-found
returns-then-at-parent-clause-found c =
    let before = goal.at.returns-then-at-parent-clause-found c in
    let asked = before.In_ok-item in
    let none = found asked ∙ ap (option_map (λ i. item_of i.now)) c.in-None.is in
    sym (item-round_past _ _ _ c.outwards.at (inside asked) none c.in-Some-parent.parent (round before.In-Some-parent)
    (omega arith))
    ∙ c.outwards.invariant.1

pub returns-then-len-at-clause-found : goal.returns-then-len-at-clause-found
returns-then-len-at-clause-found c =
    let many = ap length c.outwards.invariant.0 in
    let past : length (stored c.args.frames.now) ≤ c.outwards.at = omega (arith, c.len.ensures, many) in
    sym (item-past _ _ _ c.outwards.at past) ∙ c.outwards.invariant.1

pub returns-in-Some-clause-found : goal.returns-in-Some-clause-found
returns-in-Some-clause-found c =
    let asked = (goal.at.returns-in-Some-clause-found c).In_ok-item in
    let some = found asked ∙ ap (option_map (λ i. item_of i.now)) c.in-Some.is in
    sym (item-there _ _ _ c.outwards.at (inside asked) _ some) ∙ c.outwards.invariant.1

pub returns-in-None-parent-clause-found : goal.returns-in-None-parent-clause-found
returns-in-None-parent-clause-found c =
    let asked = (goal.at.returns-in-None-parent-clause-found c).In_ok-item in
    let none = found asked ∙ ap (option_map (λ i. item_of i.now)) c.in-None.is in
    let outermost : (stored_at (stored c.args.frames.now) c.outwards.at).parent ≡ None =
    sym (ap (λ l. (stored_at l c.outwards.at).parent) (c.item.ensures.same ∙ c.outwards.invariant.0))
    ∙ sym c.in-None-parent.ensures in
    sym (item-outermost _ _ _ c.outwards.at (inside asked) none outermost) ∙ c.outwards.invariant.1

pub outwards-preserved : goal.outwards-preserved
outwards-preserved c =
    let before = goal.at.outwards-preserved c in
    let asked = before.In_ok-item in
    let none = found asked ∙ ap (option_map (λ i. item_of i.now)) c.in-None.is in (
      c.item.ensures.same ∙ c.outwards.invariant.0,
      sym (item-round _ _ _ c.outwards.at (inside asked) none c.in-Some-parent.parent (round before.In-Some-parent)
          (omega arith))
          ∙ c.outwards.invariant.1,
    )

pub returns-in-Some-clause-there : goal.returns-in-Some-clause-there
returns-in-Some-clause-there c = inside (goal.at.returns-in-Some-clause-there c).In_ok-item

pub outwards-init : goal.outwards-init
outwards-init c = (refl, refl)

pub returns-then-len-at-clause-same : goal.returns-then-len-at-clause-same
returns-then-len-at-clause-same c = c.outwards.invariant.0

pub returns-in_err-item-clause-same : goal.returns-in_err-item-clause-same
returns-in_err-item-clause-same c = c.item.ensures.same ∙ c.outwards.invariant.0

pub returns-in-Some-clause-same : goal.returns-in-Some-clause-same
returns-in-Some-clause-same c = c.item.ensures.same ∙ c.outwards.invariant.0

pub returns-then-at-parent-clause-same : goal.returns-then-at-parent-clause-same
returns-then-at-parent-clause-same c = c.item.ensures.same ∙ c.outwards.invariant.0

pub returns-in-None-parent-clause-same : goal.returns-in-None-parent-clause-same
returns-in-None-parent-clause-same c = c.item.ensures.same ∙ c.outwards.invariant.0
