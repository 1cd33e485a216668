-- A value that was made is judged by its nesting, and then its steps are taken.
use Rattle.std.proofs.Common.{◌≡◌, ℕ, ◌+◌, ◌-◌, ◌^◌, ◌≤◌, Bool, true, false, ltb, min, if◌then◌else◌, refl, sym, ap}
use Rattle.std.proofs.Common.{◌∙◌, arith}
use Rattle.std.proofs.lemmas.Bool.{ltb-true, ltb-false, lt-ltb, false_from_ne_true}
use Rattle.std.proofs.lemmas.Result.{err_from_is_err_and}
use Rattle.scad_fault.specs.declared.place.Place.{Place}
use Rattle.scad_fault.specs.declared.budget.BudgetKind.TheVariants.{Steps, Depth}
use Rattle.scad_value.specs.Datum.{Datum}
use Rattle.scad_value.specs.Measures.{made, nesting}
use Rattle.scad_value.specs.View.{datum_of}
use Rattle.scad_machine.specs.declared.fault.EvalFault.TheVariants.{Over}
use Rattle.scad_machine.specs.Machine.{state_of}
use Rattle.scad_machine.specs.State.{State, gives, refuses, and_then, pure, ◌>>◌, step_limit, over, take, make}
use Rattle.scad_machine.proofs.machine.Machine.make.Goals as goal

-- a number of steps that code cuts at its type's greatest number is refused as the whole number is
taken : (count whole : ℕ) (at : Place) (s : State) → count ≡ min whole (2 ^ 64 - 1) → take count at s ≡ take whole at s
unfolding take over
taken count whole at s is = by (ltb (2 ^ 64 - 1) whole) refl
  where
    by : (b : Bool) → ltb (2 ^ 64 - 1) whole ≡ b → take count at s ≡ take whole at s
    by false low = let under = ltb-false (2 ^ 64 - 1) whole low in ap (λ n. take n at s) (omega (arith, is, under))
    by true high = let past = ltb-true (2 ^ 64 - 1) whole high in
        ap (λ b. if b then over Steps at s else gives tt (record s { steps = s.steps + count }))
        (lt-ltb step_limit (s.steps + count) (omega (arith, is, past)))
        ∙ sym (ap (λ b. if b then over Steps at s else gives tt (record s { steps = s.steps + whole }))
        (lt-ltb step_limit (s.steps + whole) (omega (arith, past))))

pub returns-then-nesting-gt-NESTING_LIMIT-clause-does : goal.returns-then-nesting-gt-NESTING_LIMIT-clause-does
unfolding make over
returns-then-nesting-gt-NESTING_LIMIT-clause-does c =
    let d = datum_of c.args.value in
    let s = state_of c.args.self.now in
    λ _. ap (λ b. (if b then over Depth c.args.at else (take (made d) c.args.at >> pure d)) s)
    (lt-ltb 200 (nesting d) (omega (arith, c.nesting.ensures)))
    ∙ ap (λ b. refuses (Over b) s) (sym c.placed.ensures)

-- a value that isn't too deep
flat : (depth whole : ℕ) → depth ≡ min whole (2 ^ 32 - 1) → depth ≤ 200 → ltb 200 whole ≡ false
flat depth whole is low =
    false_from_ne_true (ltb 200 whole) (λ e. let deep = ltb-true 200 whole e in omega (arith, is, low, deep))

-- what is made is what its steps give
steps_decide : (d : Datum) (count : ℕ) (at : Place) (s : State) → ltb 200 (nesting d) ≡ false
    → count ≡ min (made d) (2 ^ 64 - 1) → make at d s ≡ and_then (take count at s) (λ _. pure d)
unfolding make
steps_decide d count at s is many =
    ap (λ b. (if b then over Depth at else (take (made d) at >> pure d)) s) is
    ∙ ap (λ o. and_then o (λ _. pure d)) (sym (taken count (made d) at s many))

pub returns-clause-does : goal.returns-clause-does
returns-clause-does c =
    let d = datum_of c.args.value in
    steps_decide d _ c.args.at (state_of c.args.self.now)
    (flat _ (nesting d) c.nesting.ensures c.if-nesting-gt-NESTING_LIMIT.false) c.made.ensures
    ∙ ap (λ o. and_then o (λ _. pure d)) c.in_ok-take.ensures.does

pub returns-in_err-take-clause-does : goal.returns-in_err-take-clause-does
returns-in_err-take-clause-does c =
    let d = datum_of c.args.value in
    let p = err_from_is_err_and c.from_residual.result c.from_residual.ensures.1 in
    rw (p.1, p.2) (λ some. steps_decide d _ c.args.at (state_of c.args.self.now)
    (flat _ (nesting d) c.nesting.ensures c.if-nesting-gt-NESTING_LIMIT.false) c.made.ensures
    ∙ ap (λ o. and_then o (λ _. pure d)) (c.in_err-take.ensures.does some))
