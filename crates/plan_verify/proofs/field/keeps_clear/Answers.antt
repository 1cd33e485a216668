use Rattle.std.proofs.Common.{◌≡◌, ◌≢◌, ℕ, ◌/◌, ◌-◌, ap, ◌∙◌, arith, pos}
use Rattle.std.proofs.lemmas.Int.{ints}
use Rattle.plan_verify.specs.Index.{sides_in}
use Rattle.plan_verify.proofs.Sound.{keeps_where, near_fails, out_fails}
use Rattle.plan_verify.proofs.field.keeps_clear.Goals as goal

pub returns-then-not-is_clear-clause-fails : goal.returns-then-not-is_clear-clause-fails
returns-then-not-is_clear-clause-fails c =
    let sum = c.of-trial.ensures.u ∙ ap (λ (n : ℕ). n - 2) c.reach.ensures in
    λ _. near_fails c.args.field.now c.args.line c.args.line_width c.of-trial.result c.requires.field
    c.requires.least c.of-trial.ensures.line c.of-trial.ensures.s sum (c.is_clear.ensures.near c.if-not-is_clear.true)

pub returns-then-turns-eq0-clause-fails : goal.returns-then-turns-eq0-clause-fails
returns-then-turns-eq0-clause-fails c =
    let none : c.turns.result ≡ pos 0 = omega (arith, ints) in
    λ _. out_fails (sides_in c.args.field.now.sides) c.args.line (c.args.line_width / 2) c.turns.result
    c.turns.ensures.value none

pub returns-clause-keeps : goal.returns-clause-keeps
returns-clause-keeps c =
    let sum = c.of-trial.ensures.u ∙ ap (λ (n : ℕ). n - 2) c.reach.ensures in
    let some : c.turns.result ≢ pos 0 = λ e. c.if-turns-eq0.false (omega (arith, ints)) in
    λ _. keeps_where c.args.field.now c.args.line c.args.line_width c.of-trial.result c.requires.field
    c.requires.least c.of-trial.ensures.line c.of-trial.ensures.s sum c.turns.result
    (c.is_clear.ensures.clear c.if-not-is_clear.false) c.turns.ensures.value some
