-- The sizes of what is handed on.
use Rattle.std.proofs.Common.{◌≤◌, ◌^◌, ℤ, unsigned_abs, sym, subst}
use Rattle.std.proofs.lemmas.Int.{to_z-of_z}
use mir.Syntax.{w128}
use Rattle.slice_section.proofs.inside.crossing.Goals as goal

pub passage-step-requires-clause-a : goal.passage-step-requires-clause-a
passage-step-requires-clause-a c = c.requires.a

pub passage-step-requires-clause-b : goal.passage-step-requires-clause-b
passage-step-requires-clause-b c = c.requires.b

pub passage-step-requires-clause-y : goal.passage-step-requires-clause-y
passage-step-requires-clause-y c =
    subst (λ (z : ℤ). unsigned_abs z ≤ 2 ^ 33) (sym (to_z-of_z w128 c.args.y c.ranges.y)) c.requires.y

pub side-requires-clause-a : goal.side-requires-clause-a
side-requires-clause-a c = c.requires.a

pub side-requires-clause-b : goal.side-requires-clause-b
side-requires-clause-b c = c.requires.b

pub side-requires-clause-x : goal.side-requires-clause-x
side-requires-clause-x c =
    subst (λ (z : ℤ). unsigned_abs z ≤ 2 ^ 33) (sym (to_z-of_z w128 c.args.x c.ranges.x)) c.requires.x

pub side-requires-clause-y : goal.side-requires-clause-y
side-requires-clause-y c =
    subst (λ (z : ℤ). unsigned_abs z ≤ 2 ^ 33) (sym (to_z-of_z w128 c.args.y c.ranges.y)) c.requires.y

pub times-requires-clause-left : goal.times-requires-clause-left
times-requires-clause-left c =
    subst (λ (z : ℤ). unsigned_abs z ≤ 2 ^ 0)
    (sym (to_z-of_z w128 c.passage-step.result (record { sfits = c.passage-step.type_inv })))
    c.passage-step.ensures.size

pub times-requires-clause-right : goal.times-requires-clause-right
times-requires-clause-right c =
    subst (λ (z : ℤ). unsigned_abs z ≤ 2 ^ 124)
    (sym (to_z-of_z w128 c.side.result (record { sfits = c.side.type_inv }))) c.side.ensures.size

pub returns-then-times-gt0-clause-size : goal.returns-then-times-gt0-clause-size
returns-then-times-gt0-clause-size c =
    subst (λ (z : ℤ). unsigned_abs z ≤ 1)
    (sym (to_z-of_z w128 c.passage-step.result (record { sfits = c.passage-step.type_inv })))
    c.passage-step.ensures.size
