-- What a number is clamped to is one of three, told by two tests.
use Rattle.std.proofs.Common.{sym, ◌∙◌}
use Rattle.std.proofs.lemmas.Int.{to_z-of_z}
use mir.Syntax.{w128}
use Rattle.plan_infill.proofs.Places.{test_is, clamped_up, clamped_down, clamped_within}
use Rattle.plan_infill.proofs.turn_steps.clamped.Goals as goal

pub returns-then-z-low : goal.returns-then-z-low
returns-then-z-low c =
    rw (to_z-of_z w128 c.args.low c.ranges.low) (clamped_up c.args.z c.args.low c.args.high c.requires.order
    (sym (test_is c.args.z c.args.low c.ranges.z c.ranges.low) ∙ c.if-z-low.true))

pub returns-then-z-high : goal.returns-then-z-high
returns-then-z-high c =
    rw (to_z-of_z w128 c.args.high c.ranges.high) (clamped_down c.args.z c.args.low c.args.high c.requires.order
    (sym (test_is c.args.high c.args.z c.ranges.high c.ranges.z) ∙ c.if-z-high.true))

pub returns-else-z-high : goal.returns-else-z-high
returns-else-z-high c =
    rw (to_z-of_z w128 c.args.z c.ranges.z) (clamped_within c.args.z c.args.low c.args.high
    (sym (test_is c.args.z c.args.low c.ranges.z c.ranges.low) ∙ c.if-z-low.false)
    (sym (test_is c.args.high c.args.z c.ranges.high c.ranges.z) ∙ c.if-z-high.false))
