-- Both ends fit 32 bits, and the test is that of their difference.
use Rattle.std.proofs.Common.{FitsSigned, sym, ◌∙◌, rules}
use Rattle.std.proofs.lemmas.List.{append-nil}
use mir.Syntax.{w32}
use Rattle.plan_support.proofs.Widened.{difference_fits, test_long, count_fits}
use Rattle.plan_support.proofs.free.push_long.Goals as goal

pub overflow_sub-run : goal.overflow_sub-run
overflow_sub-run c =
    difference_fits c.args.run.from c.args.run.to (record { sfits = c.type_inv.run.0.1 })
    (record { sfits = c.type_inv.run.1.0.1 })

pub overflow_cast-least : goal.overflow_cast-least
overflow_cast-least c = count_fits c.args.least c.ranges.least.fits

pub returns-in_ok-push : goal.returns-in_ok-push
returns-in_ok-push c =
    let from_fits : FitsSigned w32 c.args.run.from = search rules in
    let to_fits : FitsSigned w32 c.args.run.to = search rules in
    let long = sym (test_long c.args.run.from c.args.run.to from_fits to_fits c.args.least c.ranges.least.fits)
    ∙ c.if-run-least.true in
    rw long c.in_ok-push.ensures.items

pub returns-else-run-least : goal.returns-else-run-least
returns-else-run-least c =
    let from_fits : FitsSigned w32 c.args.run.from = search rules in
    let to_fits : FitsSigned w32 c.args.run.to = search rules in
    let short = sym (test_long c.args.run.from c.args.run.to from_fits to_fits c.args.least c.ranges.least.fits)
    ∙ c.if-run-least.false in
    rw short (sym (append-nil c.args.out.now.items))
