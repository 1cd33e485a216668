-- Each comparison of the name tells what the command's arm answers.
use Rattle.std.proofs.Common.{Option, option_map, ap, ◌∙◌}
use Rattle.clap.specs.Matches.{found_of}
use Rattle.clap.specs.Walk.{Text, rows_of}
use Rattle.scad_words.specs.declared.job.Command.TheVariants.{Check, Tree}
use Rattle.scad_words.proofs.CommandNames.{checks, trees, slices, plans, samples, verifies, unknown}
use Rattle.scad_words.proofs.operands.command_of.Goals as goal

pub returns-in_ok-file-clause-command : goal.returns-in_ok-file-clause-command
returns-in_ok-file-clause-command c =
    checks c.args.name.now (rows_of (found_of c.args.given.now)) c.eq.ensures c.if-eq.true
    ∙ ap (λ (model : Option Text). option_map (λ m. Check m) model) c.in_ok-file.ensures.name

pub returns-in_ok-file-2-clause-command : goal.returns-in_ok-file-2-clause-command
returns-in_ok-file-2-clause-command c =
    trees c.args.name.now (rows_of (found_of c.args.given.now)) c.eq.ensures c.if-eq.false c.eq-else-eq.ensures
    c.if-eq-2.true
    ∙ ap (λ (model : Option Text). option_map (λ m. Tree m) model) c.in_ok-file-2.ensures.name

pub returns-then-eq-3 : goal.returns-then-eq-3
returns-then-eq-3 c =
    slices c.args.name.now (rows_of (found_of c.args.given.now)) c.eq.ensures c.if-eq.false c.eq-else-eq.ensures
    c.if-eq-2.false c.eq-else-eq-2.ensures c.if-eq-3.true c.slice.result c.slice.ensures

pub returns-then-eq-4 : goal.returns-then-eq-4
returns-then-eq-4 c =
    plans c.args.name.now (rows_of (found_of c.args.given.now)) c.eq.ensures c.if-eq.false c.eq-else-eq.ensures
    c.if-eq-2.false c.eq-else-eq-2.ensures c.if-eq-3.false c.eq-else-eq-3.ensures c.if-eq-4.true c.plan.result
    c.plan.ensures

pub returns-then-eq-5 : goal.returns-then-eq-5
returns-then-eq-5 c =
    samples c.args.name.now (rows_of (found_of c.args.given.now)) c.eq.ensures c.if-eq.false c.eq-else-eq.ensures
    c.if-eq-2.false c.eq-else-eq-2.ensures c.if-eq-3.false c.eq-else-eq-3.ensures c.if-eq-4.false
    c.eq-else-eq-4.ensures c.if-eq-5.true c.sample.result
    (record { command = c.sample.ensures.command; usage = c.sample.ensures.usage })

pub returns-then-eq-6 : goal.returns-then-eq-6
returns-then-eq-6 c =
    verifies c.args.name.now (rows_of (found_of c.args.given.now)) c.eq.ensures c.if-eq.false c.eq-else-eq.ensures
    c.if-eq-2.false c.eq-else-eq-2.ensures c.if-eq-3.false c.eq-else-eq-3.ensures c.if-eq-4.false
    c.eq-else-eq-4.ensures c.if-eq-5.false c.eq-else-eq-5.ensures c.if-eq-6.true c.verify.result c.verify.ensures

pub returns-else-eq-6-clause-usage : goal.returns-else-eq-6-clause-usage
returns-else-eq-6-clause-usage c usage =
    unknown c.args.name.now (rows_of (found_of c.args.given.now)) c.eq.ensures c.if-eq.false c.eq-else-eq.ensures
    c.if-eq-2.false c.eq-else-eq-2.ensures c.if-eq-3.false c.eq-else-eq-3.ensures c.if-eq-4.false
    c.eq-else-eq-4.ensures c.if-eq-5.false c.eq-else-eq-5.ensures c.if-eq-6.false
