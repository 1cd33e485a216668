use Rattle.std.proofs.Common.{sym, ◌∙◌}
use Rattle.std.proofs.lemmas.Result.{IfOk-weaker}
use Rattle.clap.specs.Matches.{found_of}
use Rattle.scad_words.proofs.Subcommands.{given_is}
use Rattle.scad_words.proofs.words.job_met.Goals as goal

pub returns-in-Some-clause-job : goal.returns-in-Some-clause-job
returns-in-Some-clause-job c =
    let whole = given_is c.args.matches.now c.in-Some.name.now (found_of c.in-Some.given.now)
    (sym (rw c.in-Some.is at c.subcommand.ensures.name)) (sym (rw c.in-Some.is at c.subcommand.ensures.rows)) in
    IfOk-weaker c.job_given.result _ _ (λ job h. whole ∙ h) c.job_given.ensures.job

pub returns-in-Some-clause-usage : goal.returns-in-Some-clause-usage
returns-in-Some-clause-usage c usage =
    let whole = given_is c.args.matches.now c.in-Some.name.now (found_of c.in-Some.given.now)
    (sym (rw c.in-Some.is at c.subcommand.ensures.name)) (sym (rw c.in-Some.is at c.subcommand.ensures.rows)) in
    whole ∙ c.job_given.ensures.usage usage
