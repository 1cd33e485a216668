use Rattle.std.proofs.Common.{◌≡◌, inl, inr, map, string_bytes, ap, ◌∙◌}
use Rattle.std.proofs.lemmas.Result.{IfOk-weaker}
use Rattle.clap.specs.Simple.{app_of, subcommand_rows_of}
use Rattle.clap.specs.Faults.{is_simple_and_free}
use Rattle.clap.specs.Values.{kind_of}
use Rattle.scad_words.specs.declared.job.WordFault.TheVariants.{Usage}
use Rattle.scad_words.proofs.Subcommands.{refused_by, set_is_simple, whole_is}
use Rattle.scad_words.proofs.words.asked.Goals as goal

pub returns-in-Ok-clause-job : goal.returns-in-Ok-clause-job
returns-in-Ok-clause-job c =
    let whole = whole_is (app_of c.args.commands) (map string_bytes c.args.words.now) (subcommand_rows_of c.in-Ok.matches) c.requires
    (λ simple. (c.in-Ok.ensures.matches simple).1) c.in-Ok.ensures.kinds in
    IfOk-weaker c.job_met.result _ _ (λ job h. whole ∙ h) c.job_met.ensures.job

pub returns-in-Ok-clause-usage : goal.returns-in-Ok-clause-usage
returns-in-Ok-clause-usage c usage =
    let whole = whole_is (app_of c.args.commands) (map string_bytes c.args.words.now) (subcommand_rows_of c.in-Ok.matches) c.requires
    (λ simple. (c.in-Ok.ensures.matches simple).1) c.in-Ok.ensures.kinds in
    whole ∙ c.job_met.ensures.usage usage

pub returns-in-Err-clause-usage : goal.returns-in-Err-clause-usage
returns-in-Err-clause-usage c usage =
    let is_usage : c.refusal.result ≡ Usage = cc in
    let kinds = c.in-Err.ensures.kinds (ap is_simple_and_free c.requires ∙ set_is_simple.1) in
    elim kinds [
      | inl memory ↦ absurd (c.refusal.ensures.usage is_usage (c.kind.ensures ∙ memory))
      | inr among ↦ refused_by (app_of c.args.commands) (map string_bytes c.args.words.now) (kind_of c.in-Err.error) c.requires among
    ]
