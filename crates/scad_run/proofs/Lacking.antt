-- There is no answer only where a file that is to be read is missing.
use Rattle.std.proofs.Common.{◌≡◌, List, Option, Some, None, inl, inr, refl, sym, ◌∙◌, subst}
use Rattle.scad_fault.specs.declared.budget.Budget.{Budget}
use Rattle.scad_words.specs.declared.job.Job.{Job}
use Rattle.scad_words.specs.Job.{job_of}
use Rattle.scad_script.specs.declared.refusal.Refusal.TheVariants.{Over}
use Rattle.scad_script.specs.Steps.{Step}
use Rattle.scad_script.specs.Script.{Script, Ending, Finishes, Refuses, Lacks, answer_of}
use Rattle.scad_run.specs.Answer.{Findings, follows, job_script, script_of}
use Rattle.scad_run.specs.Inputs.{Inputs}
use Rattle.scad_run.specs.Causes.{IsMissing}
use Rattle.scad_run.specs.Laws.{AnswersLackFiles}
use Rattle.scad_run.proofs.Ends.{IsDone, IsOver, EndsBy, follows_end}
use Rattle.scad_run.proofs.ScriptReach.{EndsBefore, Reaches, reached}

lacks : (steps : List Step) (ending : Ending) → answer_of (record { steps = steps; ending = ending }) ≡ None
    → ending ≡ Lacks
lacks steps (Finishes line) none = let never : ⊥ = cc in absurd never
lacks steps (Refuses refusal) none = let never : ⊥ = cc in absurd never
lacks steps Lacks none = refl

-- what follows a tree lacks nothing
never_behind : (Done : Type 0) (Passes : Budget → Type 0) (ending : Ending) → EndsBy Done Passes ending → ending ≡ Lacks
    → ⊥
never_behind Done Passes ending (inl (line, is, done)) none =
    let same : Finishes line ≡ Lacks = sym is ∙ none in let never : ⊥ = cc in never
never_behind Done Passes ending (inr (budget, is, over)) none =
    let same : Refuses (Over budget) ≡ Lacks = sym is ∙ none in let never : ⊥ = cc in never

missing : (job : Job) (inputs : Inputs) (found : Findings) (whole : Script) → Reaches job inputs found whole
    → whole.ending ≡ Lacks → IsMissing job inputs
missing job inputs found whole (inl stopped) none = subst (EndsBefore job inputs found.opinions) none stopped.why
missing job inputs found whole (inr f) none =
    let parts = found.parts in
    absurd (never_behind (IsDone job.command f.settings parts f.tree) (IsOver job.command f.settings parts f.tree)
    (follows job.command f.settings parts f.tree).ending (follows_end job.command f.settings parts f.tree)
    (sym f.ending ∙ none))

job_lacks : (job : Option Job) (inputs : Inputs) (found : Findings) → (job_script job found inputs).ending ≡ Lacks
    → (asked : Job) × (job ≡ Some asked) × IsMissing asked inputs
job_lacks None inputs found none = let never : ⊥ = cc in absurd never
job_lacks (Some job) inputs found none =
    (job, refl, missing job inputs found (job_script (Some job) found inputs) (reached job inputs found) none)

pub answers_lack_files : AnswersLackFiles
answers_lack_files words inputs found none =
    let whole = script_of words found inputs in
    job_lacks (job_of words) inputs found (lacks whole.steps whole.ending none)
