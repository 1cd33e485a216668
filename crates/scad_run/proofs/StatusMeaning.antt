-- What each status says of the words, and of a fault.
use Rattle.std.proofs.Common.{◌≡◌, ◌≢◌, List, ℕ, Option, Some, None, inl, inr, refl, sym, ◌∙◌, subst}
use Rattle.scad_fault.specs.declared.budget.Budget.{Budget}
use Rattle.scad_fault.specs.declared.status.Status.{Status}
use Rattle.scad_fault.specs.declared.status.Status.TheVariants.{Done, Source, Usage, Settings, Read, Write, Over, Memory, Outside, BadFile}
use Rattle.scad_io.specs.Desk.{View}
use Rattle.scad_words.specs.declared.job.Job.{Job}
use Rattle.scad_words.specs.Job.{job_of}
use Rattle.scad_script.specs.declared.refusal.Refusal.{Refusal}
use Rattle.scad_script.specs.Steps.{Step}
use Rattle.scad_script.specs.Script.{Script, Ending, Finishes, Refuses, Lacks}
use Rattle.scad_script.specs.Names.{Given}
use Rattle.scad_script.specs.Promises.{IsAnswered, IsReadFault, IsWriteFault, IsMemoryLine, Promised}
use Rattle.scad_run.specs.Words.{given_of, given_by}
use Rattle.scad_run.specs.Answer.{Findings, follows, job_script, script_of}
use Rattle.scad_run.specs.Inputs.{Inputs}
use Rattle.scad_run.specs.Promises.{JudgesWords, JudgesJob}
use Rattle.scad_run.proofs.ScriptReach.{EndsBefore, Reaches, reached}
use Rattle.scad_run.proofs.Ends.{IsDone, IsOver, EndsBy, follows_end}

-- The words.

usage_ends : (steps : List Step) (ending : Ending) (old new : View)
    → IsAnswered (record { steps = steps; ending = ending }) Usage old new → ending ≡ Refuses Refusal.Usage
usage_ends steps (Finishes line) old new answered = let same = answered.0 in let never : ⊥ = cc in absurd never
usage_ends steps (Refuses (Refusal.Source fault)) old new answered = let same = answered.0 in let never : ⊥ = cc in absurd never
usage_ends steps (Refuses Refusal.Usage) old new answered = refl
usage_ends steps (Refuses (Refusal.Settings fault)) old new answered = let same = answered.0 in let never : ⊥ = cc in absurd never
usage_ends steps (Refuses (Refusal.Over budget)) old new answered = let same = answered.0 in let never : ⊥ = cc in absurd never
usage_ends steps (Refuses (Refusal.Outside number line)) old new answered = let same = answered.0 in let never : ⊥ = cc in absurd never
usage_ends steps (Refuses (Refusal.BadFile kind first second)) old new answered = let same = answered.0 in let never : ⊥ = cc in absurd never
usage_ends steps Lacks old new answered = absurd answered

-- an end that isn't the refusal of the words
abbrev IsOther : Ending → Type 0
IsOther ending = ending ≢ Refuses Refusal.Usage

ends_other : (Found : Type 0) (Passes : Budget → Type 0) (ending : Ending) → EndsBy Found Passes ending → IsOther ending
ends_other Found Passes ending (inl (line, is, done)) same =
    let other : Finishes line ≡ Refuses Refusal.Usage = sym is ∙ same in let never : ⊥ = cc in absurd never
ends_other Found Passes ending (inr (budget, is, passes)) same =
    let other : Refuses (Refusal.Over budget) ≡ Refuses Refusal.Usage = sym is ∙ same in let never : ⊥ = cc in absurd never

job_other : (job : Job) (found : Findings) (inputs : Inputs) (whole : Script) → Reaches job inputs found whole
    → IsOther whole.ending
job_other job found inputs whole (inl stopped) same = subst (EndsBefore job inputs found.opinions) same stopped.why
job_other job found inputs whole (inr f) same =
    let parts = found.parts in
    ends_other (IsDone job.command f.settings parts f.tree) (IsOver job.command f.settings parts f.tree)
    (follows job.command f.settings parts f.tree).ending (follows_end job.command f.settings parts f.tree)
    (sym f.ending ∙ same)

not_usage : (job : Job) (found : Findings) (inputs : Inputs) (old new : View)
    → IsAnswered (job_script (Some job) found inputs) Usage old new → ⊥
not_usage job found inputs old new answered =
    let whole = job_script (Some job) found inputs in
    job_other job found inputs whole (reached job inputs found) (usage_ends whole.steps whole.ending old new answered)

judged : (job : Option Job) (found : Findings) (inputs : Inputs) (status : Status) (old new : View)
    → Promised (given_of job) (job_script job found inputs) status old new → JudgesJob job status
judged None found inputs Done old new promised = let same = promised.0 in let never : ⊥ = cc in absurd never
judged None found inputs (Source fault) old new promised = let same = promised.0 in let never : ⊥ = cc in absurd never
judged None found inputs Usage old new promised = refl
judged None found inputs (Settings fault) old new promised = let same = promised.0 in let never : ⊥ = cc in absurd never
judged None found inputs Read old new promised = absurd promised.meant
judged None found inputs Write old new promised = tt
judged None found inputs (Over budget) old new promised = let same = promised.0 in let never : ⊥ = cc in absurd never
judged None found inputs Memory old new promised = tt
judged None found inputs (Outside number line) old new promised = let same = promised.0 in let never : ⊥ = cc in absurd never
judged None found inputs (BadFile kind first second) old new promised = let same = promised.0 in let never : ⊥ = cc in absurd never
judged (Some job) found inputs Done old new promised = (job, refl)
judged (Some job) found inputs (Source fault) old new promised = (job, refl)
judged (Some job) found inputs Usage old new promised = absurd (not_usage job found inputs old new promised)
judged (Some job) found inputs (Settings fault) old new promised = (job, refl)
judged (Some job) found inputs Read old new promised = (job, refl)
judged (Some job) found inputs Write old new promised = tt
judged (Some job) found inputs (Over budget) old new promised = (job, refl)
judged (Some job) found inputs Memory old new promised = tt
judged (Some job) found inputs (Outside number line) old new promised = (job, refl)
judged (Some job) found inputs (BadFile kind first second) old new promised = (job, refl)

pub judges : (words : List (List ℕ)) (found : Findings) (inputs : Inputs) (status : Status) (old new : View)
    → Promised (given_by words) (script_of words found inputs) status old new → JudgesWords words status
judges words found inputs status old new promised = judged (job_of words) found inputs status old new promised

-- Faults.

pub read_fault : (given : Given) (whole : Script) (status : Status) (old new : View) → Promised given whole status old
    new → status ≡ Read → IsReadFault given old new
read_fault given whole status old new promised same = subst (λ (s : Status). Promised given whole s old new) same
    promised

pub write_fault : (given : Given) (whole : Script) (status : Status) (old new : View) → Promised given whole status old
    new → status ≡ Write → IsWriteFault given whole old new
write_fault given whole status old new promised same = subst (λ (s : Status). Promised given whole s old new) same
    promised

pub memory_line : (given : Given) (whole : Script) (status : Status) (old new : View) → Promised given whole status old
    new → status ≡ Memory → IsMemoryLine whole old new
memory_line given whole status old new promised same = subst (λ (s : Status). Promised given whole s old new) same
    promised
