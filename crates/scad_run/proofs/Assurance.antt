-- What a yes of `verify` says.
use Rattle.std.proofs.Common.{◌≡◌, ◌≤◌, List, ℕ, Bool, true, false, Option, Some, None, Ok, inl, inr, refl, sym, ap, ◌∙◌, subst, length, nat_lt, rules, arith}
use Rattle.std.specs.Prelude.{IsSomeAnd, option_map, unwrap_or, if◌then◌else◌}
use Rattle.scad_fault.specs.declared.status.Status.{Status}
use Rattle.scad_fault.specs.declared.status.Status.TheVariants.{Done}
use Rattle.scad_io.specs.Desk.{Files, View}
use Rattle.scad_words.specs.declared.job.Command.TheVariants.{Verify}
use Rattle.scad_words.specs.declared.job.Job.{Job}
use Rattle.scad_words.specs.Job.{job_of}
use Rattle.scad_script.specs.declared.loading.Input.{Input}
use Rattle.scad_script.specs.declared.loading.Input.TheVariants.{Whole, Long}
use Rattle.scad_script.specs.Script.{Script, input_of}
use Rattle.scad_script.specs.Promises.{IsAnswered, Promised}
use Rattle.cli_read.specs.Form.{Reads}
use Rattle.cli_read.proofs.Texts.{reading_is}
use Rattle.plan_verify.specs.declared.verdict.Verdict.TheVariants.{Inside}
use Rattle.plan_verify.specs.Verdict.{program_moves}
use Rattle.scad_run.specs.Words.{Case, given_by}
use Rattle.scad_run.specs.Answer.{Findings, job_script, script_of, AreFound}
use Rattle.scad_run.specs.Inputs.{Inputs, file_limit, file_read, outlines_read, program_read, IsRead}
use Rattle.scad_run.specs.Assurance.{IsFile, MovesStay, VerifiesMoves}
use Rattle.scad_run.proofs.FileReport.{text_in, settings_are}
use Rattle.scad_run.proofs.Answering.{done_finishes}
use Rattle.scad_run.proofs.ScriptReach.{HasOpinion, EndsBefore, Reaches, reached}
use Rattle.scad_run.proofs.Causes.{opinion_cause}

-- ---- files that were read whole
whole_if : (text found : List ℕ) (b : Bool) → nat_lt file_limit (length text) ≡ b → (if b then Long else Whole text)
    ≡ Whole found → (length text ≤ file_limit) × (text ≡ found)
whole_if text found true long same = let never : ⊥ = cc in absurd never
whole_if text found false short same = (search (rules, arith), ap text_in same)

file_there : (told : Option (List ℕ)) (found : List ℕ) (Holds : List ℕ → Type 0)
    → option_map (input_of (Some file_limit)) told ≡ Some (Whole found) → Holds found
    → IsSomeAnd told (λ text. (length text ≤ file_limit) × Holds text)
file_there None found Holds same holds = let never : ⊥ = cc in absurd never
file_there (Some text) found Holds same holds =
    let whole = whole_if text found (nat_lt file_limit (length text)) refl
    (ap (λ (o : Option Input). unwrap_or o Long) same) in
    (whole.0, subst Holds (sym whole.1) holds)

module _ (words : List (List ℕ)) (job : Job) (form : job_of words ≡ Some job) (inputs : Inputs) where
  outlines_are : (files : Files) (name found : List ℕ) (Holds : List ℕ → Type 0) → IsRead words files inputs
      → ((contents : List ℕ → Option (List ℕ)) → outlines_read (Some job) contents ≡ file_read (Some name) contents)
      → inputs.outlines ≡ Some (Whole found) → Holds found → IsFile files name Holds
  outlines_are None name found Holds is named whole holds = tt
  outlines_are (Some contents) name found Holds is named whole holds =
      file_there (contents name) found Holds
      (sym (named contents) ∙ sym (ap (λ j. outlines_read j contents) form) ∙ sym (ap (λ i. i.outlines) is) ∙ whole)
      holds

  program_is : (files : Files) (name found : List ℕ) (Holds : List ℕ → Type 0) → IsRead words files inputs
      → ((contents : List ℕ → Option (List ℕ)) → program_read (Some job) contents ≡ file_read (Some name) contents)
      → inputs.program ≡ Some (Whole found) → Holds found → IsFile files name Holds
  program_is None name found Holds is named whole holds = tt
  program_is (Some contents) name found Holds is named whole holds =
      file_there (contents name) found Holds
      (sym (named contents) ∙ sym (ap (λ j. program_read j contents) form) ∙ sym (ap (λ i. i.program) is) ∙ whole)
      holds

-- ---- a job that judges
not_none : (case : Case) → Some case ≡ None → ⊥
not_none case same = let never : ⊥ = cc in never

module _ (words : List (List ℕ)) (files : Files) (inputs : Inputs) (found : Findings) (status : Status) (old new : View)
    (is : IsRead words files inputs) (of_all : AreFound words inputs found)
    (promised : Promised (given_by words) (script_of words found inputs) status old new) where
  module _ (outlines program : List ℕ) (name : Option (List ℕ)) (workers : ℕ) where
    abbrev job : Job
    job = record { command = Verify outlines program; settings = name; workers = workers }

    has_opinion : (whole : Script) → Reaches job inputs found whole → IsAnswered whole Done old new
        → (moves : ℕ) × HasOpinion job inputs found.opinions (Ok (Inside moves))
    has_opinion whole (inl stopped) answered =
        subst (EndsBefore job inputs found.opinions) (done_finishes whole.steps whole.ending old new answered).1
        stopped.why
    has_opinion whole (inr f) answered =
        absurd (not_none (record { outlines = outlines; program = program }) f.drawn)

    moves_stay : job_of words ≡ Some job → (moves : ℕ) → HasOpinion job inputs found.opinions (Ok (Inside moves))
        → MovesStay name outlines program files
    moves_stay form moves h =
        let verdict = opinion_cause job inputs found.opinions (Ok (Inside moves)) of_all.right h in
        let settings = h.judged.settings in
        record {
          settings = settings;
          accepted = settings_are words files inputs job settings form is h.judged.found;
          layers = h.layers;
          said = outlines_are words job form inputs files outlines h.judged.outlines (λ text. Reads text h.layers) is
              (λ contents. refl) h.judged.outlines_whole (reading_is h.judged.outlines h.layers h.said);
          moves = verdict.0;
          read = program_is words job form inputs files program h.judged.program
              (λ text. program_moves text ≡ Ok verdict.0) is (λ contents. refl) h.judged.program_whole verdict.1;
          stay = verdict.2.0;
        }

  pub verifies_moves : status ≡ Done → VerifiesMoves words files
  verifies_moves done outlines program name workers form =
      let this : Job = record { command = Verify outlines program; settings = name; workers = workers } in
      let answered : IsAnswered (script_of words found inputs) Done old new =
      subst (λ (s : Status). Promised (given_by words) (script_of words found inputs) s old new) done promised in
      let opinion = has_opinion outlines program name workers (job_script (Some this) found inputs)
      (reached this inputs found)
      (subst (λ (j : Option Job). IsAnswered (job_script j found inputs) Done old new) form answered) in
      moves_stay outlines program name workers form opinion.0 opinion.1
