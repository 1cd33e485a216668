-- When `verify` says yes.
use Rattle.std.proofs.Common.{◌≡◌, ◌⊎◌, ◌<◌, ◌≤◌, ◌+◌, ◌++◌, List, [], ◌∷◌, ℕ, suc, Bool, true, false, nat_lt, Option, Some, None, Result, Ok, Err, inl, inr, refl, sym, ap, ◌∙◌, subst, length, arith}
use Rattle.std.specs.Prelude.{option_map, unwrap_or, if◌then◌else◌}
use Rattle.std.specs.Option.{option_and_then}
use Rattle.std.proofs.lemmas.Bool.Decides.{nat_tests}
use Rattle.scad_fault.specs.declared.settings.SetFault.{SetFault}
use Rattle.scad_fault.specs.declared.status.Status.{Status}
use Rattle.scad_fault.specs.declared.status.Status.TheVariants.{Done, Read, Write, Memory}
use Rattle.scad_io.specs.Desk.{Files, View}
use Rattle.scad_io.specs.declared.desk.Out.TheVariants.{Report}
use Rattle.scad_words.specs.declared.job.Command.TheVariants.{Verify}
use Rattle.scad_words.specs.declared.job.Job.{Job}
use Rattle.scad_words.specs.declared.settings.Settings.{Settings as SettingsOfRun}
use Rattle.scad_words.specs.Settings.{settings_of}
use Rattle.scad_script.specs.declared.loading.Input.{Input}
use Rattle.scad_script.specs.declared.loading.Input.TheVariants.{Whole, Long}
use Rattle.scad_script.specs.Steps.{text_of}
use Rattle.scad_script.specs.Script.{Script, Ending, Finishes, input_of}
use Rattle.scad_script.specs.Promises.{Adds, IsAnswered, Promised}
use Rattle.cli_text.specs.Cli.{Layer}
use Rattle.cli_read.specs.Form.{Reads}
use Rattle.cli_read.proofs.Texts.{reading_back}
use Rattle.plan_verify.specs.declared.verdict.Verdict.TheVariants.{Inside}
use Rattle.plan_verify.specs.Verdict.{IsVerdict}
use Rattle.slice_work.specs.Part.{Layout}
use Rattle.print_laws.specs.Print.{written_from, written}
use Rattle.verdict_laws.specs.OwnOutlines.{plan_moves, PrintsStayInside}
use Rattle.verdict_laws.proofs.Opinions.{answers_opinion}
use Rattle.scad_run.specs.Words.{Case, given_by}
use Rattle.scad_run.specs.Judging.{inside_line, opinion_end, judged_end, judgement, case_script}
use Rattle.scad_run.specs.Answer.{Findings, judged_script, settings_script, after_settings, job_script, script_of, AreFound}
use Rattle.scad_run.specs.Inputs.{Inputs, accepted, settings_found, file_limit, outlines_read, program_read, IsRead}
use Rattle.scad_run.specs.Laws.{PrintsAreConfirmed}
use Rattle.scad_run.specs.Approval.{AreGiven, SaysInside, Confirms}
use Rattle.scad_run.proofs.Answering.{answered_by}
use Rattle.scad_run.proofs.Completion.{no_rise}
use Rattle.scad_run.proofs.Heights.{found_in_range, width_in_range}
use Rattle.scad_run.proofs.Sources.{sources_mean_solids}
use Rattle.scad_run.proofs.Working.{settings_read_as}

-- ---- scripts that end so, and report nothing before
record EndsSilently (ending : Ending) (whole : Script) : Type 0 where
  is : whole.ending ≡ ending
  silent : text_of Report whole.steps ≡ []

judged_silently : (ending : Ending) (meant : Result SettingsOfRun SetFault) (follows : SettingsOfRun → Script)
    (settings : SettingsOfRun) → accepted meant ≡ Some settings → EndsSilently ending (follows settings)
    → EndsSilently ending (judged_script meant follows)
judged_silently ending (Ok found) follows settings is h =
    subst (λ (s : SettingsOfRun). EndsSilently ending (follows s))
    (sym (ap (λ (o : Option SettingsOfRun). unwrap_or o found) is)) h
judged_silently ending (Err fault) follows settings is h = let never : ⊥ = cc in absurd never

settings_silently : (ending : Ending) (name read : Option (List ℕ)) (follows : SettingsOfRun → Script)
    (settings : SettingsOfRun) → settings_found name read ≡ Some settings → EndsSilently ending (follows settings)
    → EndsSilently ending (settings_script name read follows)
settings_silently ending None read follows settings is h =
    subst (λ (s : SettingsOfRun). EndsSilently ending (follows s))
    (sym (ap (λ (o : Option SettingsOfRun). unwrap_or o settings) is)) h
settings_silently ending (Some file) None follows settings is h = let never : ⊥ = cc in absurd never
settings_silently ending (Some file) (Some text) follows settings is h =
    let judged = judged_silently ending (settings_of text) follows settings is h in
    record { is = judged.is; silent = judged.silent }

-- ---- files within the limit are read whole
whole_by : (text : List ℕ) (b : Bool) → b ≡ false → (if b then Long else Whole text) ≡ Whole text
whole_by text true long = let never : ⊥ = cc in absurd never
whole_by text false short = refl

read_whole : (told : Option (List ℕ)) (text : List ℕ) → told ≡ Some text → length text ≤ file_limit
    → option_map (input_of (Some file_limit)) told ≡ Some (Whole text)
read_whole told text there within =
    let short : nat_lt file_limit (length text) ≡ false = grind (arith, nat_tests) in
    ap (λ (o : Option (List ℕ)). option_map (input_of (Some file_limit)) o) there
    ∙ ap (λ (i : Input). Some i) (whole_by text (nat_lt file_limit (length text)) short)

-- both files of a case are judged
case_silently : (case : Case) (outlines program : Option Input) (text other : List ℕ)
    (judge : List ℕ → List ℕ → Ending) → outlines ≡ Some (Whole text) → program ≡ Some (Whole other)
    → EndsSilently (judge text other) (case_script case outlines program judge)
case_silently case outlines program text other judge first second =
    subst (λ (o : Option Input). EndsSilently (judge text other) (case_script case o program judge)) (sym first)
    (subst (λ (o : Option Input). EndsSilently (judge text other) (case_script case (Some (Whole text)) o judge))
    (sym second) (record { is = refl; silent = refl }))

-- ---- a run
said : (whole : Script) (line : List ℕ) (status : Status) (old new : View) → EndsSilently (Finishes line) whole
    → IsAnswered whole status old new → (status ≡ Done) × Adds line old.report new.report
said whole line status old new h answered =
    let finished = subst (λ (e : Ending). IsAnswered (record { steps = whole.steps; ending = e }) status old new) h.is
    answered in
    (sym finished.0, subst (λ (echoes : List ℕ). Adds (echoes ++ line) old.report new.report) h.silent finished.1)

module _ (words : List (List ℕ)) (contents : List ℕ → Option (List ℕ)) (inputs : Inputs) (found : Findings)
    (is : IsRead words (Some contents) inputs) (of_all : AreFound words inputs found) where
  module _ (settings : SettingsOfRun) (outlines program : List ℕ)
      (given : AreGiven words contents settings outlines program) where
    abbrev job : Job
    job = record {
      command = Verify given.case.outlines given.case.program;
      settings = given.name;
      workers = given.workers;
    }

    first_whole : inputs.outlines ≡ Some (Whole outlines)
    first_whole =
        ap (λ i. i.outlines) is ∙ ap (λ j. outlines_read j contents) given.form
        ∙ read_whole (contents given.case.outlines) outlines given.outlines_there given.outlines_within

    second_whole : inputs.program ≡ Some (Whole program)
    second_whole =
        ap (λ i. i.program) is ∙ ap (λ j. program_read j contents) given.form
        ∙ read_whole (contents given.case.program) program given.program_there given.program_within

    found_settings : settings_found given.name inputs.settings ≡ Some settings
    found_settings =
        ap (settings_found given.name) (ap (λ i. i.settings) is ∙ settings_read_as words contents job given.form)
        ∙ given.accepted

    ends_judged : EndsSilently (judgement found.opinions settings.line_width outlines program)
        (script_of words found inputs)
    ends_judged =
        subst (λ (j : Option Job). EndsSilently (judgement found.opinions settings.line_width outlines program)
        (job_script j found inputs)) (sym given.form)
        (settings_silently (judgement found.opinions settings.line_width outlines program) given.name inputs.settings
        (after_settings job.command found inputs) settings found_settings
        (case_silently given.case inputs.outlines inputs.program outlines program
        (judgement found.opinions settings.line_width) first_whole second_whole))

    finishes : (layers : List Layer) (moves : ℕ) → Reads outlines layers
        → IsVerdict layers settings.line_width program (Ok (Inside moves))
        → judgement found.opinions settings.line_width outlines program ≡ Finishes (inside_line (length layers) moves)
    finishes layers moves reads verdict =
        let width = width_in_range settings (found_in_range given.name inputs.settings settings found_settings) in
        let right = of_all.right layers settings.line_width program width in
        ap (judged_end found.opinions settings.line_width program) (reading_back outlines layers reads)
        ∙ ap (opinion_end (length layers))
        (answers_opinion layers settings.line_width program (Ok (Inside moves))
        (found.opinions layers settings.line_width program) verdict right)

    ends_inside : (layers : List Layer) (moves : ℕ) → Reads outlines layers
        → IsVerdict layers settings.line_width program (Ok (Inside moves))
        → EndsSilently (Finishes (inside_line (length layers) moves)) (script_of words found inputs)
    ends_inside layers moves reads verdict =
        subst (λ (e : Ending). EndsSilently e (script_of words found inputs)) (finishes layers moves reads verdict)
        ends_judged

pub confirms : (words : List (List ℕ)) (files : Files) (found : Findings) (inputs : Inputs) (status : Status)
    (old new : View) (before now : ℕ)
    → IsRead words files inputs → AreFound words inputs found
    → Promised (given_by words) (script_of words found inputs) status old new
    → (status ≡ Read → before < now) → (status ≡ Write → before < now)
    → Confirms words files status old new before now
confirms words None found inputs status old new before now is of_all promised read write = tt
confirms words (Some contents) found inputs status old new before now is of_all promised read write =
    λ settings outlines program layers moves given reads verdict same.
    by_answer settings outlines program layers moves given reads verdict
    (answered_by (given_by words) (script_of words found inputs) status old new promised
    (λ r. no_rise before now same (read r)) (λ w. no_rise before now same (write w)))
  where
    by_answer : (settings : SettingsOfRun) (outlines program : List ℕ) (layers : List Layer) (moves : ℕ)
        → AreGiven words contents settings outlines program → Reads outlines layers
        → IsVerdict layers settings.line_width program (Ok (Inside moves))
        → IsAnswered (script_of words found inputs) status old new ⊎ (status ≡ Memory)
        → SaysInside (length layers) moves status old new
    by_answer settings outlines program layers moves given reads verdict (inl answered) =
        inl (said (script_of words found inputs) (inside_line (length layers) moves) status old new
        (ends_inside words contents inputs found is of_all settings outlines program given layers moves reads verdict)
        answered)
    by_answer settings outlines program layers moves given reads verdict (inr want) = inr want

-- ---- prints
written_length : (h i : ℕ) (ls : List Layout) → length (written_from h i ls) ≡ length ls
written_length h i [] = refl
written_length h i (l ∷ ls) = ap suc (written_length h (i + 1) ls)

pub prints_are_confirmed : PrintsStayInside → PrintsAreConfirmed
prints_are_confirmed inside words None status old new before now confirmed = tt
prints_are_confirmed inside words (Some contents) status old new before now confirmed =
    λ settings source tree outlines program print none given means same.
    let layers : List Layer = written settings.layer_height print.layers in
    let range = found_in_range given.name (option_and_then contents given.name) settings given.accepted in
    let verdict = inside settings tree outlines program print layers
    (sources_mean_solids source tree means.0 means.1) range none given.program_within print.outlines.read in
    subst (λ (n : ℕ). SaysInside n (plan_moves print.layers) status old new)
    (written_length settings.layer_height 0 print.layers)
    (confirmed settings outlines program layers (plan_moves print.layers) given print.outlines.read verdict same)
