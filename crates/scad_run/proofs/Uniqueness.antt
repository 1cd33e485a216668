-- That the answer is one, and what a run that was answered gives.
use Rattle.std.proofs.Common.{◌≡◌, List, [], ◌∷◌, ℕ, Option, Some, None, Result, Ok, Err, refl, sym, ap, subst, length}
use Rattle.scad_fault.specs.declared.status.Status.{Status}
use Rattle.scad_fault.specs.declared.status.Status.TheVariants.{Done, Source, Usage, Settings, Read, Write, Over, Memory, Outside, BadFile}
use Rattle.scad_io.specs.Desk.{Files, View}
use Rattle.scad_words.specs.declared.job.Command.{Command}
use Rattle.scad_words.specs.declared.job.Command.TheVariants.{Check, Tree, Slice, Plan, Sample, Verify}
use Rattle.scad_words.specs.declared.job.Job.{Job}
use Rattle.scad_words.specs.declared.settings.Settings.{Settings as SettingsOfRun}
use Rattle.scad_words.specs.Settings.{AreInRange}
use Rattle.scad_words.specs.Job.{job_of}
use Rattle.scad_script.specs.declared.loading.Input.{Input}
use Rattle.scad_script.specs.declared.loading.Input.TheVariants.{Whole, Long}
use Rattle.scad_script.specs.Steps.{Reads}
use Rattle.scad_script.specs.Script.{Script, first, ends}
use Rattle.scad_script.specs.Promises.{IsAnswered, Promised}
use Rattle.cli_text.specs.Cli.{Layer}
use Rattle.cli_read.specs.declared.fault.CliFault.{CliFault}
use Rattle.cli_read.specs.Reading.{reading}
use Rattle.scad_expr.specs.State.{State, Outcome, gives, refuses}
use Rattle.scad_tree.specs.Solid.{Solid}
use Rattle.scad_tree.specs.Solids.{AreSolids}
use Rattle.slice_work.specs.declared.want.Want.TheVariants.{Outlines as OutlinesAlone, Plan as WithPlan}
use Rattle.scad_slice.specs.Script.{slice_script, plan_script}
use Rattle.scad_slice.proofs.SomeParts.{parts_are_there}
use Rattle.scad_slice.proofs.OneLayer.{parts_are_one}
use Rattle.scad_run.specs.Words.{Case, model_of, case_of, given_by}
use Rattle.scad_run.specs.Meaning.{source_means}
use Rattle.scad_run.specs.SourceReport.{sample_script, echoed, told}
use Rattle.verdict_laws.specs.Opinion.{Opinions, IsWidth, AreRight}
use Rattle.scad_run.specs.Judging.{opinion_end, judged_end, judgement, whole_then, case_script}
use Rattle.scad_run.specs.Answer.{Parts, Findings, follows, input_script, model_read_first, model_script, case_or, after_settings, job_script, script_of}
use Rattle.scad_run.specs.Inputs.{Inputs, source_of, IsRead, source_in}
use Rattle.scad_run.specs.Answer.{ArePartsOfTree, ArePartsOf, AreDrawn, AreFoundBy, AreFound}
use Rattle.scad_run.specs.Promises.{IsWholeAnswer, Answers}
use Rattle.scad_run.specs.Laws.{AnswersAreThere, AnswersAreOne}
use Rattle.scad_run.proofs.Following.{settings_one}
use Rattle.scad_run.proofs.Sources.{sources_mean_solids, as_part}
use Rattle.scad_run.proofs.Heights.{found_in_range, width_in_range}
use Rattle.verdict_laws.proofs.Opinions.{opinions_are_one}
use Rattle.verdict_laws.proofs.Deciding.{opinions_are_there}

-- There are parts.

no_parts : Parts
no_parts want settings i = Ok (record { outlines = []; paths = []; runs = 0; supports = [] })

parts_of : (meaning : Outcome Solid) → ((tree : Solid) (s : State) → meaning ≡ gives tree s → AreSolids tree)
    → (parts : Parts) × ArePartsOf meaning parts
parts_of (gives tree s) solids = (
  λ want settings. (parts_are_there want settings tree (solids tree s refl)).0,
  λ want settings in_range i. (parts_are_there want settings tree (solids tree s refl)).1 i,
)
parts_of (refuses fault s) solids = (no_parts, tt)

source_parts : (input : Option Input) → (parts : Parts) × AreDrawn input parts
source_parts (Some (Whole source)) = parts_of (source_means source) (sources_mean_solids source)
source_parts (Some Long) = (no_parts, tt)
source_parts None = (no_parts, tt)

pub answers_are_there : AnswersAreThere
answers_are_there input = (
  record { parts = (source_parts input).0; opinions = opinions_are_there.0 },
  record { drawn = (source_parts input).1; right = opinions_are_there.1 },
)

-- There is one script.

follows_one : (command : Command) (settings : SettingsOfRun) (tree : Solid) (a b : Parts) → AreInRange settings
    → AreSolids tree
    → ArePartsOfTree tree a → ArePartsOfTree tree b → follows command settings a tree ≡ follows command settings b tree
follows_one (Check model) settings tree a b in_range solids of_a of_b = refl
follows_one (Tree model) settings tree a b in_range solids of_a of_b = refl
follows_one (Slice model cli) settings tree a b in_range solids of_a of_b =
    ap (λ part. slice_script settings cli part tree)
    (parts_are_one OutlinesAlone settings tree _ _ solids in_range
    (as_part tree a of_a OutlinesAlone settings in_range) (as_part tree b of_b OutlinesAlone settings in_range))
follows_one (Plan model cli gcode) settings tree a b in_range solids of_a of_b =
    ap (λ part. plan_script settings cli gcode part tree)
    (parts_are_one WithPlan settings tree _ _ solids in_range
    (as_part tree a of_a WithPlan settings in_range) (as_part tree b of_b WithPlan settings in_range))
follows_one (Verify outlines program) settings tree a b in_range solids of_a of_b = refl
follows_one (Sample n) settings tree a b in_range solids of_a of_b =
    ap (λ part. sample_script n settings part tree)
    (parts_are_one WithPlan settings tree _ _ solids in_range
    (as_part tree a of_a WithPlan settings in_range) (as_part tree b of_b WithPlan settings in_range))

source_one : (command : Command) (settings : SettingsOfRun) (meaning : Outcome Solid) (a b : Parts)
    → AreInRange settings
    → ((tree : Solid) (s : State) → meaning ≡ gives tree s → AreSolids tree) → ArePartsOf meaning a
    → ArePartsOf meaning b
    → told (follows command settings a) meaning ≡ told (follows command settings b) meaning
source_one command settings (gives tree s) a b in_range solids of_a of_b =
    ap (λ rest. echoed s.echoes rest) (follows_one command settings tree a b in_range (solids tree s refl) of_a of_b)
source_one command settings (refuses fault s) a b in_range solids of_a of_b = refl

input_one : (command : Command) (settings : SettingsOfRun) (input : Option Input) (a b : Parts) → AreInRange settings
    → AreDrawn input a → AreDrawn input b → input_script command settings a input ≡ input_script command settings b
    input
input_one command settings None a b in_range of_a of_b = refl
input_one command settings (Some Long) a b in_range of_a of_b = refl
input_one command settings (Some (Whole source)) a b in_range of_a of_b =
    source_one command settings (source_means source) a b in_range (sources_mean_solids source) of_a of_b

-- all right opinions give one judgement
judged_one : (a b : Opinions) (width : ℕ) (program : List ℕ) → AreRight a → AreRight b → IsWidth width
    → (read : Result (List Layer) CliFault) → judged_end a width program read ≡ judged_end b width program read
judged_one a b width program of_a of_b is_width (Ok layers) =
    ap (opinion_end (length layers)) (opinions_are_one a b of_a of_b layers width program is_width)
judged_one a b width program of_a of_b is_width (Err fault) = refl

whole_one : (read : Option Input) (f g : List ℕ → Script) → ((text : List ℕ) → f text ≡ g text)
    → whole_then read f ≡ whole_then read g
whole_one None f g same = refl
whole_one (Some Long) f g same = refl
whole_one (Some (Whole text)) f g same = same text

case_one : (case : Case) (outlines program : Option Input) (a b : Opinions) (width : ℕ) → AreRight a → AreRight b
    → IsWidth width
    → case_script case outlines program (judgement a width) ≡ case_script case outlines program (judgement b width)
case_one case outlines program a b width of_a of_b is_width =
    ap (λ s. first (Reads case.outlines ∷ []) s)
    (whole_one outlines _ _ (λ text. ap (λ s. first (Reads case.program ∷ []) s)
    (whole_one program _ _
    (λ other. ap ends (judged_one a b width other of_a of_b is_width (reading text))))))

after_one : (command : Command) (inputs : Inputs) (settings : SettingsOfRun) (case : Option Case) (a b : Findings)
    → AreInRange settings → AreFoundBy (source_of command inputs.model) a
    → AreFoundBy (source_of command inputs.model) b
    → case_or case a inputs settings (model_script command a.parts inputs.model settings)
    ≡ case_or case b inputs settings (model_script command b.parts inputs.model settings)
after_one command inputs settings None a b in_range of_a of_b =
    ap (λ s. model_read_first (model_of command) s)
    (input_one command settings (source_of command inputs.model) a.parts b.parts in_range of_a.drawn of_b.drawn)
after_one command inputs settings (Some case) a b in_range of_a of_b =
    case_one case inputs.outlines inputs.program a.opinions b.opinions settings.line_width of_a.right of_b.right
    (width_in_range settings in_range)

job_one : (job : Option Job) (inputs : Inputs) (a b : Findings) → AreFoundBy (source_in job inputs) a
    → AreFoundBy (source_in job inputs) b → job_script job a inputs ≡ job_script job b inputs
job_one None inputs a b of_a of_b = refl
job_one (Some job) inputs a b of_a of_b =
    settings_one job.settings inputs.settings (after_settings job.command a inputs)
    (after_settings job.command b inputs)
    (λ settings found. after_one job.command inputs settings (case_of job.command) a b
    (found_in_range job.settings inputs.settings settings found) of_a of_b)

pub answers_are_one : AnswersAreOne
answers_are_one words inputs a b of_a of_b = job_one (job_of words) inputs a b of_a of_b

-- The answer of a run, with all parts and all right opinions.

-- what each status promises, with all of them
abbrev pub PromisedOn : List (List ℕ) → Inputs → Status → View → View → Type 0
PromisedOn words inputs status old new =
    (found : Findings) → AreFound words inputs found → Promised (given_by words) (script_of words found inputs) status old
    new

told_answer : (words : List (List ℕ)) (files : Files) (inputs : Inputs) (status : Status) (old new : View)
    → IsRead words files inputs
    → ((found : Findings) → AreFound words inputs found → IsAnswered (script_of words found inputs) status old new)
    → IsWholeAnswer words files status old new
told_answer words None inputs status old new is answered = tt
told_answer words (Some contents) inputs status old new is answered =
    λ found of_all.
    subst (λ (i : Inputs). IsAnswered (script_of words found i) status old new) is
    (answered found (subst (λ (i : Inputs). AreFound words i found) (sym is) of_all))

pub answers : (words : List (List ℕ)) (files : Files) (inputs : Inputs) (status : Status) (old new : View)
    → IsRead words files inputs → PromisedOn words inputs status old new → Answers words files status old new
answers words files inputs Done old new is promised = told_answer words files inputs Done old new is promised
answers words files inputs (Source fault) old new is promised = told_answer words files inputs (Source fault) old new is
    promised
answers words files inputs Usage old new is promised = told_answer words files inputs Usage old new is promised
answers words files inputs (Settings fault) old new is promised = told_answer words files inputs (Settings fault) old
    new is promised
answers words files inputs Read old new is promised = tt
answers words files inputs Write old new is promised = tt
answers words files inputs (Over budget) old new is promised = told_answer words files inputs (Over budget) old new is
    promised
answers words files inputs Memory old new is promised = tt
answers words files inputs (Outside number line) old new is promised =
    told_answer words files inputs (Outside number line) old new is promised
answers words files inputs (BadFile kind first second) old new is promised =
    told_answer words files inputs (BadFile kind first second) old new is promised
