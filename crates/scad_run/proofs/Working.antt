-- The work of a job plays the script of the words and of what was read, with all drawings.
use Rattle.std.proofs.Common.{◌≡◌, List, ℕ, Option, Some, None, Result, Ok, Err, refl, sym, ap, ap₂, ◌∙◌, subst}
use Rattle.std.specs.Prelude.{IfSome}
use Rattle.std.specs.Option.{option_and_then}
use Rattle.scad_io.specs.Desk.{Files, View}
use Rattle.scad_words.specs.declared.job.Command.{Command}
use Rattle.scad_words.specs.declared.job.Job.{Job}
use Rattle.scad_words.specs.declared.settings.Settings.{Settings}
use Rattle.scad_words.specs.Job.{job_of}
use Rattle.scad_script.specs.declared.loading.Input.{Input}
use Rattle.scad_script.specs.declared.loading.Input.TheVariants.{Whole}
use Rattle.scad_script.specs.declared.refusal.Refusal.TheVariants.{Usage}
use Rattle.scad_script.specs.declared.stop.Stop.{Stop}
use Rattle.scad_script.specs.Script.{Script, Refuses, ends}
use Rattle.scad_script.specs.Play.{Left, Stops, EndsIn, Completes}
use Rattle.scad_script.proofs.Playing.{begun}
use Rattle.scad_script.proofs.Layers.{as_left}
use Rattle.scad_tree.specs.Solid.{Solid}
use Rattle.scad_expr.specs.State.{Outcome}
use Rattle.scad_run.specs.Words.{Case, model_of, case_of}
use Rattle.scad_run.specs.Meaning.{source_means, MeansTree}
use Rattle.scad_run.specs.SourceReport.{told}
use Rattle.scad_run.specs.Answer.{Parts, Findings, follows, input_script, model_read_first, model_script, settings_script}
use Rattle.scad_run.specs.Answer.{case_or, after_settings}
use Rattle.scad_run.specs.Answer.{command_script}
use Rattle.scad_run.specs.Inputs.{Inputs}
use Rattle.scad_run.specs.Answer.{job_script, script_of, ArePartsOfTree}
use Rattle.scad_run.specs.Inputs.{source_of, settings_read, text_read, model_read, read_of, IsRead}
use Rattle.scad_run.specs.Inputs.{file_read, outlines_named, program_named, outlines_read, program_read}
use Rattle.scad_run.specs.Answer.{ArePartsOf, AreDrawn, AreFoundBy}
use Rattle.scad_run.specs.Inputs.{source_in}
use Rattle.scad_run.specs.Playing.{AsksNothing, Settled, Settles, Gets, Draws, Judges, Works}

-- the files tell that this was read of the model, where one is named
abbrev pub IsToldOf : Files → Option (List ℕ) → Option Input → Type 0
IsToldOf files model read = IfSome files (λ contents. read ≡ text_read model contents)

-- the files tell that this was read of the settings that are named
abbrev pub IsToldAs : Files → Option (List ℕ) → Option (List ℕ) → Type 0
IsToldAs files name read = IfSome files (λ contents. read ≡ option_and_then contents name)

-- What was read.

pub model_read_as : (words : List (List ℕ)) (contents : List ℕ → Option (List ℕ)) (job : Job) → job_of words ≡ Some job
    → model_read (job_of words) contents ≡ text_read (model_of job.command) contents
model_read_as words contents job form = ap (λ j. model_read j contents) form

pub settings_read_as : (words : List (List ℕ)) (contents : List ℕ → Option (List ℕ)) (job : Job)
    → job_of words ≡ Some job
    → settings_read (job_of words) contents ≡ option_and_then contents job.settings
settings_read_as words contents job form = ap (λ j. settings_read j contents) form

-- what is there to read, where nothing was read
abbrev unread : List (List ℕ) → Files → Inputs
unread words None = record { settings = None; model = None; outlines = None; program = None }
unread words (Some contents) = read_of words contents

unread_is : (words : List (List ℕ)) (files : Files) → IsRead words files (unread words files)
unread_is words None = tt
unread_is words (Some contents) = refl

-- this was read of the settings, and no other file
settings_alone : (words : List (List ℕ)) (files : Files) (job : Job) (read : Option (List ℕ)) → job_of words ≡ Some job
    → IsToldAs files job.settings read
    → IsRead words files (record (unread words files) { settings = read })
settings_alone words None job read form told = tt
settings_alone words (Some contents) job read form told =
    ap (λ text. record (read_of words contents) { settings = text })
    (told ∙ sym (settings_read_as words contents job form))

-- and this of the model
model_too : (words : List (List ℕ)) (files : Files) (job : Job) (read : Option (List ℕ)) (model : Option Input)
    → job_of words ≡ Some job
    → IsToldAs files job.settings read → IsToldOf files (model_of job.command) model
    → IsRead words files (record (unread words files) { settings = read; model = model })
model_too words None job read model form told_settings told_model = tt
model_too words (Some contents) job read model form told_settings told_model =
    let text : read ≡ settings_read (job_of words) contents = told_settings ∙ sym (settings_read_as words contents job
    form) in
    let source : model ≡ model_read (job_of words) contents = told_model ∙ sym (model_read_as words contents job form)
    in
    ap₂ (λ (t : Option (List ℕ)) (m : Option Input). record (read_of words contents) { settings = t; model = m }) text
    source

-- the files tell that this was read of both files of a case
abbrev IsToldOfBoth : Files → Case → Option Input → Option Input → Type 0
IsToldOfBoth files case outlines program = IfSome files (λ contents.
    (outlines ≡ file_read (Some case.outlines) contents) × (program ≡ file_read (Some case.program) contents))

-- or this of both files that are judged
both_too : (words : List (List ℕ)) (files : Files) (job : Job) (case : Case) (read : Option (List ℕ))
    (outlines program : Option Input) → job_of words ≡ Some job → case_of job.command ≡ Some case
    → IsToldAs files job.settings read → IsToldOfBoth files case outlines program
    → IsRead words files (record (unread words files) { settings = read; outlines = outlines; program = program })
both_too words None job case read outlines program form named told_settings told_both = tt
both_too words (Some contents) job case read outlines program form named told_settings told_both =
    let text : read ≡ settings_read (job_of words) contents = told_settings ∙ sym (settings_read_as words contents job
    form) in
    let first : outlines ≡ outlines_read (job_of words) contents =
    told_both.0 ∙ sym (ap (λ j. outlines_read j contents) form
    ∙ ap (λ c. file_read (outlines_named c) contents) named) in
    let second : program ≡ program_read (job_of words) contents =
    told_both.1 ∙ sym (ap (λ j. program_read j contents) form
    ∙ ap (λ c. file_read (program_named c) contents) named) in
    ap (λ (t : Option (List ℕ)). record (read_of words contents) { settings = t; outlines = outlines; program = program })
    text
    ∙ ap₂ (λ (o p : Option Input). record (read_of words contents) { outlines = o; program = p }) first second

-- The script was played.

module _ (words : List (List ℕ)) (files : Files) (job : Job) (form : job_of words ≡ Some job) where
  -- the settings were read, so that what follows them comes next
  next : (settings : Settings) (found : Findings) (inputs : Inputs) (old here : View)
      → ((follows : Settings → Script) (whole : Script) (start : View)
      → Left whole (settings_script job.settings inputs.settings follows) start old
      → Settled follows whole (Ok settings) start here)
      → Left (command_script job.command job.settings found inputs) (after_settings job.command found inputs settings)
      old here
  next settings found inputs old here goes =
      let whole = command_script job.command job.settings found inputs in
      goes (after_settings job.command found inputs) whole old (begun whole old)

  -- the source was read or made, and what follows it was played
  pub works_drawing : (settings : Settings) (result : Result (List ℕ) Stop) (later : Files) (old here new : View)
      → Settles job.settings files (Ok settings) old here → later ≡ files → case_of job.command ≡ None
      → Draws job.command settings later result here new → Works words files result old new
  works_drawing settings result later old here new settles unmoved none draws =
      let inputs : Inputs = record (unread words files) { settings = settles.read; model = draws.read } in
      let there = subst (λ (fs : Files). IsToldOf fs (model_of job.command) draws.read) unmoved draws.told in
      record {
        inputs = inputs;
        read = model_too words files job settles.read draws.read form settles.told there;
        plays = λ found of_all.
            let whole = command_script job.command job.settings found inputs in
            let of_job = subst (λ (j : Option Job). AreFoundBy (source_in j inputs) found) form of_all in
            let rest = model_script job.command found.parts draws.read settings in
            let alone = ap (λ c. case_or c found inputs settings rest) none in
            subst (λ (j : Option Job). EndsIn (job_script j found inputs) result old new) (sym form)
            (draws.goes found.parts of_job.drawn whole old
            (as_left alone (next settings found inputs old here settles.goes)));
      }

  -- both files were read and judged
  pub works_judging : (settings : Settings) (case : Case) (result : Result (List ℕ) Stop) (later : Files)
      (old here new : View)
      → Settles job.settings files (Ok settings) old here → later ≡ files → case_of job.command ≡ Some case
      → Judges case settings.line_width later result here new → Works words files result old new
  works_judging settings case result later old here new settles unmoved named judges =
      let inputs : Inputs =
      record (unread words files) { settings = settles.read; outlines = judges.outlines; program = judges.program } in
      let there = subst (λ (fs : Files). IsToldOfBoth fs case judges.outlines judges.program) unmoved judges.told in
      record {
        inputs = inputs;
        read = both_too words files job case settles.read judges.outlines judges.program form named settles.told there;
        plays = λ found of_all.
            let whole = command_script job.command job.settings found inputs in
            let rest = model_script job.command found.parts inputs.model settings in
            let judged = ap (λ c. case_or c found inputs settings rest) named in
            subst (λ (j : Option Job). EndsIn (job_script j found inputs) result old new) (sym form)
            (judges.goes found.opinions of_all.right whole old
            (as_left judged (next settings found inputs old here settles.goes)));
      }

  -- the settings were not read, or are refused
  pub stops_settling : (result : Result (List ℕ) Stop) (stop : Stop) (old new : View)
      → Settles job.settings files (Err stop) old new
      → result ≡ Err stop → Works words files result old new
  stops_settling result stop old new settles is =
      let inputs : Inputs = record (unread words files) { settings = settles.read } in
      subst (λ (r : Result (List ℕ) Stop). Works words files r old new) (sym is)
      (record {
        inputs = inputs;
        read = settings_alone words files job settles.read form settles.told;
        plays = λ found of_all.
            let whole = command_script job.command job.settings found inputs in
            subst (λ (j : Option Job). EndsIn (job_script j found inputs) (Err stop) old new) (sym form)
            (settles.goes (after_settings job.command found inputs) whole old (begun whole old));
      })

-- The source of a command.

-- the model is read next, where one is named
abbrev ReadsModel : Option (List ℕ) → Script → Script → View → View → Type 0
ReadsModel model whole rest start old = Left whole (model_read_first model rest) start old

-- it was read or made, and what follows it was played
pub source_drawn : (command : Command) (settings : Settings) (files : Files) (input : Input) (result : Result (List ℕ) Stop)
    (old mid new : View)
    → Gets command files input
    → ((whole rest : Script) (start : View) → ReadsModel (model_of command) whole rest start old
    → Left whole rest start mid)
    → ((parts : Parts) → AreDrawn (Some input) parts
    → Completes (input_script command settings parts (Some input)) result mid new)
    → Draws command settings files result old new
source_drawn command settings files input result old mid new gets reads completes =
    record {
      read = gets.read;
      told = gets.told;
      goes = λ parts drawn whole start left.
          let of_input = subst (λ (i : Option Input). AreDrawn i parts) gets.gives drawn in
          let named = ap (λ i. model_read_first (model_of command) (input_script command settings parts i)) gets.gives in
          completes parts of_input whole start
          (reads whole (input_script command settings parts (Some input)) start (as_left named left));
    }

-- what is there to read of a model
abbrev model_there : Option (List ℕ) → Files → Option Input
model_there model None = None
model_there model (Some contents) = text_read model contents

model_there_is : (model : Option (List ℕ)) (files : Files) → IsToldOf files model (model_there model files)
model_there_is model None = tt
model_there_is model (Some contents) = refl

-- it was not read
pub source_not_drawn : (command : Command) (settings : Settings) (files : Files) (result : Result (List ℕ) Stop)
    (stop : Stop) (old new : View)
    → ((whole rest : Script) (start : View) → ReadsModel (model_of command) whole rest start old
    → Stops whole stop start new)
    → result ≡ Err stop → Draws command settings files result old new
source_not_drawn command settings files result stop old new stops is =
    let read = model_there (model_of command) files in
    record {
      read = read;
      told = model_there_is (model_of command) files;
      goes = λ parts drawn whole start left.
          subst (λ (r : Result (List ℕ) Stop). EndsIn whole r start new) (sym is)
          (stops whole (input_script command settings parts (source_of command read)) start left);
    }

-- the words ask for nothing, or memory was wanting for them
asks_nothing : (words : List (List ℕ)) (files : Files) (stop : Stop) (old : View) → AsksNothing (job_of words) stop
    → Works words files (Err stop) old old
asks_nothing words files (Stop.Ends refusal) old (is, form) =
    record {
      inputs = unread words files;
      read = unread_is words files;
      plays = λ found of_all.
          subst (λ (j : Option Job). EndsIn (job_script j found (unread words files)) (Err (Stop.Ends refusal)) old old)
          (sym form)
          (as_left (ap (λ r. ends (Refuses r)) (sym is)) (begun (ends (Refuses Usage)) old));
    }
asks_nothing words files Stop.Memory old free =
    record {
      inputs = unread words files;
      read = unread_is words files;
      plays = λ found of_all. let whole = script_of words found (unread words files) in (whole, begun whole old);
    }
asks_nothing words files Stop.Read old impossible = absurd impossible
asks_nothing words files Stop.Write old impossible = absurd impossible
asks_nothing words files Stop.Silent old impossible = absurd impossible

pub refuses_words : (words : List (List ℕ)) (files : Files) (result : Result (List ℕ) Stop) (stop : Stop) (old : View)
    → AsksNothing (job_of words) stop → result ≡ Err stop → Works words files result old old
refuses_words words files result stop old nothing is =
    subst (λ (r : Result (List ℕ) Stop). Works words files r old old) (sym is) (asks_nothing words files stop old
    nothing)

-- The source was evaluated, and what follows its tree was played.

abbrev pub PlaysOn : Command → Settings → Solid → Result (List ℕ) Stop → View → View → Type 0
PlaysOn command settings tree result old new =
    (parts : Parts) → ArePartsOfTree tree parts → Completes (follows command settings parts tree) result old new

-- parts of what a source means are those of its tree
pub parts_meant : (source : List ℕ) (tree : Solid) (parts : Parts) → MeansTree tree source
    → ArePartsOf (source_means source) parts
    → ArePartsOfTree tree parts
parts_meant source tree parts (s, is) drawn = subst (λ (m : Outcome Solid). ArePartsOf m parts) is drawn

pub source_follows : (command : Command) (settings : Settings) (text source : List ℕ) (input : Input) (tree : Solid)
    (result : Result (List ℕ) Stop)
    (old mid new : View) → input ≡ Whole source → text ≡ source → MeansTree tree text
    → ((f : Solid → Script) (whole : Script) (start : View) → Left whole (told f (source_means text)) start old
    → Left whole (f tree) start mid)
    → PlaysOn command settings tree result mid new
    → (parts : Parts) → AreDrawn (Some input) parts → Completes (input_script command settings parts (Some input))
    result old new
source_follows command settings text source input tree result old mid new is same means tells plays parts drawn whole
    start left =
    let input_is : input ≡ Whole text = is ∙ ap Whole (sym same) in
    let of_text = subst (λ (i : Input). AreDrawn (Some i) parts) input_is drawn in
    plays parts (parts_meant text tree parts means of_text) whole start
    (tells (follows command settings parts) whole start (as_left (ap (λ i. input_script command settings parts (Some i))
    input_is) left))

pub source_stops : (command : Command) (settings : Settings) (text source : List ℕ) (input : Input) (stop : Stop)
    (result : Result (List ℕ) Stop)
    (old new : View) → input ≡ Whole source → text ≡ source → result ≡ Err stop
    → ((f : Solid → Script) (whole : Script) (start : View) → Left whole (told f (source_means text)) start old
    → Stops whole stop start new)
    → (parts : Parts) → AreDrawn (Some input) parts → Completes (input_script command settings parts (Some input))
    result old new
source_stops command settings text source input stop result old new is same fails tells parts drawn whole start left =
    let input_is : input ≡ Whole text = is ∙ ap Whole (sym same) in
    subst (λ (r : Result (List ℕ) Stop). EndsIn whole r start new) (sym fails)
    (tells (follows command settings parts) whole start (as_left (ap (λ i. input_script command settings parts (Some i))
    input_is) left))
