-- What `slice` and `plan` wrote where all is done.
use Rattle.std.proofs.Common.{◌≡◌, List, ℕ, Option, Some, None, inl, inr, refl, sym, ◌∙◌, subst}
use Rattle.scad_fault.specs.declared.status.Status.{Status}
use Rattle.scad_fault.specs.declared.status.Status.TheVariants.{Done}
use Rattle.scad_io.specs.Desk.{Files, View}
use Rattle.scad_io.specs.declared.desk.Out.TheVariants.{Cli, Gcode}
use Rattle.scad_words.specs.declared.job.Command.{Command}
use Rattle.scad_words.specs.declared.job.Command.TheVariants.{Check, Tree, Slice, Plan, Sample, Verify}
use Rattle.scad_words.specs.declared.job.Job.{Job}
use Rattle.scad_words.specs.declared.settings.Settings.{Settings as SettingsOfRun}
use Rattle.scad_words.specs.Settings.{AreInRange}
use Rattle.scad_words.specs.Job.{job_of}
use Rattle.scad_script.specs.declared.loading.Input.{Input}
use Rattle.scad_script.specs.declared.loading.Input.TheVariants.{Whole}
use Rattle.scad_script.specs.declared.refusal.Refusal.TheVariants.{Over}
use Rattle.scad_script.specs.Steps.{text_of}
use Rattle.scad_script.specs.Script.{Script, Ending, Finishes, Refuses}
use Rattle.scad_script.specs.Promises.{Adds, IsAnswered, Promised}
use Rattle.scad_tree.specs.Solid.{Solid}
use Rattle.scad_tree.specs.Solids.{AreSolids}
use Rattle.cli_text.specs.Cli.{Layer, cli as text_of_layers}
use Rattle.slice_work.specs.declared.want.Want.TheVariants.{Outlines as OutlinesAlone, Plan as WithPlan}
use Rattle.scad_slice.specs.Budgets.{layer_count}
use Rattle.scad_slice.specs.Parts.{layers_of}
use Rattle.scad_slice.specs.Membership.{HoldTree}
use Rattle.scad_slice.proofs.Holding.{parts_hold}
use Rattle.scad_slice.proofs.Texts.{slices_are_whole, plans_are_whole}
use Rattle.scad_run.specs.Words.{model_of, cli_of, case_of, given_by}
use Rattle.scad_run.specs.Answer.{Parts, Findings, follows, job_script, script_of, ArePartsOfTree, AreDrawn, AreFoundBy, AreFound}
use Rattle.scad_run.specs.Inputs.{Inputs, source_of, source_in, IsRead, settings_found}
use Rattle.scad_run.specs.Promises.{OutlinesHoldTree}
use Rattle.scad_run.specs.Causes.{AreJudged}
use Rattle.scad_run.specs.Meaning.{MeansTree}
use Rattle.scad_run.proofs.Working.{parts_meant}
use Rattle.scad_run.proofs.Sources.{sources_mean_solids, as_part}
use Rattle.scad_run.proofs.Heights.{found_in_range}
use Rattle.scad_run.proofs.FileReport.{source_is, settings_are}
use Rattle.scad_run.proofs.Answering.{done_finishes}
use Rattle.scad_run.proofs.ScriptReach.{EndsBefore, IsFollowed, Reaches, reached}
use Rattle.scad_run.proofs.Ends.{IsDone, IsOver, EndsBy, follows_end}

-- ---- a job that is done

-- its settings, its source and its tree, of which this was found, and the texts that it wrote
pub record IsFinished (job : Job) (inputs : Inputs) (parts : Parts) (old new : View) : Type 0 where
  pub settings : SettingsOfRun
  pub found : settings_found job.settings inputs.settings ≡ Some settings
  pub in_range : AreInRange settings
  pub source : List ℕ
  pub there : source_in (Some job) inputs ≡ Some (Whole source)
  pub tree : Solid
  pub means : MeansTree tree source
  pub solids : AreSolids tree
  pub of_tree : ArePartsOfTree tree parts
  pub done : IsDone job.command settings parts tree
  pub cli : Adds (text_of Cli (follows job.command settings parts tree).steps) old.cli new.cli
  pub gcode : Adds (text_of Gcode (follows job.command settings parts tree).steps) old.gcode new.gcode

finished_by : (job : Job) (inputs : Inputs) (parts : Parts) (whole : Script) (old new : View)
    → (f : IsFollowed job inputs parts whole)
    → AreDrawn (source_in (Some job) inputs) parts → IsAnswered whole Done old new
    → EndsBy (IsDone job.command f.settings parts f.tree) (IsOver job.command f.settings parts f.tree)
    (follows job.command f.settings parts f.tree).ending
    → IsFinished job inputs parts old new
finished_by job inputs parts whole old new f drawn answered (inr (budget, is, over)) =
    let finishes = done_finishes whole.steps whole.ending old new answered in
    let other : Finishes finishes.0 ≡ Refuses (Over budget) = sym finishes.1 ∙ f.ending ∙ is in
    let never : ⊥ = cc in absurd never
finished_by job inputs parts whole old new f drawn answered (inl (line, is, done)) =
    let finishes = done_finishes whole.steps whole.ending old new answered in
    let texts = subst (λ (e : Ending). IsAnswered (record { steps = whole.steps; ending = e }) Done old new) finishes.1
    answered in
    record {
      settings = f.settings;
      found = f.found;
      in_range = found_in_range job.settings inputs.settings f.settings f.found;
      source = f.source;
      there = f.there;
      tree = f.tree;
      means = (f.state, f.means);
      solids = sources_mean_solids f.source f.tree f.state f.means;
      of_tree = parts_meant f.source f.tree parts (f.state, f.means) (subst (λ (i : Option Input). AreDrawn i parts)
          f.there drawn);
      done = done;
      cli = subst (λ (text : List ℕ). Adds text old.cli new.cli) f.cli texts.2;
      gcode = subst (λ (text : List ℕ). Adds text old.gcode new.gcode) f.gcode texts.3;
    }

-- a job that judges no files
none_judged : (job : Job) (inputs : Inputs) → case_of job.command ≡ None → AreJudged job inputs → ⊥
none_judged job inputs none judged =
    let other : None ≡ Some judged.case = sym none ∙ judged.named in let never : ⊥ = cc in never

job_finished : (job : Job) (inputs : Inputs) (found : Findings) (whole : Script) (old new : View)
    → case_of job.command ≡ None → Reaches job inputs found whole
    → AreFoundBy (source_in (Some job) inputs) found → IsAnswered whole Done old new
    → IsFinished job inputs found.parts old new
job_finished job inputs found whole old new none (inl stopped) of_all answered =
    let inside = subst (EndsBefore job inputs found.opinions)
    (done_finishes whole.steps whole.ending old new answered).1 stopped.why in
    absurd (none_judged job inputs none inside.1.judged)
job_finished job inputs found whole old new none (inr f) of_all answered =
    finished_by job inputs found.parts whole old new f of_all.drawn answered
    (follows_end job.command f.settings found.parts f.tree)

-- the job of the words
pub words_finished : (words : List (List ℕ)) (inputs : Inputs) (found : Findings) (status : Status) (old new : View)
    (job : Job) → AreFound words inputs found
    → Promised (given_by words) (script_of words found inputs) status old new
    → status ≡ Done → job_of words ≡ Some job → case_of job.command ≡ None
    → IsFinished job inputs found.parts old new
words_finished words inputs found status old new job of_all promised done form none =
    let answered : IsAnswered (script_of words found inputs) Done old new =
    subst (λ (s : Status). Promised (given_by words) (script_of words found inputs) s old new) done promised
    in
    job_finished job inputs found (job_script (Some job) found inputs) old new none (reached job inputs found)
    (subst (λ (j : Option Job). AreFoundBy (source_in j inputs) found) form of_all)
    (subst (λ (j : Option Job). IsAnswered (job_script j found inputs) Done old new) form answered)

-- ---- the outlines

-- a source that is read from a file is what was read of it
read_is : (command : Command) (model : List ℕ) (read : Option Input) → model_of command ≡ Some model
    → source_of command read ≡ read
read_is (Check m) model read named = refl
read_is (Tree m) model read named = refl
read_is (Slice m cli) model read named = refl
read_is (Plan m cli gcode) model read named = refl
read_is (Sample n) model read named = let never : ⊥ = cc in absurd never
read_is (Verify outlines program) model read named = let never : ⊥ = cc in absurd never

-- the layers that were written
pub record AreWritten (settings : SettingsOfRun) (tree : Solid) (old new : View) : Type 0 where
  pub layers : List Layer
  pub text : Adds (text_of_layers layers) old.cli new.cli
  pub hold : HoldTree settings.layer_height tree layers

command_written : (command : Command) (cli : List ℕ) (settings : SettingsOfRun) (parts : Parts) (tree : Solid)
    (old new : View)
    → cli_of command ≡ Some cli → AreInRange settings → AreSolids tree → ArePartsOfTree tree parts
    → IsDone command settings parts tree
    → Adds (text_of Cli (follows command settings parts tree).steps) old.cli new.cli → AreWritten settings tree old new
command_written (Check m) cli settings parts tree old new named in_range solids of_tree done added = let never : ⊥ = cc in absurd never
command_written (Tree m) cli settings parts tree old new named in_range solids of_tree done added = let never : ⊥ = cc in absurd never
command_written (Slice m c) cli settings parts tree old new named in_range solids of_tree whole added =
    let part = parts OutlinesAlone settings in
    record {
      layers = layers_of settings.layer_height part (layer_count settings.layer_height tree);
      text = subst (λ (text : List ℕ). Adds text old.cli new.cli) (slices_are_whole settings c part tree whole) added;
      hold = parts_hold OutlinesAlone settings tree part solids in_range
          (as_part tree parts of_tree OutlinesAlone settings in_range)
          whole.made;
    }
command_written (Plan m c g) cli settings parts tree old new named in_range solids of_tree whole added =
    let part = parts WithPlan settings in
    record {
      layers = layers_of settings.layer_height part (layer_count settings.layer_height tree);
      text = subst (λ (text : List ℕ). Adds text old.cli new.cli) (plans_are_whole settings c g part tree whole) added;
      hold = parts_hold WithPlan settings tree part solids in_range (as_part tree parts of_tree WithPlan settings
          in_range) whole.made;
    }
command_written (Sample n) cli settings parts tree old new named in_range solids of_tree done added = let never : ⊥ = cc in absurd never
command_written (Verify outlines program) cli settings parts tree old new named in_range solids of_tree done added = let never : ⊥ = cc in absurd never

-- a command that reads a model judges no files
model_alone : (command : Command) (model : List ℕ) → model_of command ≡ Some model → case_of command ≡ None
model_alone (Check m) model named = refl
model_alone (Tree m) model named = refl
model_alone (Slice m cli) model named = refl
model_alone (Plan m cli gcode) model named = refl
model_alone (Sample n) model named = refl
model_alone (Verify outlines program) model named = let never : ⊥ = cc in absurd never

pub holds_tree : (words : List (List ℕ)) (files : Files) (inputs : Inputs) (found : Findings) (status : Status)
    (old new : View)
    → IsRead words files inputs → AreFound words inputs found → Promised (given_by words) (script_of words found inputs)
    status old new
    → status ≡ Done → OutlinesHoldTree words files old new
holds_tree words files inputs found status old new is of_all promised done job model cli form named file =
    let f = words_finished words inputs found status old new job of_all promised done form
    (model_alone job.command model named) in
    let w = command_written job.command cli f.settings found.parts f.tree old new file f.in_range f.solids f.of_tree f.done
    f.cli in (
      f.settings,
      f.tree,
      w.layers,
      settings_are words files inputs job f.settings form is f.found,
      source_is words files inputs job model f.source f.tree form named is
          (sym (read_is job.command model inputs.model named) ∙ f.there) f.means,
      w.text,
      w.hold,
    )
