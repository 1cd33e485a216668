-- A source that a command accepts is done to its end.
use Rattle.std.proofs.Common.{◌≡◌, ◌⊎◌, ◌<◌, ◌≤◌, List, ℕ, Option, Some, None, Ok, Err, inl, inr, refl, sym, ap, ◌∙◌, subst, arith}
use Rattle.scad_fault.specs.declared.budget.Budget.{Budget}
use Rattle.scad_fault.specs.declared.status.Status.{Status}
use Rattle.scad_fault.specs.declared.status.Status.TheVariants.{Done, Read, Write, Memory}
use Rattle.scad_io.specs.Desk.{Files, View}
use Rattle.scad_words.specs.declared.job.Command.{Command}
use Rattle.scad_words.specs.declared.job.Command.TheVariants.{Check, Tree, Slice, Plan, Sample, Verify}
use Rattle.scad_words.specs.declared.job.Job.{Job}
use Rattle.scad_words.specs.declared.settings.Settings.{Settings as SettingsOfRun}
use Rattle.scad_words.specs.Settings.{AreInRange}
use Rattle.scad_words.specs.Job.{job_of}
use Rattle.scad_script.specs.declared.loading.Input.{Input}
use Rattle.scad_script.specs.declared.loading.Input.TheVariants.{Whole}
use Rattle.scad_script.specs.Steps.{Step}
use Rattle.scad_script.specs.Script.{Script, Ending, Finishes}
use Rattle.scad_script.specs.Names.{Given}
use Rattle.scad_script.specs.Promises.{IsAnswered, Promised}
use Rattle.scad_tree.specs.Solid.{Solid}
use Rattle.scad_tree.specs.Solids.{AreSolids}
use Rattle.slice_work.specs.declared.want.Want.{Want}
use Rattle.slice_work.specs.declared.want.Want.TheVariants.{Outlines as OutlinesAlone, Plan as WithPlan}
use Rattle.slice_work.specs.Part.{Part, layer_limit}
use Rattle.scad_slice.specs.Budgets.{layer_count}
use Rattle.scad_slice.specs.Parts.{IsPart}
use Rattle.scad_slice.proofs.OneLayer.{layer_is_one}
use Rattle.scad_run.specs.Words.{model_of, case_of, given_by}
use Rattle.scad_run.specs.SourceReport.{told}
use Rattle.scad_run.specs.Answer.{Parts, Findings, follows, input_script, model_read_first, model_script, case_or, after_settings, job_script, script_of}
use Rattle.scad_run.specs.Inputs.{Inputs, source_of, source_in, text_read, IsRead, settings_found, GoBy}
use Rattle.scad_run.specs.Answer.{ArePartsOfTree, AreDrawn, AreFoundBy, AreFound}
use Rattle.scad_run.specs.Promises.{CanBeDrawn, Accepts, IsAccepted, IsComplete}
use Rattle.scad_slice.specs.Layer.{IsWithinLimits}
use Rattle.scad_run.specs.Causes.{HasManyLayers}
use Rattle.scad_run.proofs.Answering.{answered_by}
use Rattle.scad_run.proofs.Working.{model_read_as, settings_read_as, parts_meant}
use Rattle.scad_run.proofs.Following.{settings_end}
use Rattle.scad_run.proofs.Sources.{sources_mean_solids, as_part}
use Rattle.scad_run.proofs.Heights.{found_in_range}
use Rattle.scad_run.proofs.Ends.{IsDone, IsDrawnOver, IsOver, EndsBy, part_passes, follows_end}

-- an accepted tree passes no budget

module _ (settings : SettingsOfRun) (tree : Solid) (in_range : AreInRange settings) (solids : AreSolids tree) where
  few_layers : (budget : Budget) → layer_count settings.layer_height tree ≤ layer_limit
      → HasManyLayers settings tree budget → ⊥
  few_layers budget few (many, is) = omega (arith, few, many)

  -- a layer that can be laid out passes none
  layer_made : (want : Want) (part : Part) (i : ℕ) (budget : Budget) → IsPart want settings tree part
      → IsWithinLimits want settings tree i
      → part i ≡ Err budget → ⊥
  layer_made want part i budget is_part (layout, is) passes =
      let same : Ok layout ≡ Err budget = layer_is_one want settings tree i solids in_range (Ok layout) (part i) is
      (is_part i) ∙ passes in
      let never : ⊥ = cc in absurd never

  drawn_within : (want : Want) (creates : List Step) (line : List ℕ) (part : Part) (budget : Budget)
      → IsPart want settings tree part
      → CanBeDrawn want settings tree → IsDrawnOver want settings creates line part tree budget → ⊥
  drawn_within want creates line part budget is_part (few, each) (inl many) = few_layers budget few many
  drawn_within want creates line part budget is_part (few, each) (inr cuts) =
      let p = part_passes want settings creates line part tree budget cuts in
      layer_made want part p.layer budget is_part (each p.layer p.there) p.passes

  accepted_within : (command : Command) (parts : Parts) (budget : Budget) → ArePartsOfTree tree parts
      → Accepts command settings tree
      → IsOver command settings parts tree budget → ⊥
  accepted_within (Check model) parts budget of_tree few over = few_layers budget few over
  accepted_within (Tree model) parts budget of_tree accepts over = over
  accepted_within (Slice model cli) parts budget of_tree accepts over =
      drawn_within OutlinesAlone _ _ (parts OutlinesAlone settings) budget
      (as_part tree parts of_tree OutlinesAlone settings in_range)
      accepts over
  accepted_within (Plan model cli gcode) parts budget of_tree accepts over =
      drawn_within WithPlan _ _ (parts WithPlan settings) budget (as_part tree parts of_tree WithPlan settings in_range)
      accepts over
  accepted_within (Verify outlines program) parts budget of_tree accepts over = over
  accepted_within (Sample n) parts budget of_tree accepts over =
      drawn_within WithPlan _ _ (parts WithPlan settings) budget (as_part tree parts of_tree WithPlan settings in_range)
      accepts over

-- so what follows it ends with a last line
accepted_ends : (command : Command) (settings : SettingsOfRun) (parts : Parts) (tree : Solid) → AreInRange settings
    → AreSolids tree
    → ArePartsOfTree tree parts → Accepts command settings tree
    → EndsBy (IsDone command settings parts tree) (IsOver command settings parts tree) (follows command settings parts
    tree).ending
    → (line : List ℕ) × ((follows command settings parts tree).ending ≡ Finishes line)
accepted_ends command settings parts tree in_range solids of_tree accepts (inl (line, is, done)) = (line, is)
accepted_ends command settings parts tree in_range solids of_tree accepts (inr (budget, is, over)) =
    absurd (accepted_within settings tree in_range solids command parts budget of_tree accepts over)

-- an answer to a script that finishes is that all is done
done_of : (whole : Script) (line : List ℕ) (status : Status) (old new : View) → whole.ending ≡ Finishes line
    → IsAnswered whole status old new → status ≡ Done
done_of whole line status old new is answered =
    let finished = subst (λ (e : Ending). IsAnswered (record { steps = whole.steps; ending = e }) status old new) is
    answered in
    sym finished.0

-- a script that finishes is done, but for a fault or want of memory
done_by : (given : Given) (whole : Script) (status : Status) (old new : View)
    → (line : List ℕ) × (whole.ending ≡ Finishes line) → Promised given whole status old new
    → (status ≡ Read → ⊥) → (status ≡ Write → ⊥) → (status ≡ Done) ⊎ (status ≡ Memory)
done_by given whole status old new (line, is) promised read write =
    elim (answered_by given whole status old new promised read write) [
      | inl answered ↦ inl (done_of whole line status old new is answered)
      | inr want ↦ inr want
    ]

-- no fault rose where the count stands
pub no_rise : (before now : ℕ) → now ≡ before → before < now → ⊥
no_rise before now same rises = omega (arith, same, rises)

-- a command that has a source judges no files
source_alone : (command : Command) (read : Option Input) (input : Input) → source_of command read ≡ Some input
    → case_of command ≡ None
source_alone (Check m) read input there = refl
source_alone (Tree m) read input there = refl
source_alone (Slice m cli) read input there = refl
source_alone (Plan m cli gcode) read input there = refl
source_alone (Sample n) read input there = refl
source_alone (Verify outlines program) read input there = let never : ⊥ = cc in absurd never

-- the script of a job whose source is accepted
job_ends : (job : Job) (findings : Findings) (inputs : Inputs) (settings : SettingsOfRun) (source : List ℕ)
    → settings_found job.settings inputs.settings ≡ Some settings → source_in (Some job) inputs ≡ Some (Whole source)
    → IsAccepted job.command settings source → AreDrawn (source_in (Some job) inputs) findings.parts
    → (line : List ℕ) × ((job_script (Some job) findings inputs).ending ≡ Finishes line)
job_ends job findings inputs settings source found there (tree, (s, is), accepts) drawn =
    let parts = findings.parts in
    let alone = source_alone job.command inputs.model (Whole source) there in
    let of_source = subst (λ (i : Option Input). AreDrawn i parts) there drawn in
    let of_tree = parts_meant source tree parts (s, is) of_source in
    let are_solids = sources_mean_solids source tree s is in
    let in_range = found_in_range job.settings inputs.settings settings found in
    let ends = accepted_ends job.command settings parts tree in_range are_solids of_tree accepts
    (follows_end job.command settings parts tree) in (
      ends.0,
      settings_end job.settings inputs.settings (after_settings job.command findings inputs) settings found
          ∙ ap (λ c. (case_or c findings inputs settings (model_script job.command parts inputs.model settings)).ending)
          alone
          ∙ model_ends (model_of job.command) (input_script job.command settings parts
          (source_of job.command inputs.model))
          ∙ ap (λ i. (input_script job.command settings parts i).ending) there
          ∙ ap (λ m. (told (follows job.command settings parts) m).ending) is ∙ ends.1,
    )
  where
    -- a reading doesn't change the ending
    model_ends : (model : Option (List ℕ)) (rest : Script) → (model_read_first model rest).ending ≡ rest.ending
    model_ends None rest = refl
    model_ends (Some model) rest = refl

-- the script of the words, by what was read
script_ends : (words : List (List ℕ)) (contents : List ℕ → Option (List ℕ)) (findings : Findings) (inputs : Inputs)
    (job : Job)
    (settings : SettingsOfRun) (source : List ℕ) → IsRead words (Some contents) inputs → job_of words ≡ Some job
    → GoBy contents job.settings settings
    → source_of job.command (text_read (model_of job.command) contents) ≡ Some (Whole source)
    → IsAccepted job.command settings source
    → AreFound words inputs findings
    → (line : List ℕ) × ((script_of words findings inputs).ending ≡ Finishes line)
script_ends words contents findings inputs job settings source is form go there accepted drawn =
    let model = ap (λ i. i.model) is ∙ model_read_as words contents job form in
    let text = ap (λ i. i.settings) is ∙ settings_read_as words contents job form in
    let found : settings_found job.settings inputs.settings ≡ Some settings = ap (settings_found job.settings) text ∙ go
    in
    let whole : source_of job.command inputs.model ≡ Some (Whole source) = ap (source_of job.command) model ∙ there in
    let of_job = subst (λ (j : Option Job). AreFoundBy (source_in j inputs) findings) form drawn in
    let ends = job_ends job findings inputs settings source found whole accepted of_job.drawn in
    (ends.0, ap (λ j. (job_script j findings inputs).ending) form ∙ ends.1)

pub completes : (words : List (List ℕ)) (files : Files) (findings : Findings) (inputs : Inputs) (status : Status)
    (old new : View) (before now : ℕ)
    → IsRead words files inputs → AreFound words inputs findings → Promised (given_by words) (script_of words findings inputs)
    status old new
    → (status ≡ Read → before < now) → (status ≡ Write → before < now) → IsComplete words files status before now
completes words None findings inputs status old new before now is drawn promised read write = tt
completes words (Some contents) findings inputs status old new before now is drawn promised read write =
    λ job settings source form go there accepted same.
    done_by (given_by words) (script_of words findings inputs) status old new
    (script_ends words contents findings inputs job settings source is form go there accepted drawn)
    promised (λ r. no_rise before now same (read r)) (λ w. no_rise before now same (write w))
