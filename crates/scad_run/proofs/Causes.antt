-- Every refusal has its named cause.
use Rattle.std.proofs.Common.{◌≡◌, ◌≢◌, ◌⊎◌, ◌<◌, List, ℕ, Option, Some, None, Ok, Err, inl, inr, refl, sym, ap, ◌∙◌, subst}
use Rattle.scad_fault.specs.declared.budget.Budget.{Budget}
use Rattle.scad_fault.specs.declared.status.Status.{Status}
use Rattle.scad_fault.specs.declared.status.Status.TheVariants.{Done, Source, Usage, Settings, Read, Write, Over, Memory, Outside, BadFile}
use Rattle.scad_fault.specs.declared.verdict.BadKind.{BadKind}
use Rattle.scad_fault.specs.declared.verdict.BadKind.TheVariants.{CliLine, CliCount, CliOpen, GWord, GNumber}
use Rattle.scad_io.specs.Desk.{Files, View}
use Rattle.scad_words.specs.declared.job.Command.{Command}
use Rattle.scad_words.specs.declared.job.Command.TheVariants.{Check, Tree, Slice, Plan, Sample, Verify}
use Rattle.scad_words.specs.declared.job.Job.{Job}
use Rattle.scad_words.specs.declared.settings.Settings.{Settings as SettingsOfRun}
use Rattle.scad_words.specs.Settings.{AreInRange}
use Rattle.scad_words.specs.Job.{job_of}
use Rattle.scad_script.specs.declared.loading.Input.{Input}
use Rattle.scad_script.specs.declared.refusal.Refusal.{Refusal}
use Rattle.scad_script.specs.Steps.{Step}
use Rattle.scad_script.specs.Script.{Script, Ending, Finishes, Refuses, refused}
use Rattle.scad_script.specs.Promises.{IsAnswered, Promised}
use Rattle.scad_tree.specs.Solid.{Solid}
use Rattle.gcode_text.specs.declared.fault.GFault.TheVariants.{UnknownWord, BadNumber}
use Rattle.plan_verify.specs.declared.verdict.Verdict.TheVariants.{Outside as GoesOutside}
use Rattle.slice_work.specs.declared.want.Want.{Want}
use Rattle.slice_work.specs.declared.want.Want.TheVariants.{Outlines as OutlinesAlone, Plan as WithPlan}
use Rattle.slice_work.specs.Part.{Part}
use Rattle.scad_slice.specs.Budgets.{layer_count}
use Rattle.scad_slice.specs.Parts.{IsPart}
use Rattle.scad_slice.specs.Layer.{IsLayer}
use Rattle.scad_run.specs.Words.{given_by}
use Rattle.scad_run.specs.Meaning.{Means}
use Rattle.verdict_laws.specs.Opinion.{Opinion, Opinions, IsOpinion, AreRight}
use Rattle.scad_run.specs.Answer.{Parts, Findings, follows, job_script, script_of, ArePartsOfTree, AreDrawn, AreFoundBy, AreFound}
use Rattle.scad_run.specs.Inputs.{Inputs, source_in, IsRead}
use Rattle.scad_run.specs.Causes.{HasManyLayers, PassesAtLayer, PassesDrawing, HaveBadFile, IsCause, HasNamedCause}
use Rattle.scad_run.proofs.Working.{parts_meant}
use Rattle.scad_run.proofs.Sources.{as_part}
use Rattle.scad_run.proofs.Heights.{found_in_range, width_in_range}
use Rattle.scad_run.proofs.Answering.{other_refuses}
use Rattle.scad_run.proofs.ScriptReach.{HasOpinion, HasBadFile, EndsBefore, IsFollowed, Reaches, reached}
use Rattle.scad_run.proofs.Ends.{PartPasses, IsDone, IsDrawnOver, IsOver, EndsBy, part_passes, follows_end}

-- ---- a budget that drawing passes

module _ (settings : SettingsOfRun) (tree : Solid) (in_range : AreInRange settings) where
  layer_passes : (want : Want) (part : Part) (budget : Budget) → IsPart want settings tree part
      → PartPasses part (layer_count settings.layer_height tree) budget → PassesAtLayer want settings tree budget
  layer_passes want part budget is_part p =
      record {
        few = p.few;
        layer = p.layer;
        there = p.there;
        below = λ i less.
            let made = p.below i less in
            (made.0, subst (IsLayer want settings tree i) made.1 (is_part i));
        passes = subst (IsLayer want settings tree p.layer) p.passes (is_part p.layer);
      }

  drawn_passes : (want : Want) (creates : List Step) (line : List ℕ) (part : Part) (budget : Budget)
      → IsPart want settings tree part
      → IsDrawnOver want settings creates line part tree budget → HasManyLayers settings tree budget ⊎ PassesAtLayer
      want settings tree budget
  drawn_passes want creates line part budget is_part (inl many) = inl many
  drawn_passes want creates line part budget is_part (inr cuts) =
      inr (layer_passes want part budget is_part (part_passes want settings creates line part tree budget cuts))

  passes_drawing : (command : Command) (parts : Parts) (budget : Budget) → ArePartsOfTree tree parts
      → IsOver command settings parts tree budget
      → PassesDrawing command settings tree budget
  passes_drawing (Check model) parts budget of_tree over = over
  passes_drawing (Tree model) parts budget of_tree over = over
  passes_drawing (Slice model cli) parts budget of_tree over =
      drawn_passes OutlinesAlone _ _ (parts OutlinesAlone settings) budget
      (as_part tree parts of_tree OutlinesAlone settings in_range)
      over
  passes_drawing (Plan model cli gcode) parts budget of_tree over =
      drawn_passes WithPlan _ _ (parts WithPlan settings) budget (as_part tree parts of_tree WithPlan settings in_range)
      over
  passes_drawing (Verify outlines program) parts budget of_tree over = over
  passes_drawing (Sample n) parts budget of_tree over =
      drawn_passes WithPlan _ _ (parts WithPlan settings) budget (as_part tree parts of_tree WithPlan settings in_range)
      over

-- ---- the cause of a refusal

-- before the tree
pub opinion_cause : (job : Job) (inputs : Inputs) (opinions : Opinions) (opinion : Opinion) → AreRight opinions
    → (h : HasOpinion job inputs opinions opinion)
    → IsOpinion h.layers h.judged.settings.line_width h.judged.program opinion
opinion_cause job inputs opinions opinion right h =
    let settings = h.judged.settings in
    let in_range = found_in_range job.settings inputs.settings settings h.judged.found in
    subst (IsOpinion h.layers settings.line_width h.judged.program) h.is
    (right h.layers settings.line_width h.judged.program (width_in_range settings in_range))

bad_cause : (job : Job) (inputs : Inputs) (opinions : Opinions) (kind : BadKind) (first second : ℕ) → AreRight opinions
    → HasBadFile job inputs opinions kind first second → HaveBadFile job inputs kind first second
bad_cause job inputs opinions CliLine first second right why = why
bad_cause job inputs opinions CliCount first second right why = why
bad_cause job inputs opinions CliOpen first second right why = why
bad_cause job inputs opinions GWord first second right (h, none) =
    (h.judged, (((h.layers, h.said), opinion_cause job inputs opinions (Err (UnknownWord first)) right h), none))
bad_cause job inputs opinions GNumber first second right (h, none) =
    (h.judged, (((h.layers, h.said), opinion_cause job inputs opinions (Err (BadNumber first)) right h), none))

cause_before : (job : Job) (inputs : Inputs) (opinions : Opinions) (refusal : Refusal) → AreRight opinions
    → EndsBefore job inputs opinions (Refuses refusal) → IsCause Means (Some job) inputs (refused refusal)
cause_before job inputs opinions (Refusal.Source fault) right why = (job, refl, why)
cause_before job inputs opinions Refusal.Usage right why = absurd why
cause_before job inputs opinions (Refusal.Settings fault) right why = (job, refl, why)
cause_before job inputs opinions (Refusal.Over budget) right (inl long) = (job, refl, inl long)
cause_before job inputs opinions (Refusal.Over budget) right (inr (inl long)) = (job, refl, inr (inl long))
cause_before job inputs opinions (Refusal.Over budget) right (inr (inr passes)) = (job, refl, inr (inr (inl passes)))
cause_before job inputs opinions (Refusal.Outside number line) right why = (
  job,
  refl,
  record {
    judged = why.judged;
    layers = why.layers;
    said = why.said;
    is = opinion_cause job inputs opinions (Ok (GoesOutside number line)) right why;
  },
)
cause_before job inputs opinions (Refusal.BadFile kind first second) right why =
    (job, refl, bad_cause job inputs opinions kind first second right why)

-- by what follows the tree
cause_behind : (job : Job) (inputs : Inputs) (parts : Parts) (whole : Script) (refusal : Refusal)
    → (f : IsFollowed job inputs parts whole)
    → AreDrawn (source_in (Some job) inputs) parts
    → EndsBy (IsDone job.command f.settings parts f.tree) (IsOver job.command f.settings parts f.tree)
    (follows job.command f.settings parts f.tree).ending
    → whole.ending ≡ Refuses refusal → IsCause Means (Some job) inputs (refused refusal)
cause_behind job inputs parts whole refusal f drawn (inl (line, is, done)) same =
    let other : Finishes line ≡ Refuses refusal = sym is ∙ sym f.ending ∙ same in let never : ⊥ = cc in absurd never
cause_behind job inputs parts whole refusal f drawn (inr (budget, is, over)) same =
    let of_source = subst (λ (i : Option Input). AreDrawn i parts) f.there drawn in
    let of_tree = parts_meant f.source f.tree parts (f.state, f.means) of_source in
    let in_range = found_in_range job.settings inputs.settings f.settings f.found in
    let one : refusal ≡ Refusal.Over budget = ap (refusal_in (Refusal.Over budget)) (sym same ∙ f.ending ∙ is) in
    subst (λ (r : Refusal). IsCause Means (Some job) inputs (refused r)) (sym one) (
      job,
      refl,
      inr (inr (inr (record {
        source = f.source;
        whole = f.there;
        settings = f.settings;
        found = f.found;
        tree = f.tree;
        means = (f.state, f.means);
        passes = passes_drawing f.settings f.tree in_range job.command parts budget of_tree over;
      }))),
    )
  where
    refusal_in : Refusal → Ending → Refusal
    refusal_in other (Refuses r) = r
    refusal_in other ending = other

job_cause : (job : Job) (inputs : Inputs) (found : Findings) (whole : Script) (refusal : Refusal)
    → Reaches job inputs found whole → AreFoundBy (source_in (Some job) inputs) found → whole.ending ≡ Refuses refusal
    → IsCause Means (Some job) inputs (refused refusal)
job_cause job inputs found whole refusal (inl stopped) of_all same =
    cause_before job inputs found.opinions refusal of_all.right
    (subst (EndsBefore job inputs found.opinions) same stopped.why)
job_cause job inputs found whole refusal (inr f) of_all same =
    cause_behind job inputs found.parts whole refusal f of_all.drawn (follows_end job.command f.settings found.parts f.tree)
    same

-- of words that are of no form the refusal is their usage
usage_cause : (inputs : Inputs) (refusal : Refusal) → Refuses Refusal.Usage ≡ Refuses refusal
    → IsCause Means None inputs (refused refusal)
usage_cause inputs (Refusal.Source fault) same = let never : ⊥ = cc in absurd never
usage_cause inputs Refusal.Usage same = refl
usage_cause inputs (Refusal.Settings fault) same = let never : ⊥ = cc in absurd never
usage_cause inputs (Refusal.Over budget) same = let never : ⊥ = cc in absurd never
usage_cause inputs (Refusal.Outside number line) same = let never : ⊥ = cc in absurd never
usage_cause inputs (Refusal.BadFile kind first second) same = let never : ⊥ = cc in absurd never

cause_of : (job : Option Job) (inputs : Inputs) (found : Findings) (refusal : Refusal) → AreFoundBy (source_in job inputs)
    found
    → (job_script job found inputs).ending ≡ Refuses refusal → IsCause Means job inputs (refused refusal)
cause_of None inputs found refusal drawn same = usage_cause inputs refusal same
cause_of (Some job) inputs found refusal drawn same =
    job_cause job inputs found (job_script (Some job) found inputs) refusal (reached job inputs found) drawn same

-- ---- the cause of a status

answered_cause : (words : List (List ℕ)) (inputs : Inputs) (found : Findings) (status : Status) (old new : View)
    → AreFound words inputs found
    → IsAnswered (script_of words found inputs) status old new → status ≢ Done
    → IsCause Means (job_of words) inputs status
answered_cause words inputs found status old new drawn answered other =
    let whole = script_of words found inputs in
    let ends = other_refuses whole.steps whole.ending status old new answered other in
    subst (IsCause Means (job_of words) inputs) ends.2 (cause_of (job_of words) inputs found ends.0 drawn ends.1)

pub has_cause : (words : List (List ℕ)) (files : Files) (inputs : Inputs) (found : Findings) (status : Status)
    (old new : View) (before now : ℕ)
    → IsRead words files inputs → AreFound words inputs found → Promised (given_by words) (script_of words found inputs)
    status old new
    → (status ≡ Read → before < now) → (status ≡ Write → before < now)
    → HasNamedCause Means words files status old new before now
has_cause words files inputs found Done old new before now is drawn promised read write = (inputs, is, tt)
has_cause words files inputs found (Source fault) old new before now is drawn promised read write =
    (inputs, is, answered_cause words inputs found (Source fault) old new drawn promised (λ same. let never : ⊥ = cc in absurd never))
has_cause words files inputs found Usage old new before now is drawn promised read write =
    (inputs, is, answered_cause words inputs found Usage old new drawn promised (λ same. let never : ⊥ = cc in absurd never))
has_cause words files inputs found (Settings fault) old new before now is drawn promised read write =
    (inputs, is, answered_cause words inputs found (Settings fault) old new drawn promised (λ same. let never : ⊥ = cc in absurd never))
has_cause words files inputs found Read old new before now is drawn promised read write = (read refl, promised)
has_cause words files inputs found Write old new before now is drawn (inl failed) read write =
    (write refl, inl failed.0)
has_cause words files inputs found Write old new before now is drawn (inr cut) read write = (write refl, inr cut.failed)
has_cause words files inputs found (Over budget) old new before now is drawn promised read write =
    (inputs, is, answered_cause words inputs found (Over budget) old new drawn promised (λ same. let never : ⊥ = cc in absurd never))
has_cause words files inputs found Memory old new before now is drawn promised read write = (inputs, is, tt)
has_cause words files inputs found (Outside number line) old new before now is drawn promised read write =
    (inputs, is, answered_cause words inputs found (Outside number line) old new drawn promised (λ same. let never : ⊥ = cc in absurd never))
has_cause words files inputs found (BadFile kind first second) old new before now is drawn promised read write =
    (inputs, is, answered_cause words inputs found (BadFile kind first second) old new drawn promised (λ same. let never : ⊥ = cc in absurd never))
