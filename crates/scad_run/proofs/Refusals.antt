-- Refusals, and commands that leave both files as they were.
use Rattle.std.proofs.Common.{◌≡◌, ◌≢◌, ◌⊎◌, ⊎_elim, ◌++◌, ◌<◌, List, [], ℕ, Bool, true, false, Option, Some, None, Err, inl, inr, refl, sym, ap, ◌∙◌, subst, length, flat_map, nat_lt, rules, arith}
use Rattle.std.specs.Prelude.{if◌then◌else◌}
use Rattle.std.proofs.lemmas.List.FromFn.{length-map-range_with_len}
use Rattle.scad_fault.specs.declared.budget.Budget.{Budget}
use Rattle.scad_fault.specs.declared.status.Status.{Status}
use Rattle.scad_fault.specs.declared.status.Status.TheVariants.{Done, Source, Usage, Settings, Read, Write, Over, Memory, Outside, BadFile}
use Rattle.scad_fault.specs.Line.{line_of}
use Rattle.scad_io.specs.Desk.{View}
use Rattle.scad_io.specs.declared.desk.Out.TheVariants.{Report, Cli, Gcode}
use Rattle.scad_words.specs.declared.job.Command.{Command}
use Rattle.scad_words.specs.declared.job.Command.TheVariants.{Check, Tree, Slice, Plan, Sample, Verify}
use Rattle.scad_words.specs.declared.job.Job.{Job}
use Rattle.scad_words.specs.declared.settings.Settings.{Settings as SettingsOfRun}
use Rattle.scad_words.specs.Settings.{AreInRange}
use Rattle.scad_words.specs.Job.{job_of}
use Rattle.scad_script.specs.declared.loading.Input.{Input}
use Rattle.scad_script.specs.declared.refusal.Refusal.{Refusal}
use Rattle.scad_script.specs.Steps.{Step, echoing, text_of}
use Rattle.scad_script.specs.Script.{Script, Ending, Finishes, Refuses as IsRefusal, Lacks, ends, expected_echoes}
use Rattle.scad_script.specs.Names.{AllUpTo}
use Rattle.scad_script.specs.Run.{RunsTo}
use Rattle.scad_script.specs.Promises.{Adds, IsAnswered, Promised}
use Rattle.scad_script.proofs.Fronts.{reports_only}
use Rattle.scad_script.proofs.Quiet.{ends_quietly}
use Rattle.scad_tree.specs.Solid.{Solid}
use Rattle.scad_tree.specs.Solids.{AreSolids}
use Rattle.slice_work.specs.declared.want.Want.{Want}
use Rattle.slice_work.specs.declared.want.Want.TheVariants.{Outlines as OutlinesAlone, Plan as WithPlan}
use Rattle.slice_work.specs.Part.{Part, printed_of, layer_limit}
use Rattle.cli_text.specs.Cli.{Layer, head, layer_text}
use Rattle.scad_slice.specs.Budgets.{layer_count}
use Rattle.scad_slice.specs.Parts.{IsPart, layer_at, layers_of, plans_of}
use Rattle.scad_slice.proofs.ScriptCourse.{slice_creates, plan_creates, slice_line, line_of_plan}
use Rattle.scad_slice.proofs.Texts.{slice_cut, plan_cut, program_cut}
use Rattle.scad_run.proofs.Silent.{slice_is_silent}
use Rattle.scad_run.specs.Words.{given_by}
use Rattle.scad_run.specs.Answer.{Parts, Findings, follows, job_script, script_of, ArePartsOfTree, AreDrawn, AreFoundBy, AreFound}
use Rattle.scad_run.specs.Inputs.{Inputs, source_in}
use Rattle.scad_run.specs.Promises.{IsReported, IsRefused, IsProgramFront, IsOfLayers, IsCutShort, Refuses, LeavesBoth, LeavesOutputs}
use Rattle.scad_run.specs.Cut.{EndsAt}
use Rattle.scad_run.specs.Causes.{HasManyLayers}
use Rattle.scad_run.proofs.Working.{parts_meant}
use Rattle.scad_run.proofs.Place.{IsPlaced, placed}
use Rattle.scad_run.proofs.Sources.{sources_mean_solids, as_part}
use Rattle.scad_run.proofs.Heights.{found_in_range}
use Rattle.scad_run.proofs.ScriptReach.{IsFollowed, Reaches, reached}
use Rattle.scad_run.proofs.Ends.{Cuts, IsDone, IsOver, EndsBy, follows_end}

-- Commands that only read and report.

-- both files stand as they were
abbrev FilesStand : View → View → Type 0
FilesStand old new = (new.cli ≡ old.cli) × (new.gcode ≡ old.gcode)

pub files_stand : (whole : Script) (status : Status) (old new : View) → AllUpTo echoing whole.steps
    → RunsTo whole status old new → FilesStand old new
files_stand whole status old new all (ended, mid, ends, reports) =
    let only = reports_only ended status mid new reports in (
      ap (λ v. v.cli) only ∙ ends_quietly Cli whole ended old mid tt all ends,
      ap (λ v. v.gcode) only ∙ ends_quietly Gcode whole ended old mid tt all ends,
    )

-- a command whose trees are followed by nothing but an end
abbrev IsQuiet : Command → Type 0
IsQuiet command = (settings : SettingsOfRun) (parts : Parts) (tree : Solid)
    → AllUpTo echoing (follows command settings parts tree).steps

job_quiet : (job : Job) (found : Findings) (inputs : Inputs) (whole : Script) → IsQuiet job.command
    → Reaches job inputs found whole → AllUpTo echoing whole.steps
job_quiet job found inputs whole quiet (inl stopped) = stopped.quiet
job_quiet job found inputs whole quiet (inr f) = f.quiet (quiet f.settings found.parts f.tree)

ends_quiet_if : (b : Bool) (x y : Ending) → AllUpTo echoing (if b then ends x else ends y).steps
ends_quiet_if true x y = tt
ends_quiet_if false x y = tt

pub sample_quiet : (n : ℕ) → IsQuiet (Sample n)
sample_quiet n settings parts tree = ends_quiet_if (nat_lt layer_limit (layer_count settings.layer_height tree)) _ _

command_leaves : (job : Job) (command : Command) (found : Findings) (inputs : Inputs) (status : Status) (old new : View)
    → job.command ≡ command
    → RunsTo (job_script (Some job) found inputs) status old new → LeavesBoth command old new
command_leaves job (Check model) found inputs status old new is runs =
    files_stand _ status old new (job_quiet job found inputs _ (subst IsQuiet (sym is) (λ settings ps tree. tt))
    (reached job inputs found)) runs
command_leaves job (Tree model) found inputs status old new is runs =
    files_stand _ status old new (job_quiet job found inputs _ (subst IsQuiet (sym is) (λ settings ps tree. tt))
    (reached job inputs found)) runs
command_leaves job (Slice model cli) found inputs status old new is runs = tt
command_leaves job (Plan model cli gcode) found inputs status old new is runs = tt
command_leaves job (Verify outlines program) found inputs status old new is runs =
    files_stand _ status old new (job_quiet job found inputs _ (subst IsQuiet (sym is) (λ settings ps tree. tt))
    (reached job inputs found)) runs
command_leaves job (Sample n) found inputs status old new is runs =
    files_stand _ status old new (job_quiet job found inputs _ (subst IsQuiet (sym is) (sample_quiet n))
    (reached job inputs found)) runs

job_leaves : (job : Option Job) (found : Findings) (inputs : Inputs) (status : Status) (old new : View)
    → RunsTo (job_script job found inputs) status old new → LeavesOutputs job old new
job_leaves None found inputs status old new runs = tt
job_leaves (Some job) found inputs status old new runs = command_leaves job job.command found inputs status old new refl
    runs

pub leaves : (words : List (List ℕ)) (found : Findings) (inputs : Inputs) (status : Status) (old new : View)
    → RunsTo (script_of words found inputs) status old new → LeavesOutputs (job_of words) old new
leaves words found inputs status old new runs = job_leaves (job_of words) found inputs status old new runs

-- Refusals.

refused_line : (steps : List Step) (ending : Ending) (status : Status) (old new : View)
    → IsAnswered (record { steps = steps; ending = ending }) status old new → status ≢ Done
    → Adds (expected_echoes (record { steps = steps; ending = ending }) ++ line_of status) old.report new.report
refused_line steps (Finishes line) status old new answered other = absurd (other (sym answered.0))
refused_line steps (IsRefusal why) status old new answered other =
    subst (λ (s : Status). Adds (text_of Report steps ++ line_of s) old.report new.report) answered.0 answered.1
refused_line steps Lacks status old new answered other = absurd answered

-- no output is created, or a layer passed this budget
abbrev RefusedOrCut : Script → Status → View → View → Type 0
RefusedOrCut whole status old new =
    IsRefused whole status old new ⊎ ((budget : Budget) × (status ≡ Over budget) × IsCutShort whole budget old new)

quiet_refused : (whole : Script) (status : Status) (old new : View) → AllUpTo echoing whole.steps
    → RunsTo whole status old new → IsAnswered whole status old new → status ≢ Done → RefusedOrCut whole status old new
quiet_refused whole status old new all runs answered other =
    let stand = files_stand whole status old new all runs in
    inl (refused_line whole.steps whole.ending status old new answered other, stand.0, stand.1)

-- ---- behind the tree

-- what a command writes behind its tree where a layer passes a budget
pub record IsCutAt (count : ℕ) (budget : Budget) (cli gcode : List ℕ) : Type 0 where
  pub kind : IsOfLayers budget.kind
  pub layer : ℕ
  pub before : List Layer
  pub number : length before ≡ layer
  pub inside : layer < count
  pub outlines : cli ≡ head count ++ flat_map layer_text before
  pub program : ((gcode ≡ []) × (layer ≡ budget.layer)) ⊎ IsProgramFront layer budget gcode

-- where a program ends, by its settings
program_ends : (s : SettingsOfRun) (tree : Solid) (budget : Budget) (layer : ℕ) → EndsAt WithPlan s tree budget layer
    → (layer ≡ budget.layer) ⊎ ((layer ≡ 0) × (0 < s.support_spacing))
program_ends s tree budget layer (inl own) = inl own
program_ends s tree budget layer (inr (first, of_all)) = inr (first, of_all.spacing)

module _ (settings : SettingsOfRun) (tree : Solid) (in_range : AreInRange settings) (solids : AreSolids tree) where
  abbrev count : ℕ
  count = layer_count settings.layer_height tree

  -- where a part's files end
  cut_placed : (want : Want) (creates : List Step) (line : List ℕ) (part : Part) (budget : Budget)
      → IsPart want settings tree part → (c : Cuts want settings creates line part tree budget)
      → IsPlaced want settings tree budget c.cut.layer
  cut_placed want creates line part budget is_part c =
      placed settings tree budget part solids in_range want c.cut.layer is_part c.cut.made (c.cut.passed ∙ ap Err c.this)

  -- the cut of a part's files
  cut_at : (want : Want) (creates : List Step) (line : List ℕ) (part : Part) (budget : Budget) (cli gcode : List ℕ)
      → IsPart want settings tree part
      → (c : Cuts want settings creates line part tree budget)
      → cli ≡ head count ++ flat_map layer_text (layers_of settings.layer_height part c.cut.layer)
      → ((gcode ≡ []) × (c.cut.layer ≡ budget.layer)) ⊎ IsProgramFront c.cut.layer budget gcode
      → IsCutAt count budget cli gcode
  cut_at want creates line part budget cli gcode is_part c outlines program = record {
    kind = (cut_placed want creates line part budget is_part c).kind;
    layer = c.cut.layer;
    before = layers_of settings.layer_height part c.cut.layer;
    number = length-map-range_with_len (layer_at settings.layer_height part) 0 c.cut.layer;
    inside = c.cut.inside;
    outlines = outlines;
    program = program;
  }

  pub many_quiet : (budget : Budget) (b : Bool) (x : Ending) (rest : Script) → nat_lt layer_limit count ≡ b
      → HasManyLayers settings tree budget
      → AllUpTo echoing (if b then ends x else rest).steps
  many_quiet budget true x rest is has = tt
  many_quiet budget false x rest is (many, same) = let never : ⊥ = search (rules, arith) in absurd never

  -- it is quiet, or cuts the files short
  behind : (command : Command) (parts : Parts) (budget : Budget) → ArePartsOfTree tree parts
      → IsOver command settings parts tree budget
      → AllUpTo echoing (follows command settings parts tree).steps
      ⊎ IsCutAt count budget (text_of Cli (follows command settings parts tree).steps)
      (text_of Gcode (follows command settings parts tree).steps)
  behind (Check model) parts budget of_tree over = inl tt
  behind (Tree model) parts budget of_tree over = inl tt
  behind (Slice model cli) parts budget of_tree (inl many) = inl (many_quiet budget _ _ _ refl many)
  behind (Slice model cli) parts budget of_tree (inr c) =
      let part = parts OutlinesAlone settings in
      let is_part = as_part tree parts of_tree OutlinesAlone settings in_range in
      inr (cut_at OutlinesAlone _ _ part budget _ _ is_part c (slice_cut settings cli part tree c.cut)
      (inl (
        slice_is_silent settings cli part tree c.cut,
        (cut_placed OutlinesAlone (slice_creates cli) (slice_line settings part tree) part budget is_part c).ends,
      )))
  behind (Plan model cli gcode) parts budget of_tree (inl many) = inl (many_quiet budget _ _ _ refl many)
  behind (Plan model cli gcode) parts budget of_tree (inr c) =
      let part = parts WithPlan settings in
      let is_part = as_part tree parts of_tree WithPlan settings in_range in
      inr (cut_at WithPlan _ _ part budget _ _ is_part c (plan_cut settings cli gcode part tree c.cut)
      (inr (record {
        settings = settings;
        ends = program_ends settings tree budget c.cut.layer
            (cut_placed WithPlan (plan_creates cli gcode) (line_of_plan settings part tree) part budget is_part c).ends;
        printed = plans_of part c.cut.layer;
        count = length-map-range_with_len (λ i. printed_of WithPlan (part i)) 0 c.cut.layer;
        is = program_cut settings cli gcode part tree c.cut;
      })))
  behind (Sample n) parts budget of_tree over = inl (sample_quiet n settings parts tree)
  behind (Verify outlines program) parts budget of_tree over = inl tt

-- ---- a refused run

cut_or_quiet : (whole : Script) (status : Status) (budget : Budget) (old new : View) (count : ℕ) (cli gcode : List ℕ)
    → whole.ending ≡ IsRefusal (Refusal.Over budget)
    → text_of Cli whole.steps ≡ cli → text_of Gcode whole.steps ≡ gcode → RunsTo whole status old new
    → IsAnswered whole status old new → status ≢ Done
    → AllUpTo echoing whole.steps ⊎ IsCutAt count budget cli gcode → RefusedOrCut whole status old new
cut_or_quiet whole status budget old new number cli gcode ending to_cli to_gcode runs answered other (inl quiet) =
    quiet_refused whole status old new quiet runs answered other
cut_or_quiet whole status budget old new number cli gcode ending to_cli to_gcode runs answered other (inr cut) =
    let refused = subst (λ (e : Ending). IsAnswered (record { steps = whole.steps; ending = e }) status old new) ending
    answered in
    let is : status ≡ Over budget = sym refused.0 in
    inr (
      budget,
      is,
      record {
        kind = cut.kind;
        reported = subst (λ (s : Status). IsReported whole s old new) is (refused_line whole.steps whole.ending status
            old new answered other);
        count = number;
        layer = cut.layer;
        before = cut.before;
        number = cut.number;
        inside = cut.inside;
        outlines = subst (λ (text : List ℕ). Adds text old.cli new.cli) (to_cli ∙ cut.outlines) refused.2;
        program = (gcode, cut.program, subst (λ (text : List ℕ). Adds text old.gcode new.gcode) to_gcode refused.3);
      },
    )

followed_refused : (job : Job) (parts : Parts) (inputs : Inputs) (whole : Script) (status : Status) (old new : View)
    → (f : IsFollowed job inputs parts whole)
    → AreDrawn (source_in (Some job) inputs) parts → RunsTo whole status old new → IsAnswered whole status old new
    → status ≢ Done
    → EndsBy (IsDone job.command f.settings parts f.tree) (IsOver job.command f.settings parts f.tree)
    (follows job.command f.settings parts f.tree).ending
    → RefusedOrCut whole status old new
followed_refused job parts inputs whole status old new f drawn runs answered other (inl (line, is, done)) =
    let finished = subst (λ (e : Ending). IsAnswered (record { steps = whole.steps; ending = e }) status old new)
    (f.ending ∙ is) answered in
    absurd (other (sym finished.0))
followed_refused job parts inputs whole status old new f drawn runs answered other (inr (budget, is, over)) =
    let of_source = subst (λ (i : Option Input). AreDrawn i parts) f.there drawn in
    let of_tree = parts_meant f.source f.tree parts (f.state, f.means) of_source in
    let in_range = found_in_range job.settings inputs.settings f.settings f.found in
    cut_or_quiet whole status budget old new (layer_count f.settings.layer_height f.tree) _ _ (f.ending ∙ is) f.cli
    f.gcode runs answered other
    (⊎_elim (λ quiet. inl (f.quiet quiet)) (λ cut. inr cut) (behind f.settings f.tree in_range
    (sources_mean_solids f.source f.tree f.state f.means) job.command parts budget of_tree over))

job_refused : (job : Job) (found : Findings) (inputs : Inputs) (whole : Script) (status : Status) (old new : View)
    → Reaches job inputs found whole → AreFoundBy (source_in (Some job) inputs) found
    → RunsTo whole status old new → IsAnswered whole status old new → status ≢ Done → RefusedOrCut whole status old new
job_refused job found inputs whole status old new (inl stopped) of_all runs answered other =
    quiet_refused whole status old new stopped.quiet runs answered other
job_refused job found inputs whole status old new (inr f) of_all runs answered other =
    followed_refused job found.parts inputs whole status old new f of_all.drawn runs answered other
    (follows_end job.command f.settings found.parts f.tree)

refused_by : (job : Option Job) (found : Findings) (inputs : Inputs) (status : Status) (old new : View)
    → RunsTo (job_script job found inputs) status old new → IsAnswered (job_script job found inputs) status old new
    → AreFoundBy (source_in job inputs) found → status ≢ Done → RefusedOrCut (job_script job found inputs) status old new
refused_by None found inputs status old new runs answered drawn other = quiet_refused _ status old new tt runs answered
    other
refused_by (Some job) found inputs status old new runs answered drawn other =
    job_refused job found inputs (job_script (Some job) found inputs) status old new (reached job inputs found) drawn
    runs answered other

-- a status other than a budget's is no budget's
no_budget : (whole : Script) (status : Status) (old new : View) → ((budget : Budget) → status ≢ Over budget)
    → RefusedOrCut whole status old new → IsRefused whole status old new
no_budget whole status old new other (inl refused) = refused
no_budget whole status old new other (inr (budget, same, cut)) = absurd (other budget same)

-- the budget of a status
abbrev budget_in : Budget → Status → Budget
budget_in other (Over budget) = budget
budget_in other status = other

this_budget : (whole : Script) (budget : Budget) (old new : View) → RefusedOrCut whole (Over budget) old new
    → IsRefused whole (Over budget) old new ⊎ IsCutShort whole budget old new
this_budget whole budget old new (inl refused) = inl refused
this_budget whole budget old new (inr (passed, same, cut)) =
    inr (subst (λ (b : Budget). IsCutShort whole b old new) (sym (ap (budget_in budget) same)) cut)

pub refuses_so : (words : List (List ℕ)) (found : Findings) (inputs : Inputs) (status : Status) (old new : View)
    → RunsTo (script_of words found inputs) status old new → Promised (given_by words) (script_of words found inputs)
    status old new
    → AreFound words inputs found
    → Refuses (script_of words found inputs) status old new
refuses_so words found inputs Done old new runs promised drawn = tt
refuses_so words found inputs (Source fault) old new runs promised drawn =
    no_budget _ (Source fault) old new (λ budget same. let never : ⊥ = cc in absurd never)
    (refused_by (job_of words) found inputs (Source fault) old new runs promised drawn (λ same. let never : ⊥ = cc in absurd never))
refuses_so words found inputs Usage old new runs promised drawn =
    no_budget _ Usage old new (λ budget same. let never : ⊥ = cc in absurd never)
    (refused_by (job_of words) found inputs Usage old new runs promised drawn (λ same. let never : ⊥ = cc in absurd never))
refuses_so words found inputs (Settings fault) old new runs promised drawn =
    no_budget _ (Settings fault) old new (λ budget same. let never : ⊥ = cc in absurd never)
    (refused_by (job_of words) found inputs (Settings fault) old new runs promised drawn (λ same. let never : ⊥ = cc in absurd never))
refuses_so words found inputs Read old new runs promised drawn = tt
refuses_so words found inputs Write old new runs promised drawn = tt
refuses_so words found inputs (Over budget) old new runs promised drawn =
    this_budget _ budget old new
    (refused_by (job_of words) found inputs (Over budget) old new runs promised drawn (λ same. let never : ⊥ = cc in absurd never))
refuses_so words found inputs Memory old new runs promised drawn = tt
refuses_so words found inputs (Outside number line) old new runs promised drawn =
    no_budget _ (Outside number line) old new (λ budget same. let never : ⊥ = cc in absurd never)
    (refused_by (job_of words) found inputs (Outside number line) old new runs promised drawn (λ same. let never : ⊥ = cc in absurd never))
refuses_so words found inputs (BadFile kind first second) old new runs promised drawn =
    no_budget _ (BadFile kind first second) old new (λ budget same. let never : ⊥ = cc in absurd never)
    (refused_by (job_of words) found inputs (BadFile kind first second) old new runs promised drawn (λ same. let never : ⊥ = cc in absurd never))
