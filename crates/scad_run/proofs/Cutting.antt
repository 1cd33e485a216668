-- Where a layer passes a budget both files are cut short before it.
use Rattle.std.proofs.Common.{◌≡◌, ◌⊎◌, ⊎_elim, ◌++◌, List, ℕ, Option, Some, None, Err, inl, inr, refl, ap, ◌∙◌, subst, flat_map}
use Rattle.scad_fault.specs.declared.budget.Budget.{Budget}
use Rattle.scad_fault.specs.declared.status.Status.{Status}
use Rattle.scad_fault.specs.declared.status.Status.TheVariants.{Done, Source, Usage, Settings, Read, Write, Over, Memory, Outside, BadFile}
use Rattle.scad_io.specs.Desk.{Files, View}
use Rattle.scad_io.specs.declared.desk.Out.TheVariants.{Cli, Gcode}
use Rattle.scad_words.specs.declared.job.Command.{Command}
use Rattle.scad_words.specs.declared.job.Command.TheVariants.{Check, Tree, Slice, Plan, Sample, Verify}
use Rattle.scad_words.specs.declared.job.Job.{Job}
use Rattle.scad_words.specs.declared.settings.Settings.{Settings as SettingsOfRun}
use Rattle.scad_words.specs.Settings.{AreInRange}
use Rattle.scad_words.specs.Job.{job_of}
use Rattle.scad_script.specs.declared.loading.Input.{Input}
use Rattle.scad_script.specs.Steps.{Step, echoing, text_of}
use Rattle.scad_script.specs.Script.{Script, Ending}
use Rattle.scad_script.specs.Names.{AllUpTo}
use Rattle.scad_script.specs.Run.{RunsTo}
use Rattle.scad_script.specs.Promises.{Adds, IsAnswered, Promised}
use Rattle.scad_tree.specs.Solid.{Solid}
use Rattle.scad_tree.specs.Solids.{AreSolids}
use Rattle.slice_work.specs.declared.want.Want.{Want}
use Rattle.slice_work.specs.declared.want.Want.TheVariants.{Outlines as OutlinesAlone, Plan as WithPlan}
use Rattle.slice_work.specs.Part.{Part}
use Rattle.slice_work.specs.Rates.{rates_of}
use Rattle.cli_text.specs.Cli.{Layer, head, layer_text}
use Rattle.gcode_text.specs.Gcode.{head as program_head, layers_text}
use Rattle.scad_slice.specs.Budgets.{layer_count}
use Rattle.scad_slice.specs.Parts.{IsPart, layers_of}
use Rattle.scad_slice.specs.Layer.{IsLayer}
use Rattle.scad_slice.proofs.ScriptCourse.{slice_creates, plan_creates, slice_line, line_of_plan}
use Rattle.scad_slice.proofs.Texts.{slice_cut, plan_cut, program_cut}
use Rattle.scad_run.specs.Words.{given_by}
use Rattle.scad_run.specs.Answer.{Parts, Findings, follows, job_script, script_of, ArePartsOfTree, AreDrawn, AreFoundBy, AreFound}
use Rattle.scad_run.specs.Inputs.{Inputs, source_in, IsRead}
use Rattle.scad_run.specs.Cut.{program_front, AreCut, IsCutBy, CutsFiles, FilesStand, CutsShort}
use Rattle.scad_run.proofs.Working.{parts_meant}
use Rattle.scad_run.proofs.Place.{placed}
use Rattle.scad_run.proofs.Sources.{sources_mean_solids, as_part}
use Rattle.scad_run.proofs.Heights.{found_in_range}
use Rattle.scad_run.proofs.Silent.{slice_is_silent}
use Rattle.scad_run.proofs.PrintLayers.{layouts, layouts_number, written_is, plans_are, layers_each}
use Rattle.scad_run.proofs.ScriptReach.{IsFollowed, Reaches, reached}
use Rattle.scad_run.proofs.Ends.{Cuts, IsDone, IsOver, EndsBy, follows_end}
use Rattle.scad_run.proofs.Refusals.{files_stand, many_quiet, sample_quiet}

-- ---- behind the tree
module _ (s : SettingsOfRun) (tree : Solid) (in_range : AreInRange s) (solids : AreSolids tree) (budget : Budget)
    (old new : View) where
  abbrev count : ℕ
  count = layer_count s.layer_height tree

  are_cut : (want : Want) (creates : List Step) (line : List ℕ) (part : Part) → IsPart want s tree part
      → (c : Cuts want s creates line part tree budget)
      → Adds (head count ++ flat_map layer_text (layers_of s.layer_height part c.cut.layer)) old.cli new.cli
      → Adds (program_front want s (layouts part c.cut.layer)) old.gcode new.gcode → AreCut want s tree budget old new
  are_cut want creates line part is_part c outlines program =
      let passed : part c.cut.layer ≡ Err budget = c.cut.passed ∙ ap Err c.this in
      record {
        few = c.cut.few;
        layer = c.cut.layer;
        ends = (placed s tree budget part solids in_range want c.cut.layer is_part c.cut.made passed).ends;
        inside = c.cut.inside;
        passes = subst (IsLayer want s tree c.cut.layer) passed (is_part c.cut.layer);
        layers = layouts part c.cut.layer;
        number = layouts_number part c.cut.layer;
        each = layers_each want s tree part c.cut.layer is_part c.cut.made;
        outlines = subst (λ (ls : List Layer). Adds (head count ++ flat_map layer_text ls) old.cli new.cli)
            (written_is s.layer_height part c.cut.layer) outlines;
        program = program;
      }

  -- what a command adds to both files
  abbrev Adds_by : Command → Parts → Type 0
  Adds_by command parts =
      Adds (text_of Cli (follows command s parts tree).steps) old.cli new.cli
      × Adds (text_of Gcode (follows command s parts tree).steps) old.gcode new.gcode

  -- it writes nothing, or cuts the files short
  cut_by : (command : Command) (parts : Parts) → ArePartsOfTree tree parts → IsOver command s parts tree budget
      → Adds_by command parts
      → AllUpTo echoing (follows command s parts tree).steps ⊎ IsCutBy command s tree budget old new
  cut_by (Check model) parts of_tree over added = inl tt
  cut_by (Tree model) parts of_tree over added = inl tt
  cut_by (Slice model cli) parts of_tree (inl many) added = inl (many_quiet s tree in_range solids budget _ _ _ refl
      many)
  cut_by (Slice model cli) parts of_tree (inr c) added =
      let part = parts OutlinesAlone s in
      inr (are_cut OutlinesAlone (slice_creates cli) (slice_line s part tree) part
      (as_part tree parts of_tree OutlinesAlone s in_range) c
      (subst (λ (text : List ℕ). Adds text old.cli new.cli) (slice_cut s cli part tree c.cut) added.0)
      (subst (λ (text : List ℕ). Adds text old.gcode new.gcode) (slice_is_silent s cli part tree c.cut) added.1))
  cut_by (Plan model cli gcode) parts of_tree (inl many) added = inl (many_quiet s tree in_range solids budget _ _ _
      refl many)
  cut_by (Plan model cli gcode) parts of_tree (inr c) added =
      let part = parts WithPlan s in
      inr (are_cut WithPlan (plan_creates cli gcode) (line_of_plan s part tree) part
      (as_part tree parts of_tree WithPlan s in_range) c
      (subst (λ (text : List ℕ). Adds text old.cli new.cli) (plan_cut s cli gcode part tree c.cut) added.0)
      (subst (λ (text : List ℕ). Adds text old.gcode new.gcode)
      (program_cut s cli gcode part tree c.cut
      ∙ ap (λ printed. program_head s.hot_end s.bed ++ layers_text (rates_of s) 0 0 printed)
      (plans_are part c.cut.layer))
      added.1))
  cut_by (Sample n) parts of_tree over added = inl (sample_quiet n s parts tree)
  cut_by (Verify outlines program) parts of_tree over added = inl tt

-- ---- a run
module _ (found : Findings) (inputs : Inputs) (budget : Budget) (old new : View) where
  abbrev parts : Parts
  parts = found.parts

  abbrev Outcome : Option Job → Type 0
  Outcome job = FilesStand old new ⊎ ((given : Job) × (job ≡ Some given) × CutsFiles given inputs budget old new)

  followed : (job : Job) (whole : Script) → (f : IsFollowed job inputs parts whole)
      → AreDrawn (source_in (Some job) inputs) parts
      → RunsTo whole (Over budget) old new → IsAnswered whole (Over budget) old new
      → EndsBy (IsDone job.command f.settings parts f.tree) (IsOver job.command f.settings parts f.tree)
      (follows job.command f.settings parts f.tree).ending
      → Outcome (Some job)
  followed job whole f drawn runs answered (inl (line, is, done)) =
      let finished = subst (λ (e : Ending). IsAnswered (record { steps = whole.steps; ending = e }) (Over budget) old
      new) (f.ending ∙ is) answered in
      let other : Done ≡ Over budget = finished.0 in
      let never : ⊥ = cc in absurd never
  followed job whole f drawn runs answered (inr (passed, is, over)) =
      let refused = subst (λ (e : Ending). IsAnswered (record { steps = whole.steps; ending = e }) (Over budget) old
      new) (f.ending ∙ is) answered in
      let one : passed ≡ budget = ap (budget_in budget) refused.0 in
      let of_tree = parts_meant f.source f.tree parts (f.state, f.means) (subst (λ (i : Option Input). AreDrawn i parts)
      f.there drawn) in
      let in_range = found_in_range job.settings inputs.settings f.settings f.found in
      let solids = sources_mean_solids f.source f.tree f.state f.means in
      ⊎_elim (λ quiet. inl (files_stand whole (Over budget) old new (f.quiet quiet) runs))
      (λ cut. inr (
        job,
        refl,
        record {
          settings = f.settings;
          found = f.found;
          source = f.source;
          whole = f.there;
          tree = f.tree;
          means = (f.state, f.means);
          cut = cut;
        },
      ))
      (cut_by f.settings f.tree in_range solids budget old new job.command parts of_tree
      (subst (IsOver job.command f.settings parts f.tree) one over) (
        subst (λ (text : List ℕ). Adds text old.cli new.cli) f.cli refused.2,
        subst
            (λ (text : List ℕ). Adds text old.gcode new.gcode) f.gcode refused.3,
      ))
    where
      budget_in : Budget → Status → Budget
      budget_in other (Over passed) = passed
      budget_in other status = other

  job_cut : (job : Job) (whole : Script) → Reaches job inputs found whole
      → AreDrawn (source_in (Some job) inputs) parts
      → RunsTo whole (Over budget) old new → IsAnswered whole (Over budget) old new → Outcome (Some job)
  job_cut job whole (inl stopped) drawn runs answered = inl (files_stand whole (Over budget) old new stopped.quiet runs)
  job_cut job whole (inr f) drawn runs answered =
      followed job whole f drawn runs answered (follows_end job.command f.settings parts f.tree)

  cut_of : (job : Option Job) → RunsTo (job_script job found inputs) (Over budget) old new
      → IsAnswered (job_script job found inputs) (Over budget) old new → AreFoundBy (source_in job inputs) found
      → Outcome job
  cut_of None runs answered of_all = inl (files_stand _ (Over budget) old new tt runs)
  cut_of (Some job) runs answered of_all =
      job_cut job (job_script (Some job) found inputs) (reached job inputs found) of_all.drawn runs answered

pub cuts_short : (words : List (List ℕ)) (files : Files) (found : Findings) (inputs : Inputs) (status : Status)
    (old new : View)
    → IsRead words files inputs → RunsTo (script_of words found inputs) status old new
    → Promised (given_by words) (script_of words found inputs) status old new → AreFound words inputs found
    → CutsShort words files status old new
cuts_short words files found inputs Done old new is runs promised drawn = tt
cuts_short words files found inputs (Source fault) old new is runs promised drawn = tt
cuts_short words files found inputs Usage old new is runs promised drawn = tt
cuts_short words files found inputs (Settings fault) old new is runs promised drawn = tt
cuts_short words files found inputs Read old new is runs promised drawn = tt
cuts_short words files found inputs Write old new is runs promised drawn = tt
cuts_short words files found inputs (Over budget) old new is runs promised drawn =
    (inputs, is, cut_of found inputs budget old new (job_of words) runs promised drawn)
cuts_short words files found inputs Memory old new is runs promised drawn = tt
cuts_short words files found inputs (Outside number line) old new is runs promised drawn = tt
cuts_short words files found inputs (BadFile kind first second) old new is runs promised drawn = tt
