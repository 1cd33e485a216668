-- What a command does with its tree plays what follows the tree; a source was read or made.
use Rattle.std.proofs.Common.{◌≡◌, List, ℕ, Some, None, Result, Ok, Err, refl, sym, ap, ◌∙◌, subst}
use Rattle.std.specs.Prelude.{IfSome, IfOk, option_map}
use Rattle.scad_io.specs.Desk.{Files, View}
use Rattle.scad_words.specs.declared.job.Command.{Command}
use Rattle.scad_words.specs.declared.job.Command.TheVariants.{Check, Tree, Slice, Plan, Sample, Verify}
use Rattle.scad_words.specs.declared.settings.Settings.{Settings as SettingsOfRun}
use Rattle.scad_words.specs.Settings.{AreInRange}
use Rattle.scad_script.specs.declared.loading.Input.{Input}
use Rattle.scad_script.specs.declared.stop.Stop.{Stop}
use Rattle.scad_script.specs.Script.{input_of}
use Rattle.scad_script.specs.Play.{Completes}
use Rattle.scad_tree.specs.Solid.{Solid}
use Rattle.slice_work.specs.declared.want.Want.TheVariants.{Outlines as OutlinesAlone, Plan as WithPlan}
use Rattle.slice_work.specs.Part.{Part}
use Rattle.scad_slice.specs.Parts.{IsPart}
use Rattle.scad_slice.specs.Script.{slice_script, plan_script}
use Rattle.scad_run.specs.Words.{model_of}
use Rattle.scad_run.specs.SourceReport.{sample_script}
use Rattle.scad_run.specs.Answer.{follows}
use Rattle.scad_run.specs.Inputs.{source_limit, source_of, text_read}
use Rattle.scad_run.specs.Playing.{IsEnd, Gets}
use Rattle.scad_run.proofs.Sources.{as_part}
use Rattle.scad_run.proofs.Telling.{ended}
use Rattle.scad_run.proofs.Working.{PlaysOn}

-- ---- the source

-- a model was read
pub gets_model : (command : Command) (model : List ℕ) (files : Files) (result : Result Input Stop) → model_of command
    ≡ Some model
    → IfOk result (λ input. IfSome files (λ contents. option_map (input_of (Some source_limit)) (contents model)
    ≡ Some input))
    → IfOk result (Gets command files)
gets_model command model files (Err stop) named told = tt
gets_model command model files (Ok input) named told =
    record { read = Some input; told = by files told; gives = whole command named }
  where
    by : (fs : Files) → IfSome fs (λ contents. option_map (input_of (Some source_limit)) (contents model) ≡ Some input)
        → IfSome fs (λ contents. Some input ≡ text_read (model_of command) contents)
    by None t = tt
    by (Some contents) t = sym t ∙ ap (λ name. text_read name contents) (sym named)

    whole : (c : Command) → model_of c ≡ Some model → source_of c (Some input) ≡ Some input
    whole (Check m) is = refl
    whole (Tree m) is = refl
    whole (Slice m cli) is = refl
    whole (Plan m cli gcode) is = refl
    whole (Sample n) is = let never : ⊥ = cc in absurd never
    whole (Verify outlines program) is = let never : ⊥ = cc in absurd never

-- ---- the tree

module _ (command : Command) (settings : SettingsOfRun) (tree : Solid) (in_range : AreInRange settings)
    (result : Result (List ℕ) Stop) (old new : View) where
  pub slice_finishes : (model cli : List ℕ) → command ≡ Slice model cli
      → ((part : Part) → IsPart OutlinesAlone settings tree part
      → Completes (slice_script settings cli part tree) result
      old new)
      → PlaysOn command settings tree result old new
  slice_finishes model cli form plays parts of_tree =
      subst (λ (c : Command). Completes (follows c settings parts tree) result old new) (sym form)
      (plays (parts OutlinesAlone settings) (as_part tree parts of_tree OutlinesAlone settings in_range))

  pub plan_finishes : (model cli gcode : List ℕ) → command ≡ Plan model cli gcode
      → ((part : Part) → IsPart WithPlan settings tree part → Completes (plan_script settings cli gcode part tree)
      result
      old new)
      → PlaysOn command settings tree result old new
  plan_finishes model cli gcode form plays parts of_tree =
      subst (λ (c : Command). Completes (follows c settings parts tree) result old new) (sym form)
      (plays (parts WithPlan settings) (as_part tree parts of_tree WithPlan settings in_range))

pub sample_finishes : (command : Command) (settings : SettingsOfRun) (tree : Solid) → AreInRange settings
    → (result : Result (List ℕ) Stop) (old : View) (n : ℕ)
    → command ≡ Sample n → ((part : Part) → IsPart WithPlan settings tree part
    → IsEnd (sample_script n settings part tree) result)
    → PlaysOn command settings tree result old old
sample_finishes command settings tree in_range result old n form is parts of_tree =
    subst (λ (c : Command). Completes (follows c settings parts tree) result old old) (sym form)
    (λ whole start left. ended (sample_script n settings (parts WithPlan settings) tree) result whole start old
    (is (parts WithPlan settings) (as_part tree parts of_tree WithPlan settings in_range)) left)
