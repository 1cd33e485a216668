-- A sample that was planned on a desk which keeps nothing ends as its script.
use Rattle.std.proofs.Common.{◌≡◌, ◌<◌, ◌≤◌, List, ℕ, Bool, true, false, Result, Ok, Err, refl, sym, ap, ◌∙◌, subst, nat_lt, rules, arith}
use Rattle.std.specs.Prelude.{if◌then◌else◌}
use Rattle.scad_io.specs.Desk.{View}
use Rattle.scad_words.specs.declared.settings.Settings.{Settings as SettingsOfRun}
use Rattle.scad_script.specs.declared.refusal.Refusal.TheVariants.{Over}
use Rattle.scad_script.specs.declared.stop.Stop.{Stop}
use Rattle.scad_script.specs.Script.{Script, Finishes, Refuses, ends}
use Rattle.scad_script.specs.Play.{Carries, HasRisen}
use Rattle.scad_script.proofs.Playing.{begun}
use Rattle.scad_tree.specs.Solid.{Solid}
use Rattle.slice_work.specs.declared.want.Want.TheVariants.{Plan as WithPlan}
use Rattle.slice_work.specs.Part.{Part, layer_limit}
use Rattle.slice_work.specs.Sums.{loop_count, moves_below}
use Rattle.scad_io.specs.declared.desk.Out.TheVariants.{Cli, Gcode}
use Rattle.scad_slice.specs.declared.summary.Written.{Written}
use Rattle.scad_slice.specs.Budgets.{layer_count, layers_passed}
use Rattle.scad_slice.specs.Script.{files, file_size, amount_below, IsWritten}
use Rattle.scad_run.specs.SourceReport.{sample_line, sample_end, unwritten, sample_script}
use Rattle.scad_run.specs.Playing.{IsEnd}

module _ (n : ℕ) (s : SettingsOfRun) (part : Part) (tree : Solid) where
  abbrev count : ℕ
  count = layer_count s.layer_height tree

  abbrev whole : Script
  whole = files WithPlan s part count (sample_end n s part count)

  script_if : (b : Bool) → nat_lt layer_limit count ≡ b → count ≤ layer_limit
      → (if b then ends (Refuses (Over (layers_passed count))) else unwritten whole) ≡ unwritten whole
  script_if true is few = let never : ⊥ = search (rules, arith) in absurd never
  script_if false is few = refl

  -- within the limit of layers the script is the end of the files
  script_is : count ≤ layer_limit → sample_script n s part tree ≡ unwritten whole
  script_is few = script_if (nat_lt layer_limit count) refl few

  -- the work on the files stopped
  stopped_so : (old new : View) (stop : Stop) → count ≤ layer_limit
      → Carries {T = Written} (files WithPlan s part count)
      (Err stop) old new
      → HasRisen {T = Written} (Err stop) 0 0 → IsEnd (sample_script n s part tree) (Err stop)
  stopped_so old new (Stop.Ends refusal) few carries rises =
      let left = carries whole (sample_end n s part count) old (begun whole old) in
      script_is few ∙ ap (λ (r : Script). ends r.ending) (sym left.parts)
  stopped_so old new Stop.Memory few carries rises = tt
  stopped_so old new Stop.Read few carries rises = let less : 0 < 0 = rises refl in omega (arith, less)
  stopped_so old new Stop.Write few carries rises = let less : 0 < 0 = rises refl in omega (arith, less)
  stopped_so old new Stop.Silent few carries rises = let less : 0 < 0 = rises refl in omega (arith, less)

  pub sample_stops : (old new : View) (stop : Stop) (result : Result (List ℕ) Stop) → count ≤ layer_limit
      → Carries {T = Written} (files WithPlan s part count) (Err stop) old new → HasRisen {T = Written} (Err stop) 0 0
      → result ≡ Err stop
      → IsEnd (sample_script n s part tree) result
  sample_stops old new stop result few carries rises is =
      subst (IsEnd (sample_script n s part tree)) (sym is) (stopped_so old new stop few carries rises)

  -- the line of what was written
  line_is : (w : Written) → IsWritten WithPlan s part count w
      → sample_line n w.summary.layers w.summary.loops w.summary.moves w.summary.e w.cli w.gcode
      ≡ sample_line n count (loop_count part count) (moves_below WithPlan part count) (amount_below s part count)
      (file_size Cli WithPlan s part count)
      (file_size Gcode WithPlan s part count)
  line_is w told =
      λ k. sample_line n (told.summary.layers k) (told.summary.loops k) (told.summary.moves k) (told.summary.e k)
      (told.cli k) (told.gcode k)

  -- all was done
  pub sample_done : (old new : View) (w : Written) (line : List ℕ) → count ≤ layer_limit
      → Carries (files WithPlan s part count) (Ok w) old new → IsWritten WithPlan s part count w
      → line ≡ sample_line n w.summary.layers w.summary.loops w.summary.moves w.summary.e w.cli w.gcode
      → IsEnd (sample_script n s part tree) (Ok line)
  sample_done old new w line few carries told is =
      let left = carries whole (sample_end n s part count) old (begun whole old) in
      script_is few ∙ ap (λ (r : Script). ends r.ending) (sym left.parts) ∙ ap (λ l. ends (Finishes l))
      (sym (is ∙ line_is w told))

-- an end is no fault
pub no_fault_rises : (script : Script) (result : Result (List ℕ) Stop) (faults : ℕ) → IsEnd script result
    → HasRisen result faults faults
no_fault_rises script (Ok line) faults is = tt
no_fault_rises script (Err (Stop.Ends refusal)) faults is = λ same. let never : ⊥ = cc in absurd never
no_fault_rises script (Err Stop.Memory) faults is = λ same. let never : ⊥ = cc in absurd never
no_fault_rises script (Err Stop.Read) faults is = absurd is
no_fault_rises script (Err Stop.Write) faults is = absurd is
no_fault_rises script (Err Stop.Silent) faults is = absurd is
