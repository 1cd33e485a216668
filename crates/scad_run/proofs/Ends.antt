-- How what follows a tree ends: with the last line, or by a budget.
use Rattle.std.proofs.Common.{◌≡◌, ◌⊎◌, ◌<◌, ◌≤◌, List, [], ℕ, Bool, true, false, Err, inl, inr, refl, ap, ◌∙◌, subst, nat_lt, rules, arith}
use Rattle.std.specs.Prelude.{if◌then◌else◌}
use Rattle.scad_fault.specs.declared.budget.Budget.{Budget}
use Rattle.scad_words.specs.declared.job.Command.{Command}
use Rattle.scad_words.specs.declared.job.Command.TheVariants.{Check, Tree, Slice, Plan, Sample, Verify}
use Rattle.scad_words.specs.declared.settings.Settings.{Settings as SettingsOfRun}
use Rattle.scad_script.specs.declared.refusal.Refusal.TheVariants.{Over}
use Rattle.scad_script.specs.Steps.{Step}
use Rattle.scad_script.specs.Script.{Script, Ending, Finishes, Refuses, first, ends}
use Rattle.scad_tree.specs.Order.{leaves as leaf_count}
use Rattle.scad_tree.specs.Sizes.{triangle_count}
use Rattle.scad_tree.specs.Solid.{Solid}
use Rattle.scad_tree.specs.Text.{text_of as tree_text}
use Rattle.slice_work.specs.declared.want.Want.{Want}
use Rattle.slice_work.specs.declared.want.Want.TheVariants.{Outlines as OutlinesAlone, Plan as WithPlan}
use Rattle.slice_work.specs.Part.{Part, layer_limit}
use Rattle.slice_work.specs.Sums.{loop_count, moves_below}
use Rattle.scad_slice.specs.Budgets.{layer_count, layers_passed}
use Rattle.scad_slice.specs.Parts.{AreMade}
use Rattle.scad_io.specs.declared.desk.Out.TheVariants.{Cli, Gcode}
use Rattle.scad_slice.specs.Script.{file_size, amount_below}
use Rattle.scad_slice.specs.Laws.{IsWhole}
use Rattle.scad_slice.proofs.ScriptCourse.{command_script, HasMany, IsDone as IsWritten, IsCut, script_goes, slice_creates, plan_creates, slice_line, line_of_plan}
use Rattle.scad_run.specs.SourceReport.{ok_line, sample_line, unwritten}
use Rattle.scad_run.specs.Answer.{Parts, follows}
use Rattle.scad_run.specs.Causes.{HasManyLayers}

-- the last line of a sample
abbrev pub line_of_sample : ℕ → SettingsOfRun → Part → Solid → List ℕ
line_of_sample n s part tree =
    let count = layer_count s.layer_height tree in
    sample_line n count (loop_count part count) (moves_below WithPlan part count) (amount_below s part count)
    (file_size Cli WithPlan s part count)
    (file_size Gcode WithPlan s part count)

-- a layer passes this budget, and cuts the files short
pub record Cuts (want : Want) (s : SettingsOfRun) (creates : List Step) (line : List ℕ) (part : Part) (tree : Solid) (budget : Budget) : Type 0 where
  pub cut : IsCut want s creates line part tree
  pub this : cut.budget ≡ budget

-- there are not too many layers, and the least one that passes a budget passes this one
pub record PartPasses (part : Part) (count : ℕ) (budget : Budget) : Type 0 where
  pub few : count ≤ layer_limit
  pub layer : ℕ
  pub there : layer < count
  pub below : AreMade part layer
  pub passes : part layer ≡ Err budget

pub part_passes : (want : Want) (s : SettingsOfRun) (creates : List Step) (line : List ℕ) (part : Part) (tree : Solid)
    (budget : Budget)
    → Cuts want s creates line part tree budget → PartPasses part (layer_count s.layer_height tree) budget
part_passes want s creates line part tree budget c =
    record {
      few = c.cut.few;
      layer = c.cut.layer;
      there = c.cut.inside;
      below = c.cut.made;
      passes = c.cut.passed ∙ ap
          Err c.this;
    }

-- ---- for each command

-- what it has found of its tree where it is done
abbrev pub IsDone : Command → SettingsOfRun → Parts → Solid → Type 0
IsDone (Check model) settings parts tree = layer_count settings.layer_height tree ≤ layer_limit
IsDone (Tree model) settings parts tree = Unit {0}
IsDone (Slice model cli) settings parts tree = IsWhole settings (parts OutlinesAlone settings) tree
IsDone (Plan model cli gcode) settings parts tree = IsWhole settings (parts WithPlan settings) tree
IsDone (Sample n) settings parts tree = IsWhole settings (parts WithPlan settings) tree
IsDone (Verify outlines program) settings parts tree = Unit {0}

-- too many layers, or one that cuts the files short
abbrev pub IsDrawnOver : Want → SettingsOfRun → List Step → List ℕ → Part → Solid → Budget → Type 0
IsDrawnOver want s creates line part tree budget = HasManyLayers s tree budget ⊎ Cuts want s creates line part tree
    budget

-- and why another is refused
abbrev pub IsOver : Command → SettingsOfRun → Parts → Solid → Budget → Type 0
IsOver (Check model) settings parts tree budget = HasManyLayers settings tree budget
IsOver (Tree model) settings parts tree budget = ⊥
IsOver (Slice model cli) settings parts tree budget =
    IsDrawnOver OutlinesAlone settings (slice_creates cli) (slice_line settings (parts OutlinesAlone settings) tree)
    (parts OutlinesAlone settings) tree budget
IsOver (Plan model cli gcode) settings parts tree budget =
    IsDrawnOver WithPlan settings (plan_creates cli gcode) (line_of_plan settings (parts WithPlan settings) tree)
    (parts WithPlan settings) tree budget
IsOver (Sample n) settings parts tree budget =
    IsDrawnOver WithPlan settings [] (line_of_sample n settings (parts WithPlan settings) tree)
    (parts WithPlan settings) tree
    budget
IsOver (Verify outlines program) settings parts tree budget = ⊥

-- it ends with a line or by a budget
abbrev pub EndsBy : Type 0 → (Budget → Type 0) → Ending → Type 0
EndsBy Done Passes ending =
    ((line : List ℕ) × (ending ≡ Finishes line) × Done) ⊎ ((budget : Budget) × (ending ≡ Refuses (Over budget))
    × Passes budget)

check_ends : (settings : SettingsOfRun) (tree : Solid) (line : List ℕ) (b : Bool)
    → nat_lt layer_limit (layer_count settings.layer_height tree) ≡ b
    → EndsBy (layer_count settings.layer_height tree ≤ layer_limit) (HasManyLayers settings tree)
    (if b then Refuses (Over (layers_passed (layer_count settings.layer_height tree))) else Finishes line)
check_ends settings tree line true is = inr (
  layers_passed (layer_count settings.layer_height tree),
  refl,
  (search (rules, arith), refl),
)
check_ends settings tree line false is = inl (line, refl, search (rules, arith))

drawn_ends : (want : Want) (s : SettingsOfRun) (creates : List Step) (line : List ℕ) (part : Part) (tree : Solid)
    → HasMany want s creates line part tree ⊎ (IsWritten want s creates line part tree ⊎ IsCut want s creates line part
    tree)
    → EndsBy (IsWhole s part tree) (IsDrawnOver want s creates line part tree) (command_script want s creates line part
    tree).ending
drawn_ends want s creates line part tree (inl many) =
    inr (layers_passed (layer_count s.layer_height tree), ap (λ r. r.ending) many.script, inl (many.many, refl))
drawn_ends want s creates line part tree (inr (inl done)) = inl (line, ap (λ r. r.ending) done.script, done.whole)
drawn_ends want s creates line part tree (inr (inr cut)) =
    inr (cut.budget, ap (λ r. r.ending) cut.script, inr (record { cut = cut; this = refl }))

-- what isn't written ends as what is
unwritten_ends : (b : Bool) (x : Ending) (files : Script) → (if b then ends x else first [] files).ending
    ≡ (if b then ends x else unwritten files).ending
unwritten_ends true x files = refl
unwritten_ends false x files = refl

-- how what follows a tree ends
pub follows_end : (command : Command) (settings : SettingsOfRun) (parts : Parts) (tree : Solid)
    → EndsBy (IsDone command settings parts tree) (IsOver command settings parts tree) (follows command settings parts
    tree).ending
follows_end (Check model) settings parts tree =
    check_ends settings tree (ok_line (leaf_count tree) (triangle_count tree) (layer_count settings.layer_height tree))
    (nat_lt layer_limit (layer_count settings.layer_height tree)) refl
follows_end (Tree model) settings parts tree = inl (tree_text tree, refl, tt)
follows_end (Slice model cli) settings parts tree =
    let part = parts OutlinesAlone settings in
    drawn_ends OutlinesAlone settings (slice_creates cli) (slice_line settings part tree) part tree
    (script_goes OutlinesAlone settings (slice_creates cli) (slice_line settings part tree) part tree)
follows_end (Plan model cli gcode) settings parts tree =
    let part = parts WithPlan settings in
    drawn_ends WithPlan settings (plan_creates cli gcode) (line_of_plan settings part tree) part tree
    (script_goes WithPlan settings (plan_creates cli gcode) (line_of_plan settings part tree) part tree)
follows_end (Verify outlines program) settings parts tree = inl ([], refl, tt)
follows_end (Sample n) settings parts tree =
    let part = parts WithPlan settings in
    subst (EndsBy (IsWhole settings part tree) (IsDrawnOver WithPlan settings [] (line_of_sample n settings part tree)
    part tree))
    (unwritten_ends (nat_lt layer_limit (layer_count settings.layer_height tree)) _ _)
    (drawn_ends WithPlan settings [] (line_of_sample n settings part tree) part tree
    (script_goes WithPlan settings [] (line_of_sample n settings part tree) part tree))
