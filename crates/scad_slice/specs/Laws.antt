-- Laws of what is drawn and written of trees.
use Rattle.std.specs.Prelude.{◌≡◌, ◌≤◌, ℕ, List}
use Rattle.scad_io.specs.declared.desk.Out.TheVariants.{Cli, Gcode}
use Rattle.scad_script.specs.Steps.{text_of}
use Rattle.scad_tree.specs.Solid.{Solid}
use Rattle.scad_tree.specs.Solids.{AreSolids}
use Rattle.scad_words.specs.declared.settings.Settings.{Settings}
use Rattle.scad_words.specs.Settings.{AreInRange}
use Rattle.cli_text.specs.Cli as outline
use Rattle.gcode_text.specs.Gcode as program
use Rattle.slice_work.specs.declared.want.Want.{Want}
use Rattle.slice_work.specs.Part.{Part, layer_limit}
use Rattle.slice_work.specs.Rates.{rates_of}
use Rattle.scad_slice.specs.Budgets.{layer_count}
use Rattle.scad_slice.specs.Parts.{IsPart, AreMade, layers_of, plans_of}
use Rattle.scad_slice.specs.Script.{slice_script, plan_script}
use Rattle.scad_slice.specs.Membership.{HoldTree}

-- a tree of solids has a part, whatever is wanted and by whatever settings
abbrev pub PartsAreThere : Type 0
PartsAreThere = (want : Want) (s : Settings) (tree : Solid) → AreSolids tree → (part : Part) × IsPart want s tree part

-- it has one by settings in range
abbrev pub PartsAreOne : Type 0
PartsAreOne =
    (want : Want) (s : Settings) (tree : Solid) (a b : Part) → AreSolids tree → AreInRange s
    → IsPart want s tree a → IsPart want s tree b → a ≡ b

-- where no layer passes a budget, its layers hold what the tree contains
abbrev pub PartsHold : Type 0
PartsHold =
    (want : Want) (s : Settings) (tree : Solid) (part : Part) → AreSolids tree → AreInRange s → IsPart want s tree part
    → AreMade part (layer_count s.layer_height tree)
    → HoldTree s.layer_height tree (layers_of s.layer_height part (layer_count s.layer_height tree))

-- there are not too many layers, and none passes a budget
pub record IsWhole (s : Settings) (part : Part) (tree : Solid) : Type 0 where
  pub few : layer_count s.layer_height tree ≤ layer_limit
  pub made : AreMade part (layer_count s.layer_height tree)

-- then `slice` writes the text of all layers,
abbrev pub SlicesAreWhole : Type 0
SlicesAreWhole =
    (s : Settings) (cli : List ℕ) (part : Part) (tree : Solid) → IsWhole s part tree
    → text_of Cli (slice_script s cli part tree).steps
    ≡ outline.cli (layers_of s.layer_height part (layer_count s.layer_height tree))

-- so does `plan`,
abbrev pub PlansAreWhole : Type 0
PlansAreWhole =
    (s : Settings) (cli gcode : List ℕ) (part : Part) (tree : Solid) → IsWhole s part tree
    → text_of Cli (plan_script s cli gcode part tree).steps
    ≡ outline.cli (layers_of s.layer_height part (layer_count s.layer_height tree))

-- and the printing program of all plans
abbrev pub ProgramsAreWhole : Type 0
ProgramsAreWhole =
    (s : Settings) (cli gcode : List ℕ) (part : Part) (tree : Solid) → IsWhole s part tree
    → text_of Gcode (plan_script s cli gcode part tree).steps
    ≡ program.gcode (rates_of s) s.hot_end s.bed (plans_of part (layer_count s.layer_height tree))
