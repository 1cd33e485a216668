-- What `plan` prints, over every desk: what is said of the files and of the outputs holds where the desk tells them.
use Rattle.std.specs.Prelude.{◌≡◌, List, ℕ, Option, Some, IfSome}
use Rattle.scad_io.specs.Desk.{Files, View}
use Rattle.scad_words.specs.declared.job.Command.TheVariants.{Plan}
use Rattle.scad_words.specs.declared.settings.Settings.{Settings}
use Rattle.scad_words.specs.Job.{job_of}
use Rattle.scad_script.specs.Promises.{Adds}
use Rattle.scad_tree.specs.Solid.{Solid}
use Rattle.print_laws.specs.Print.{IsPrintOf}
use Rattle.scad_run.specs.Promises.{IsTreeOf}
use Rattle.scad_run.specs.Inputs.{GoBy}

-- both texts are a print of the tree by the settings, and no others are
pub record IsThePrint (settings : Settings) (tree : Solid) (cli gcode : List ℕ) : Type 0 where
  pub print : IsPrintOf settings tree cli gcode
  pub one : (other_cli other_gcode : List ℕ) → IsPrintOf settings tree other_cli other_gcode
      → (other_cli ≡ cli) × (other_gcode ≡ gcode)

-- The model means a tree by settings that the run goes by, and what was added to both outputs is its print.
pub record AddsPrint (name : Option (List ℕ)) (model : List ℕ) (files : Files) (old new : View) : Type 0 where
  pub settings : Settings
  pub tree : Solid
  pub outlines : List ℕ
  pub program : List ℕ
  pub accepted : IfSome files (λ contents. GoBy contents name settings)
  pub meant : IsTreeOf files model tree
  pub cli : Adds outlines old.cli new.cli
  pub gcode : Adds program old.gcode new.gcode
  pub is : IsThePrint settings tree outlines program

-- Status 0 of `plan`, by any number of workers.
abbrev pub PlanAddsPrint : List (List ℕ) → Files → View → View → Type 0
PlanAddsPrint words files old new =
    (model cli gcode : List ℕ) (name : Option (List ℕ)) (workers : ℕ)
    → job_of words ≡ Some (record { command = Plan model cli gcode; settings = name; workers = workers })
    → AddsPrint name model files old new
