-- The headline, clause `headline` of `run`:
--
--   For every source and settings that `plan` accepts, and any number of workers, both files' bytes are one function of
--   source and settings; at every layer a cell centre more than one micrometre from each section edge has nonzero
--   winding in the written outlines exactly when the source's tree contains it; each extruding move except support moves
--   stays inside them by the clearance; every refusal has its named cause.
--
-- What both files are is `IsPrintOf` of print_laws; it says of support moves that they stand outside of the outlines. What a
-- source means is a parameter, so that this can be read without the language; the clause puts in what the language says,
-- `Means` of `Meaning.antt`.
use Rattle.std.specs.Prelude.{◌≡◌, ◌++◌, ◌≤◌, List, ℕ, Option, Some, length}
use Rattle.scad_fault.specs.declared.status.Status.{Status}
use Rattle.scad_fault.specs.declared.status.Status.TheVariants.{Done}
use Rattle.scad_io.specs.Desk.{Files, View}
use Rattle.scad_words.specs.declared.job.Command.TheVariants.{Plan}
use Rattle.scad_words.specs.declared.settings.Settings.{Settings}
use Rattle.scad_words.specs.Job.{job_of}
use Rattle.scad_tree.specs.Solid.{Solid}
use Rattle.print_laws.specs.Print.{IsPrintOf}
use Rattle.scad_run.specs.Inputs.{source_limit, GoBy}
use Rattle.scad_run.specs.SourceMeaning.{Meant, meant_tree, EachMeansOne}
use Rattle.scad_run.specs.Causes.{HasNamedCause}

-- ---- the desk tells
-- what each name contains, and what both outputs held before the run
pub record Tells (files : Files) (old : View) : Type 0 where
  pub contents : List ℕ → Option (List ℕ)
  pub outlines : List ℕ
  pub program : List ℕ
  pub files_told : files ≡ Some contents
  pub outlines_told : old.cli.bytes ≡ Some outlines
  pub program_told : old.gcode.bytes ≡ Some program

-- ---- what `plan` accepts is printed
-- The settings are those of the run, and the model is there and means a tree. What was added to both outputs is the
-- print of the tree by the settings, and nothing else is one.
pub record IsPrinted {files : Files} {old : View} (Means : List ℕ → Meant → Type 0) (desk : Tells files old)
    (name : Option (List ℕ)) (model : List ℕ) (new : View)
    : Type 0 where
  pub settings : Settings
  pub accepted : GoBy desk.contents name settings
  pub source : List ℕ
  pub there : desk.contents model ≡ Some source
  pub within : length source ≤ source_limit
  pub tree : Solid
  pub means : Means source (meant_tree tree)
  pub outlines : List ℕ
  pub program : List ℕ
  pub outlines_added : new.cli.bytes ≡ Some (desk.outlines ++ outlines)
  pub program_added : new.gcode.bytes ≡ Some (desk.program ++ program)
  pub print : IsPrintOf settings tree outlines program
  pub one : (others other_program : List ℕ) → IsPrintOf settings tree others other_program
      → (others ≡ outlines) × (other_program ≡ program)

-- Status 0 of `plan`, by any number of workers, over a desk that tells.
abbrev pub Prints : (List ℕ → Meant → Type 0) → List (List ℕ) → Files → View → View → Type 0
Prints Means words files old new =
    (desk : Tells files old) (model cli gcode : List ℕ) (name : Option (List ℕ)) (workers : ℕ)
    → job_of words ≡ Some (record { command = Plan model cli gcode; settings = name; workers = workers })
    → IsPrinted Means desk name model new

-- ---- the headline
-- Since a source means one thing and a tree has one print by settings, both files' bytes are one function of source and
-- settings.
pub record Headline (Means : List ℕ → Meant → Type 0) (words : List (List ℕ)) (files : Files) (status : Status)
    (old new : View) (before now : ℕ)
    : Type 0 where
  pub meaning : EachMeansOne Means
  pub prints : status ≡ Done → Prints Means words files old new
  pub cause : HasNamedCause Means words files status old new before now
