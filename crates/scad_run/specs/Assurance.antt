-- What a yes of `verify` says, over every desk: what is said of the files holds where the desk tells them.
use Rattle.std.specs.Prelude.{◌≡◌, ◌≤◌, List, ℕ, Option, Some, Ok, IfSome, length}
use Rattle.scad_io.specs.Desk.{Files}
use Rattle.scad_words.specs.declared.job.Command.TheVariants.{Verify}
use Rattle.scad_words.specs.declared.settings.Settings.{Settings}
use Rattle.scad_words.specs.Job.{job_of}
use Rattle.cli_text.specs.Cli.{Layer}
use Rattle.cli_read.specs.Form.{Reads}
use Rattle.plan_verify.specs.Stays.{Stays}
use Rattle.plan_verify.specs.Verdict.{Told, program_moves, extruding, AllDo}
use Rattle.scad_run.specs.Inputs.{file_limit, GoBy}
use Rattle.scad_run.specs.Promises.{Contains}

-- what a file contains is within the limit and has this property
abbrev pub IsFile : Files → List ℕ → (List ℕ → Type 0) → Type 0
IsFile files name Holds = Contains files name (λ text. (length text ≤ file_limit) × Holds text)

-- The one file says layers, the other has moves, and each of these that extrudes stays inside the outlines of a layer by
-- the clearance of half the width of a line. The width is that of the settings that the run goes by.
pub record MovesStay (name : Option (List ℕ)) (outlines program : List ℕ) (files : Files) : Type 0 where
  pub settings : Settings
  pub accepted : IfSome files (λ contents. GoBy contents name settings)
  pub layers : List Layer
  pub said : IsFile files outlines (λ text. Reads text layers)
  pub moves : List Told
  pub read : IsFile files program (λ text. program_moves text ≡ Ok moves)
  pub stay : AllDo (Stays layers settings.line_width) (extruding moves)

-- Status 0 of `verify`.
abbrev pub VerifiesMoves : List (List ℕ) → Files → Type 0
VerifiesMoves words files =
    (outlines program : List ℕ) (name : Option (List ℕ)) (workers : ℕ)
    → job_of words ≡ Some (record { command = Verify outlines program; settings = name; workers = workers })
    → MovesStay name outlines program files
