-- When `verify` says yes. What is said of the files holds where the desk tells what they contain.
use Rattle.std.specs.Prelude.{◌≡◌, ◌⊎◌, ◌≤◌, List, ℕ, Option, Some, Ok, IfSome, length}
use Rattle.scad_fault.specs.declared.status.Status.{Status}
use Rattle.scad_fault.specs.declared.status.Status.TheVariants.{Done, Memory}
use Rattle.scad_io.specs.Desk.{Files, View}
use Rattle.scad_words.specs.declared.job.Command.TheVariants.{Verify}
use Rattle.scad_words.specs.declared.settings.Settings.{Settings}
use Rattle.scad_words.specs.Job.{job_of}
use Rattle.scad_script.specs.Promises.{Adds}
use Rattle.scad_tree.specs.Solid.{Solid}
use Rattle.cli_text.specs.Cli.{Layer}
use Rattle.cli_read.specs.Form.{Reads}
use Rattle.plan_verify.specs.declared.verdict.Verdict.TheVariants.{Inside}
use Rattle.plan_verify.specs.Verdict.{IsVerdict}
use Rattle.print_laws.specs.Print.{IsPrintOf}
use Rattle.verdict_laws.specs.OwnOutlines.{plan_moves}
use Rattle.scad_run.specs.Words.{Case}
use Rattle.scad_run.specs.Meaning.{MeansTree}
use Rattle.scad_run.specs.Inputs.{file_limit, GoBy}
use Rattle.scad_run.specs.Judging.{inside_line}

-- the words are those of `verify`, these settings are accepted, and both files are there with these texts, each within
-- the limit
pub record AreGiven (words : List (List ℕ)) (contents : List ℕ → Option (List ℕ)) (settings : Settings)
    (outlines program : List ℕ)
    : Type 0 where
  pub case : Case
  pub name : Option (List ℕ)
  pub workers : ℕ
  pub form : job_of words
      ≡ Some (record { command = Verify case.outlines case.program; settings = name; workers = workers })
  pub accepted : GoBy contents name settings
  pub outlines_there : contents case.outlines ≡ Some outlines
  pub outlines_within : length outlines ≤ file_limit
  pub program_there : contents case.program ≡ Some program
  pub program_within : length program ≤ file_limit

-- all is done and the report is the line `inside` of so many layers and moves, or memory is wanting
abbrev pub SaysInside : ℕ → ℕ → Status → View → View → Type 0
SaysInside layers moves status old new =
    ((status ≡ Done) × Adds (inside_line layers moves) old.report new.report) ⊎ (status ≡ Memory)

-- So it is where the outlines say layers, by which each of so many moves of the program that extrude stays inside,
-- and the count of faults doesn't rise.
abbrev pub Confirms : List (List ℕ) → Files → Status → View → View → ℕ → ℕ → Type 0
Confirms words files status old new before now =
    IfSome files (λ contents. (settings : Settings) (outlines program : List ℕ) (layers : List Layer) (moves : ℕ)
    → AreGiven words contents settings outlines program → Reads outlines layers
    → IsVerdict layers settings.line_width program (Ok (Inside moves)) → now ≡ before
    → SaysInside (length layers) moves status old new)

-- and where they are the print of a source's tree by these settings, which `plan` writes, without support lines: with its
-- layers, and all moves of their plans. With them the moves of supports, which stand outside, are told.
abbrev pub ConfirmsPrints : List (List ℕ) → Files → Status → View → View → ℕ → ℕ → Type 0
ConfirmsPrints words files status old new before now =
    IfSome files (λ contents. (settings : Settings) (source : List ℕ) (tree : Solid) (outlines program : List ℕ)
    (print : IsPrintOf settings tree outlines program)
    → settings.support_spacing ≡ 0 → AreGiven words contents settings outlines program → MeansTree tree source
    → now ≡ before
    → SaysInside (length print.layers) (plan_moves print.layers) status old new)
