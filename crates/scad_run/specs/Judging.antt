-- What `verify` answers: a script of what was read of the outlines and of the printing program, and of the verdict.
use Rattle.std.specs.Prelude.{◌++◌, List, [], ◌∷◌, ℕ, Option, Some, None, Result, Ok, Err, codes, decimal, length}
use Rattle.scad_fault.specs.declared.verdict.BadKind.TheVariants.{CliLine, CliCount, CliOpen, GWord, GNumber}
use Rattle.scad_script.specs.declared.loading.Input.{Input}
use Rattle.scad_script.specs.declared.loading.Input.TheVariants.{Whole, Long}
use Rattle.scad_script.specs.declared.refusal.Refusal.TheVariants.{Over, BadFile, Outside as GoesOutside}
use Rattle.scad_script.specs.Steps.{Reads}
use Rattle.scad_script.specs.Script.{Script, Ending, Finishes, Refuses, Lacks, first, ends}
use Rattle.cli_text.specs.Cli.{Layer}
use Rattle.cli_read.specs.declared.fault.CliFault.{CliFault}
use Rattle.cli_read.specs.declared.fault.CliFault.TheVariants.{Memory, BadLine, CountDiffers, OpenLoop}
use Rattle.cli_read.specs.Reading.{reading}
use Rattle.gcode_text.specs.declared.fault.GFault.TheVariants.{UnknownWord, BadNumber}
use Rattle.plan_verify.specs.declared.verdict.Verdict.TheVariants.{Inside, Outside}
use Rattle.verdict_laws.specs.Opinion.{Opinion, Opinions}
use Rattle.scad_run.specs.Words.{Case}
use Rattle.scad_run.specs.Inputs.{file_long}

-- ---- what is told of opinions
-- `inside: N layers, M moves`
unfoldable pub inside_line : ℕ → ℕ → List ℕ
inside_line layers moves = codes "inside: " ++ decimal layers ++ codes " layers, " ++ decimal moves ++ codes " moves\n"

abbrev pub opinion_end : ℕ → Opinion → Ending
opinion_end layers (Ok (Inside moves)) = Finishes (inside_line layers moves)
opinion_end layers (Ok (Outside number line)) = Refuses (GoesOutside number line)
opinion_end layers (Err (UnknownWord line)) = Refuses (BadFile GWord line 0)
opinion_end layers (Err (BadNumber line)) = Refuses (BadFile GNumber line 0)

-- why outlines aren't read; no text means a want of memory
abbrev pub outlines_refused : CliFault → Ending
outlines_refused (BadLine line) = Refuses (BadFile CliLine line 0)
outlines_refused (CountDiffers said there) = Refuses (BadFile CliCount said there)
outlines_refused (OpenLoop line) = Refuses (BadFile CliOpen line 0)
outlines_refused Memory = Lacks

-- the program is judged by the layers of the outlines
abbrev pub judged_end : Opinions → ℕ → List ℕ → Result (List Layer) CliFault → Ending
judged_end opinions width program (Ok layers) = opinion_end (length layers) (opinions layers width program)
judged_end opinions width program (Err fault) = outlines_refused fault

-- the outlines are judged before the program
abbrev pub judgement : Opinions → ℕ → List ℕ → List ℕ → Ending
judgement opinions width outlines program = judged_end opinions width program (reading outlines)

-- ---- the script
-- what follows a file that is judged, if it is there and isn't too long
abbrev pub whole_then : Option Input → (List ℕ → Script) → Script
whole_then None follows = ends Lacks
whole_then (Some Long) follows = ends (Refuses (Over file_long))
whole_then (Some (Whole text)) follows = follows text

-- a file that is judged is read, and then something follows it
abbrev pub file_then : List ℕ → Option Input → (List ℕ → Script) → Script
file_then name read follows = first (Reads name ∷ []) (whole_then read follows)

-- the outlines are read, then the program, and then both are judged
abbrev pub case_script : Case → Option Input → Option Input → (List ℕ → List ℕ → Ending) → Script
case_script case outlines program judge =
    file_then case.outlines outlines (λ text. file_then case.program program (λ other. ends (judge text other)))
