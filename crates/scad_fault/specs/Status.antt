-- The number of each status.
use Rattle.std.specs.Prelude.{ℕ}
use Rattle.scad_fault.specs.declared.status.Status.{Status}
use Rattle.scad_fault.specs.declared.status.Status.TheVariants.{Done, Source, Usage, Settings, Read, Write, Over, Memory, Outside, BadFile}

-- the number that the program ends with
abbrev pub code_of : Status → ℕ
code_of Done = 0
code_of (Source f) = 1
code_of Usage = 2
code_of (Settings f) = 3
code_of Read = 4
code_of Write = 5
code_of (Over b) = 6
code_of Memory = 7
code_of (Outside number line) = 8
code_of (BadFile kind first second) = 9
