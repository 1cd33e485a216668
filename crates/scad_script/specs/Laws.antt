-- The laws of runs: what holds of every run of every orderly script over a desk that is ready.
use Rattle.scad_fault.specs.declared.status.Status.{Status}
use Rattle.scad_io.specs.Desk.{View}
use Rattle.scad_script.specs.Script.{Script}
use Rattle.scad_script.specs.Names.{Given, IsOrderly}
use Rattle.scad_script.specs.Run.{IsReady, RunsTo}
use Rattle.scad_script.specs.Promises.{Promised, AreFronts, HandsIn, CreatesForBytes, FailedReportIsWrite}

-- every run of every orderly script has this property
abbrev pub EveryRun : (Given → Script → Status → View → View → Type 0) → Type 0
EveryRun Holds =
    (given : Given) (whole : Script) (status : Status) (old new : View)
    → IsOrderly given whole → IsReady old → RunsTo whole status old new → Holds given whole status old new

-- each status keeps its promise
abbrev pub StatusesKeepPromises : Type 0
StatusesKeepPromises = EveryRun Promised

-- both files are fronts of the answer's
abbrev pub FilesAreFronts : Type 0
FilesAreFronts = EveryRun (λ given whole status old new. AreFronts whole old new)

-- the names that are handed in are those that were given
abbrev pub NamesAreGiven : Type 0
NamesAreGiven = EveryRun (λ given whole status old new. HandsIn given old new)

-- an output is created only where it gets bytes
abbrev pub CreatedForBytes : Type 0
CreatedForBytes = EveryRun (λ given whole status old new. CreatesForBytes status old new)

-- a report that has failed makes the status Write
abbrev pub FailedReportsAreWrite : Type 0
FailedReportsAreWrite = EveryRun (λ given whole status old new. FailedReportIsWrite status new)
