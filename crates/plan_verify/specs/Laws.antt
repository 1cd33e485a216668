-- What holds of all files of outlines.
use Rattle.std.specs.Prelude.{ℕ, List}
use Rattle.cli_text.specs.Cli.{Layer}
use Rattle.cli_read.specs.Form.{Reads}
use Rattle.plan_verify.specs.Stays.{AreWithin}

-- all points of the outlines that a file says are within the limit of coordinates
abbrev pub FilesAreWithin : Type 0
FilesAreWithin = (bytes : List ℕ) (layers : List Layer) → Reads bytes layers → AreWithin layers
