-- The line that a run's report ends with. Every line ends with LF; numbers are decimal.
use Rattle.std.specs.Prelude.{ℕ, ℤ, List, [], ◌++◌, codes, decimal}
use Rattle.std.specs.Fmt.{signed_decimal}
use Rattle.scad_fault.specs.declared.place.Place.{Place}
use Rattle.scad_fault.specs.declared.fault.Fault.{Fault}
use Rattle.scad_fault.specs.declared.budget.Budget.{Budget}
use Rattle.scad_fault.specs.declared.settings.SetFault.{SetFault}
use Rattle.scad_fault.specs.declared.status.Status.{Status}
use Rattle.scad_fault.specs.declared.status.Status.TheVariants.{Done, Source, Usage, Settings, Read, Write, Over, Memory, Outside, BadFile}
use Rattle.scad_fault.specs.declared.fault.FaultKind.{FaultKind}
use Rattle.scad_fault.specs.declared.fault.FaultKind.TheVariants.{LeftOut, UnknownModule, UnknownFunction, BadArgument}
use Rattle.scad_fault.specs.declared.budget.BudgetKind.{BudgetKind}
use Rattle.scad_fault.specs.declared.budget.BudgetKind.TheVariants.{SourceLong, Steps, Depth, Leaves, Triangles, Layers, LayerEdges, LayerCrossings, LayerMoves, HullPoints, SupportRuns, FileLong}
use Rattle.scad_fault.specs.declared.verdict.BadKind.{BadKind}
use Rattle.scad_fault.specs.declared.verdict.BadKind.TheVariants.{CliLine, CliCount, CliOpen, GWord, GNumber}
use Rattle.scad_fault.specs.declared.settings.SetKind.{SetKind}
use Rattle.scad_fault.specs.declared.settings.SetKind.TheVariants.{NotToml, UnknownKey, NotWhole, OutOfRange}
use Rattle.scad_fault.specs.Kinds.{fault_number, fault_name, budget_number, budget_name, set_number, set_name, bad_file, bad_number, bad_name}

-- ` N Name`: a kind's number and name
abbrev pub kind_text : ℕ → List ℕ → List ℕ
kind_text number name = codes " " ++ decimal number ++ codes " " ++ name

-- ` at L:C`: a place
abbrev pub place_text : Place → List ℕ
place_text at = codes " at " ++ decimal at.line ++ codes ":" ++ decimal at.col

-- ` layer n`
abbrev pub layer_text : ℕ → List ℕ
layer_text layer = codes " layer " ++ decimal layer

-- ` count C`
abbrev pub count_text : ℕ → List ℕ
count_text count = codes " count " ++ decimal count

-- a word after a space
abbrev pub word_text : List ℕ → List ℕ
word_text word = codes " " ++ word

-- the name of what was left out, is unknown or got a bad argument; the other kinds of fault name nothing
abbrev pub name_text : FaultKind → List ℕ → List ℕ
name_text LeftOut name = word_text name
name_text UnknownModule name = word_text name
name_text UnknownFunction name = word_text name
name_text BadArgument name = word_text name
name_text kind name = []

-- `fault N Name at L:C`, then the name where the kind has one
unfoldable pub fault_line : Fault → List ℕ
fault_line f =
    codes "fault" ++ kind_text (fault_number f.kind) (fault_name f.kind) ++ place_text f.at
    ++ name_text f.kind f.name ++ codes "\n"

-- the key of the setting, but where the text is no TOML, and the value that is out of range
abbrev pub setting_text : SetKind → List ℕ → ℤ → List ℕ
setting_text NotToml key value = []
setting_text UnknownKey key value = word_text key
setting_text NotWhole key value = word_text key
setting_text OutOfRange key value = word_text key ++ word_text (signed_decimal value)

-- `settings N Name`, then the key and the value where the kind has them
unfoldable pub settings_line : SetFault → List ℕ
settings_line f =
    codes "settings" ++ kind_text (set_number f.kind) (set_name f.kind)
    ++ setting_text f.kind f.key f.value ++ codes "\n"

-- where a budget was passed and by what count: a place, a count alone, or a layer with its count
abbrev pub passed_text : BudgetKind → Place → ℕ → ℕ → List ℕ
passed_text SourceLong at layer count = []
passed_text Steps at layer count = place_text at
passed_text Depth at layer count = place_text at
passed_text Leaves at layer count = place_text at
passed_text Triangles at layer count = place_text at
passed_text Layers at layer count = count_text count
passed_text LayerEdges at layer count = layer_text layer ++ count_text count
passed_text LayerCrossings at layer count = layer_text layer ++ count_text count
passed_text LayerMoves at layer count = layer_text layer ++ count_text count
passed_text HullPoints at layer count = place_text at
passed_text SupportRuns at layer count = count_text count
passed_text FileLong at layer count = []

-- `budget N Name`, then where it was passed and by what count
unfoldable pub budget_line : Budget → List ℕ
budget_line b =
    codes "budget" ++ kind_text (budget_number b.kind) (budget_name b.kind)
    ++ passed_text b.kind b.at b.layer b.count ++ codes "\n"

-- the first move that leaves its outlines: its number among those that extrude, and its line's
unfoldable pub outside_line : ℕ → ℕ → List ℕ
outside_line number line = codes "outside: move " ++ decimal number ++ codes " line " ++ decimal line ++ codes "\n"

-- the second number of a file that is not of the form: how many layers it has, where it says another number of them
abbrev pub second_text : BadKind → ℕ → List ℕ
second_text CliLine second = []
second_text CliCount second = word_text (decimal second)
second_text CliOpen second = []
second_text GWord second = []
second_text GNumber second = []

-- `cli N Name L` or `gcode N Name L`, and of a count of layers both numbers
unfoldable pub bad_line : BadKind → ℕ → ℕ → List ℕ
bad_line kind first second =
    bad_file kind ++ kind_text (bad_number kind) (bad_name kind) ++ word_text (decimal first)
    ++ second_text kind second ++ codes "\n"

-- the report's last line for each status but Done, whose line is the command's own
abbrev pub line_of : Status → List ℕ
line_of Done = []
line_of (Source f) = fault_line f
line_of Usage = codes "usage: scadslice COMMAND\n"
line_of (Settings f) = settings_line f
line_of Read = codes "read fault\n"
line_of Write = codes "write fault\n"
line_of (Over b) = budget_line b
line_of Memory = codes "out of memory\n"
line_of (Outside number line) = outside_line number line
line_of (BadFile kind first second) = bad_line kind first second
