-- The number and the name of each kind of fault, of budget, of settings fault and of why a file is not of the form.
use Rattle.std.specs.Prelude.{ℕ, List, codes}
use Rattle.scad_fault.specs.declared.fault.FaultKind.{FaultKind}
use Rattle.scad_fault.specs.declared.fault.FaultKind.TheVariants.{BadText, Syntax, Nesting, LeftOut, UnknownModule, UnknownFunction, BadArgument, ZeroDivisor, NumberRange, AssertFailed, MixedDimensions, NotClosed, CoordinateRange, ZeroStep}
use Rattle.scad_fault.specs.declared.budget.BudgetKind.{BudgetKind}
use Rattle.scad_fault.specs.declared.budget.BudgetKind.TheVariants.{SourceLong, Steps, Depth, Leaves, Triangles, Layers, LayerEdges, LayerCrossings, LayerMoves, HullPoints, SupportRuns, FileLong}
use Rattle.scad_fault.specs.declared.verdict.BadKind.{BadKind}
use Rattle.scad_fault.specs.declared.verdict.BadKind.TheVariants.{CliLine, CliCount, CliOpen, GWord, GNumber}
use Rattle.scad_fault.specs.declared.settings.SetKind.{SetKind}
use Rattle.scad_fault.specs.declared.settings.SetKind.TheVariants.{NotToml, UnknownKey, NotWhole, OutOfRange}

-- the number of a fault's kind
abbrev pub fault_number : FaultKind → ℕ
fault_number BadText = 1
fault_number Syntax = 2
fault_number Nesting = 3
fault_number LeftOut = 4
fault_number UnknownModule = 5
fault_number UnknownFunction = 6
fault_number BadArgument = 7
fault_number ZeroDivisor = 8
fault_number NumberRange = 9
fault_number AssertFailed = 10
fault_number MixedDimensions = 11
fault_number NotClosed = 12
fault_number CoordinateRange = 13
fault_number ZeroStep = 14

-- the name of a fault's kind
abbrev pub fault_name : FaultKind → List ℕ
fault_name BadText = codes "BadText"
fault_name Syntax = codes "Syntax"
fault_name Nesting = codes "Nesting"
fault_name LeftOut = codes "LeftOut"
fault_name UnknownModule = codes "UnknownModule"
fault_name UnknownFunction = codes "UnknownFunction"
fault_name BadArgument = codes "BadArgument"
fault_name ZeroDivisor = codes "ZeroDivisor"
fault_name NumberRange = codes "NumberRange"
fault_name AssertFailed = codes "AssertFailed"
fault_name MixedDimensions = codes "MixedDimensions"
fault_name NotClosed = codes "NotClosed"
fault_name CoordinateRange = codes "CoordinateRange"
fault_name ZeroStep = codes "ZeroStep"

-- the number of a budget
abbrev pub budget_number : BudgetKind → ℕ
budget_number SourceLong = 1
budget_number Steps = 2
budget_number Depth = 3
budget_number Leaves = 4
budget_number Triangles = 5
budget_number Layers = 6
budget_number LayerEdges = 7
budget_number LayerCrossings = 8
budget_number LayerMoves = 9
budget_number HullPoints = 10
budget_number SupportRuns = 11
budget_number FileLong = 12

-- the name of a budget
abbrev pub budget_name : BudgetKind → List ℕ
budget_name SourceLong = codes "SourceLong"
budget_name Steps = codes "Steps"
budget_name Depth = codes "Depth"
budget_name Leaves = codes "Leaves"
budget_name Triangles = codes "Triangles"
budget_name Layers = codes "Layers"
budget_name LayerEdges = codes "LayerEdges"
budget_name LayerCrossings = codes "LayerCrossings"
budget_name LayerMoves = codes "LayerMoves"
budget_name HullPoints = codes "HullPoints"
budget_name SupportRuns = codes "SupportRuns"
budget_name FileLong = codes "FileLong"

-- the number of a settings fault
abbrev pub set_number : SetKind → ℕ
set_number NotToml = 1
set_number UnknownKey = 2
set_number NotWhole = 3
set_number OutOfRange = 4

-- the name of a settings fault
abbrev pub set_name : SetKind → List ℕ
set_name NotToml = codes "NotToml"
set_name UnknownKey = codes "UnknownKey"
set_name NotWhole = codes "NotWhole"
set_name OutOfRange = codes "OutOfRange"

-- the file that is not of the form
abbrev pub bad_file : BadKind → List ℕ
bad_file CliLine = codes "cli"
bad_file CliCount = codes "cli"
bad_file CliOpen = codes "cli"
bad_file GWord = codes "gcode"
bad_file GNumber = codes "gcode"

-- the number of why a file is not of the form, among those of its file
abbrev pub bad_number : BadKind → ℕ
bad_number CliLine = 1
bad_number CliCount = 2
bad_number CliOpen = 3
bad_number GWord = 1
bad_number GNumber = 2

-- the name of why a file is not of the form
abbrev pub bad_name : BadKind → List ℕ
bad_name CliLine = codes "BadLine"
bad_name CliCount = codes "CountDiffers"
bad_name CliOpen = codes "OpenLoop"
bad_name GWord = codes "UnknownWord"
bad_name GNumber = codes "BadNumber"
