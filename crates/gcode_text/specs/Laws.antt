-- Laws of printing programs.
use Rattle.std.specs.Prelude.{◌≡◌, ℕ, List, map, Ok}
use Rattle.gcode_text.specs.declared.rates.Rates.{Rates}
use Rattle.gcode_text.specs.Gcode.{Printed, printed_paths, gcode}
use Rattle.gcode_text.specs.Machine.{machine}
use Rattle.gcode_text.specs.Moves.{program_moves, IsWritable}

-- the machine makes exactly the moves of the paths along the program that is written of them
abbrev pub ProgramsMakeTheirMoves : Type 0
ProgramsMakeTheirMoves = (rates : Rates) (hot_end bed : ℕ) (layers : List Printed) →
    IsWritable rates hot_end bed (map printed_paths layers)
    → machine (gcode rates hot_end bed layers) ≡ Ok (program_moves rates (map printed_paths layers))
