-- The greatest sizes by which moves are written, and of the amounts that are read.
use Rattle.std.specs.Prelude.{ℕ, ◌^◌}

-- of the width of what a move prints, in micrometres
abbrev pub width_limit : ℕ
width_limit = 2000

-- of its height, in micrometres
abbrev pub height_limit : ℕ
height_limit = 2000

-- of the volume of all moves behind which a layer is written, in cubic micrometres: more than 10^12 cubic metres
abbrev pub volume_limit : ℕ
volume_limit = 10 ^ 30

-- of an amount that is read, in hundred-thousandths of a millimetre
abbrev pub amount_limit : ℕ
amount_limit = 2000000000000000000
