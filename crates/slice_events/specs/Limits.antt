-- The limit of a list of edges that is cut into pieces.
use Rattle.std.specs.Prelude.{ℕ}

-- the greatest number of crossings that is taken
abbrev pub crossing_limit : ℕ
crossing_limit = 2000000
