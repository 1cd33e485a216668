-- How many workers a board may have.
use Rattle.std.specs.Prelude.{ℕ}

-- at most so many workers draw from a board
abbrev pub worker_limit : ℕ
worker_limit = 64
