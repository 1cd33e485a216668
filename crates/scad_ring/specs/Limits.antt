-- The greatest size of a distance.
use Rattle.std.specs.Prelude.{ℕ}

-- of a distance by whose octagon an edge is widened: 100,000 micrometres
abbrev pub distance_limit : ℕ
distance_limit = 100000
