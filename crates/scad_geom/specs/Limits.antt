-- The greatest sizes of coordinates, and of what heights are divided by.
use Rattle.std.specs.Prelude.{ℕ, ◌^◌}

-- of points of a solid: 1,000,000 micrometres, one metre
abbrev pub point_limit : ℕ
point_limit = 1000000

-- of the ends of a layer's edges: 1,100,000 micrometres
abbrev pub coordinate_limit : ℕ
coordinate_limit = 1100000

-- of the divisor of a height: two edges' runs and rises, each at most 2,200,000, come to less
abbrev pub divisor_limit : ℕ
divisor_limit = 10 ^ 13
