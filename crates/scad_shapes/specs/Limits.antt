-- How many triangles a program's leaves have together at most, and so how many fragments and points one of them has.
use Rattle.std.specs.Prelude.{ℕ}

abbrev pub triangle_limit : ℕ
triangle_limit = 200000
