-- Levels by their numbers.
use Rattle.std.specs.Prelude.{List, ℕ, pos, slice_index_or}
use Rattle.scad_geom.specs.declared.level.Level.{Level}

-- the level of a number
abbrev pub level_at : List Level → ℕ → Level
level_at levels i = slice_index_or levels i (record { n = pos 0; d = pos 0 })
