-- Where an edge lies to the right of a column.
use Rattle.std.specs.Prelude.{◌≡◌, Bool, ◌&&◌, ℕ, ◌≤◌, ℤ, ◌+ℤ◌, ◌*ℤ◌, pos, int_lt, int_le, ◌<ℤ◌, ◌≤ℤ◌, unsigned_abs}
use Rattle.scad_geom.specs.declared.point.Edge.{Edge}
use Rattle.scad_geom.specs.Line.{low, high}
use Rattle.plan_infill.specs.declared.stretch.Stretch.{Stretch}

-- the heights from the lower end of an edge on and before its upper end
abbrev pub heights_of : Edge → Stretch
heights_of e = record { from = (low e).y; until = (high e).y }

-- neither end of a stretch is greater in size than the limit
pub record IsStretchWithin (limit : ℕ) (s : Stretch) : Type 0 where
  pub from : unsigned_abs s.from ≤ limit
  pub until : unsigned_abs s.until ≤ limit

-- a stretch lies in another
pub record IsPart (of part : Stretch) : Type 0 where
  pub from : of.from ≤ℤ part.from
  pub order : part.from ≤ℤ part.until
  pub until : part.until ≤ℤ of.until

-- whether a place is one of a stretch
abbrev pub has_place : Stretch → ℤ → Bool
has_place s z = int_le s.from z && int_lt z s.until

-- the places z of a stretch where slope * z + start is above 0
pub record IsPositivePart (of : Stretch) (slope start : ℤ) (part : Stretch) : Type 0 where
  pub part_of : IsPart of part
  pub each : (z : ℤ) → of.from ≤ℤ z → z <ℤ of.until
      → has_place part z ≡ int_lt (pos 0) (slope *ℤ z +ℤ start)

-- those from a place on
pub record IsLastPart (of : Stretch) (from : ℤ) (part : Stretch) : Type 0 where
  pub part_of : IsPart of part
  pub each : (z : ℤ) → of.from ≤ℤ z → z <ℤ of.until → has_place part z ≡ int_le from z

-- those before a place
pub record IsFirstPart (of : Stretch) (until : ℤ) (part : Stretch) : Type 0 where
  pub part_of : IsPart of part
  pub each : (z : ℤ) → of.from ≤ℤ z → z <ℤ of.until → has_place part z ≡ int_lt z until

-- r is a number between two others, or the nearer one of the two: the numbers from the first on and before the second
-- come after both or before both
pub record IsClamped (z low high r : ℤ) : Type 0 where
  pub from : low ≤ℤ r
  pub to : r ≤ℤ high
  pub same : (y : ℤ) → low ≤ℤ y → y <ℤ high → int_le r y ≡ int_le z y
