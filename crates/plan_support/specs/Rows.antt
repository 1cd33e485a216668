-- Rows of a layer: runs of whole points at a height.
use Rattle.std.specs.Prelude.{◌≢◌, if◌then◌else◌, ℕ, ◌≤◌, unsigned_abs, List, [], ◌∷◌, ℤ, pos, ◌+ℤ◌, ◌<ℤ◌, ◌≤ℤ◌, All}
use Rattle.std.specs.Ordering.{int_eq}
use Rattle.scad_geom.specs.Limits.{coordinate_limit}
use Rattle.plan_infill.specs.declared.run.Run.{Run}
use Rattle.plan_support.specs.Stretches.{AreStretches}

-- a height, and the runs there
pub record Row : Type 0 where
  pub y : ℤ
  pub runs : List Run

-- the runs at a height; where there is no such row there are none
abbrev pub runs_at : ℤ → List Row → List Run
runs_at y [] = []
runs_at y (r ∷ rs) = if int_eq r.y y then r.runs else runs_at y rs

-- each row lies below those after it
abbrev pub GoUpwards : List Row → Type 0
GoUpwards [] = Unit {0}
GoUpwards (r ∷ rs) = All (λ s. r.y <ℤ s.y) rs × GoUpwards rs

-- runs ascend, each has a place, and at least one whole place stands between two of them
abbrev pub AreApart : List Run → Type 0
AreApart [] = Unit {0}
AreApart (r ∷ rs) = (r.from ≤ℤ r.to) × All (λ s. (r.to +ℤ pos 1) <ℤ s.from) rs × AreApart rs

-- rows upwards at heights within the limit of coordinates, and the runs of each apart
pub record AreRows (rows : List Row) : Type 0 where
  pub upwards : GoUpwards rows
  pub within : All (λ r. unsigned_abs r.y ≤ coordinate_limit) rows
  pub each : All (λ r. AreApart r.runs) rows

-- the rows that have stretches of points (x, y) where something holds, upwards, each with all of them
pub record AreRowsOf (Holds : ℤ → ℤ → Type 0) (least : ℕ) (rows : List Row) : Type 0 where
  pub upwards : GoUpwards rows
  pub some : All (λ r. r.runs ≢ []) rows
  pub each : (y : ℤ) → AreStretches (λ x. Holds x y) least (runs_at y rows)

-- a row at each height, with the list that has its place
abbrev pub row_list : List ℤ → List (List Run) → List Row
row_list [] lists = []
row_list (y ∷ ys) [] = []
row_list (y ∷ ys) (runs ∷ lists) = record { y = y; runs = runs } ∷ row_list ys lists

abbrev pub no_row : Row
no_row = record { y = pos 0; runs = [] }
