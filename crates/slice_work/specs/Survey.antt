-- The rows of support lines of all layers of a part.
use Rattle.std.specs.Prelude.{◌≡◌, ℕ, ◌<◌, List, [], ◌∷◌, ◌++◌, length, slice_index_or, Result, Ok, Err}
use Rattle.scad_fault.specs.declared.budget.Budget.{Budget}
use Rattle.scad_geom.specs.declared.point.Pt.{Pt}
use Rattle.plan_support.specs.Rows.{Row, AreRows}
use Rattle.plan_support.specs.Spans.{AreSpans}
use Rattle.slice_work.specs.Part.{Layout, Part}

-- a layer is laid out, and these are the rows of its outlines
pub record IsSurveyed (layer : Result Layout Budget) (spacing : ℕ) (rows : List Row) : Type 0 where
  pub layout : Layout
  pub laid : layer ≡ Ok layout
  pub spans : AreSpans layout.outlines spacing rows

-- each of so many layers of a part is laid out, and these are its rows, layer by layer
pub record AreSurveyed (part : Part) (spacing count : ℕ) (all : List (List Row)) : Type 0 where
  pub as_many : length all ≡ count
  pub each : (n : ℕ) → n < count → IsSurveyed (part n) spacing (slice_index_or all n [])

-- to the rows of layers those of one more are added, over these outlines
pub record AddsRows (outlines : List (List Pt)) (spacing : ℕ) (old new : List (List Row)) : Type 0 where
  pub rows : List Row
  pub added : new ≡ old ++ rows ∷ []
  pub spans : AreSpans outlines spacing rows
  pub are_rows : AreRows rows

-- a layer is laid out, so it passes no budget
pub record PassesNone (layer : Result Layout Budget) : Type 0 where
  pub layout : Layout
  pub laid : layer ≡ Ok layout

-- this budget is that of the least of so many layers which passes one
pub record IsLeastOver (part : Part) (count : ℕ) (budget : Budget) : Type 0 where
  pub layer : ℕ
  pub within : layer < count
  pub over : part layer ≡ Err budget
  pub below : (n : ℕ) → n < layer → PassesNone (part n)
