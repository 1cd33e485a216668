-- What lies below the runs of higher layers.
use Rattle.std.specs.Prelude.{◌≡◌, true, ℕ, ◌<◌, min, List, [], length, slice_index_or, sum_by, ℤ}
use Rattle.plan_support.specs.Rows.{Row, AreRowsOf}
use Rattle.plan_support.specs.On.{is_covered}
use Rattle.plan_support.specs.Lines.{greatest_count}

-- the point (x, y) of the layer n lies below a run of a higher layer
abbrev pub IsCovered : List (List Row) → ℕ → ℤ → ℤ → Type 0
IsCovered layers n x y = is_covered layers n x y ≡ true

-- for each layer the maximal stretches of points of a row that lie below runs of higher layers
pub record AreCovers (layers covers : List (List Row)) : Type 0 where
  pub as_many : length covers ≡ length layers
  pub each : (n : ℕ) → n < length layers → AreRowsOf (IsCovered layers n) 0 (slice_index_or covers n [])

-- how many runs rows have, over all layers
abbrev pub run_count : List (List Row) → ℕ
run_count layers = sum_by (λ rows. sum_by (λ r. length r.runs) rows) layers

-- so many stretches are too many
abbrev pub stretch_limit : ℕ
stretch_limit = 10000000

-- more stretches than the limit; a number that passes 64 bits stands at the greatest
pub record AreTooMany (layers : List (List Row)) (counted : ℕ) : Type 0 where
  pub covers : List (List Row)
  pub are_covers : AreCovers layers covers
  pub over : stretch_limit < run_count covers
  pub counts : counted ≡ min (run_count covers) greatest_count
