-- The rows of one height in all layers, and what lies below higher layers on them.
use Rattle.std.specs.Prelude.{◌≡◌, ℕ, ◌+◌, ◌-◌, ◌<◌, ◌≤◌, min, nat_lt, if◌then◌else◌, List, [], ◌∷◌, ◌++◌, map, flat_map, length, slice_index_or, sum_by, unsigned_abs, ℤ, ◌<ℤ◌, All, Contains}
use Rattle.scad_geom.specs.Limits.{coordinate_limit}
use Rattle.plan_infill.specs.declared.run.Run.{Run}
use Rattle.plan_support.specs.declared.line.Line.{Line}
use Rattle.plan_support.specs.declared.line.Want.{Want}
use Rattle.plan_support.specs.declared.line.Want.TheVariants.{Count, Stretches}
use Rattle.plan_support.specs.Rows.{Row, AreApart}
use Rattle.plan_support.specs.On.{is_on, is_covered}

-- each number is less than those after it
abbrev pub Ascend : List ℤ → Type 0
Ascend [] = Unit {0}
Ascend (y ∷ ys) = All (λ z. y <ℤ z) ys × Ascend ys

-- the heights of rows
abbrev pub row_heights : List Row → List ℤ
row_heights rows = map (λ r. r.y) rows

-- the heights of all rows of all layers, upwards
pub record AreHeights (layers : List (List Row)) (heights : List ℤ) : Type 0 where
  pub ascend : Ascend heights
  pub within : All (λ y. unsigned_abs y ≤ coordinate_limit) heights
  pub all : (y : ℤ) → Contains (flat_map row_heights layers) y → Contains heights y

-- runs that stand apart, and cover what lies below runs of layers above the layer n
pub record AreStretchesBelow (layers : List (List Row)) (n : ℕ) (y : ℤ) (runs : List Run) : Type 0 where
  pub apart : AreApart runs
  pub on : (x : ℤ) → is_on runs x ≡ is_covered layers n x y

-- those of each layer from the layer n on
pub record AreStretchesFrom (layers : List (List Row)) (n : ℕ) (y : ℤ) (all : List (List Run)) : Type 0 where
  pub as_many : n + length all ≡ length layers
  pub each : (k : ℕ) → k < length all → AreStretchesBelow layers (n + k) y (slice_index_or all k [])

-- runs as one list, where there are some
abbrev pub some_of : List Run → List (List Run)
some_of [] = []
some_of (r ∷ rs) = (r ∷ rs) ∷ []

abbrev pub wanted_of : Want → List Run → List (List Run)
wanted_of Count runs = []
wanted_of Stretches runs = some_of runs

-- what is kept of the stretches of all layers, from the highest layer down
abbrev pub kept_of : Want → List (List Run) → List (List Run)
kept_of want [] = []
kept_of want (runs ∷ all) = kept_of want all ++ wanted_of want runs

-- the greatest number of 64 bits
abbrev pub greatest_count : ℕ
greatest_count = 18446744073709551615

-- the work on the line at a height, with the stretches of each layer
pub record IsLine (layers : List (List Row)) (y : ℤ) (want : Want) (all : List (List Run)) (line : Line) : Type 0 where
  pub are : AreStretchesFrom layers 0 y all
  pub count : line.count ≡ min (sum_by length all) greatest_count
  pub kept : line.covers ≡ kept_of want all

pub record HasLine (layers : List (List Row)) (y : ℤ) (want : Want) (line : Line) : Type 0 where
  pub all : List (List Run)
  pub is : IsLine layers y want all line

-- the work on lines at heights, with the stretches of each
abbrev pub AreLines : List (List Row) → Want → List ℤ → List (List (List Run)) → List Line → Type 0
AreLines layers want [] [] [] = Unit {0}
AreLines layers want (y ∷ ys) (all ∷ alls) (line ∷ lines) =
    IsLine layers y want all line × AreLines layers want ys alls lines
AreLines layers want ys alls lines = ⊥

pub record HasLines (layers : List (List Row)) (heights : List ℤ) (want : Want) (lines : List Line) : Type 0 where
  pub alls : List (List (List Run))
  pub are : AreLines layers want heights alls lines

-- the rows of the layer n: of each line its last list but n, where it has so many
abbrev pub kept_row : ℕ → ℤ → List (List Run) → List Row
kept_row n y lists = if nat_lt n (length lists)
    then record { y = y; runs = slice_index_or lists (length lists - (n + 1)) [] } ∷ [] else []

abbrev pub kept_rows : ℕ → List ℤ → List Line → List Row
kept_rows n [] lines = []
kept_rows n (y ∷ ys) [] = []
kept_rows n (y ∷ ys) (line ∷ lines) = kept_row n y line.covers ++ kept_rows n ys lines

-- as many stretches as the lines at heights have in all layers; a number that passes 64 bits stands at the greatest
pub record IsCount (layers : List (List Row)) (heights : List ℤ) (counted : ℕ) : Type 0 where
  pub lines : List Line
  pub alls : List (List (List Run))
  pub are : AreLines layers Count heights alls lines
  pub counts : counted ≡ min (sum_by (λ all. sum_by length all) alls) greatest_count

-- for each of so many layers its rows
pub record AreRowsOfLines (heights : List ℤ) (lines : List Line) (layers : ℕ) (all : List (List Row)) : Type 0 where
  pub as_many : length all ≡ layers
  pub each : (n : ℕ) → n < layers → slice_index_or all n [] ≡ kept_rows n heights lines
