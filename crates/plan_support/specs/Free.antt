-- What is left of runs.
use Rattle.std.specs.Prelude.{◌≡◌, if◌then◌else◌, not, ◌&&◌, ◌||◌, int_le, ℕ, ◌<◌, ◌≤◌, List, [], ◌∷◌, length, slice_index_or, take, ℤ, pos, ◌-ℤ◌, ◌<ℤ◌, ◌≤ℤ◌, All}
use Rattle.plan_infill.specs.declared.run.Run.{Run}
use Rattle.plan_support.specs.Rows.{AreApart}
use Rattle.plan_support.specs.Near.{HasPlaces}
use Rattle.plan_support.specs.On.{has_place, is_on}

-- the run between two places, where there are some
abbrev pub some_run : ℤ → ℤ → List Run
some_run from to = if int_le from to then record { from = from; to = to } ∷ [] else []

-- the runs that are at least so long
abbrev pub at_least : ℕ → List Run → List Run
at_least least [] = []
at_least least (r ∷ rs) = if int_le (pos least) (r.to -ℤ r.from) then r ∷ at_least least rs else at_least least rs

-- the last place of a run before the hole i, where that one begins on it; else its own last place
pub record IsEnd (run : Run) (holes : List Run) (i : ℕ) (end : ℤ) : Type 0 where
  pub most : end ≤ℤ run.to
  pub before : (d : Run) → i < length holes → end <ℤ (slice_index_or holes i d).from
  pub reaches : (d : Run) → end <ℤ run.to → (i < length holes) × (end ≡ (slice_index_or holes i d).from -ℤ pos 1)

-- to runs that stand apart what holes leave of one more is added; so many holes end before its last place
pub record AddsFree (old : List Run) (run : Run) (holes : List Run) (new : List Run) (passed : ℕ) : Type 0 where
  pub apart : AreApart new
  pub behind : All (λ r. r.to ≤ℤ run.to) new
  pub count : passed ≤ length holes
  pub places : HasPlaces run
  pub ends : All (λ h. h.to <ℤ run.to) (take passed holes)
  pub on : (x : ℤ) → is_on new x ≡ (is_on old x || (has_place run x && not (is_on holes x)))

-- what holes leave of runs, which have places
pub record AreLeft (runs holes left : List Run) : Type 0 where
  pub apart : AreApart left
  pub places : All HasPlaces runs
  pub on : (x : ℤ) → is_on left x ≡ (is_on runs x && not (is_on holes x))
