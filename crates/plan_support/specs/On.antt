-- Whether runs cover a place.
use Rattle.std.specs.Prelude.{Bool, ◌&&◌, int_le, ℕ, ◌+◌, List, ℤ, drop}
use Rattle.std.specs.List.{list_any}
use Rattle.plan_infill.specs.declared.run.Run.{Run}
use Rattle.plan_support.specs.Rows.{Row, runs_at}

-- whether a place lies on a run
abbrev pub has_place : Run → ℤ → Bool
has_place r x = int_le r.from x && int_le x r.to

-- whether it lies on one of them
abbrev pub is_on : List Run → ℤ → Bool
is_on rs x = list_any (λ r. has_place r x) rs

-- whether the point (x, y) lies on a run of some layer
abbrev pub is_on_some : List (List Row) → ℤ → ℤ → Bool
is_on_some layers x y = list_any (λ rows. is_on (runs_at y rows) x) layers

-- whether it lies on a run of some layer above the layer n, the first one being 0
abbrev pub is_covered : List (List Row) → ℕ → ℤ → ℤ → Bool
is_covered layers n x y = is_on_some (drop (n + 1) layers) x y
