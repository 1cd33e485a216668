-- When a border is refused.
use Rattle.std.specs.Prelude.{ℕ, ◌≡◌, ◌<◌, ◌≤◌}
use Rattle.slice_events.specs.Limits.{crossing_limit}
use Rattle.slice_border.specs.declared.fault.BoolFault.{BoolFault}
use Rattle.slice_border.specs.declared.fault.BoolFault.TheVariants.{Memory, Edges, Crossings}

-- a refusal by the number of edges, which passes the limit, goes before one by the number of crossings, which passes
-- theirs; want of memory comes after the first
abbrev pub IsRefusal : ℕ → ℕ → ℕ → BoolFault → Type 0
IsRefusal count limit crossings Memory = count ≤ limit
IsRefusal count limit crossings (Edges c) = (c ≡ count) × (limit < count)
IsRefusal count limit crossings (Crossings c) = (count ≤ limit) × (c ≡ crossings) × (crossing_limit < crossings)
