-- When levels are refused.
use Rattle.std.specs.Prelude.{ℕ, ◌≡◌, ◌<◌}
use Rattle.slice_events.specs.Limits.{crossing_limit}
use Rattle.slice_events.specs.declared.events.EventFault.{EventFault}
use Rattle.slice_events.specs.declared.events.EventFault.TheVariants.{Memory, Crossings}

-- a refusal by crossings tells their number, which passes the limit; memory tells nothing
abbrev pub IsCrossings : ℕ → EventFault → Type 0
IsCrossings count Memory = Unit {0}
IsCrossings count (Crossings c) = (c ≡ count) × (crossing_limit < count)

-- a refusal by crossings comes after all pairs were compared, and memory may run out before
abbrev pub IsAfterAll : Type 0 → EventFault → Type 0
IsAfterAll after Memory = Unit {0}
IsAfterAll after (Crossings c) = after
