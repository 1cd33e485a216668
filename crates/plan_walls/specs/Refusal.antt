-- When walls are refused.
use Rattle.std.specs.Prelude.{ℕ}
use Rattle.slice_border.specs.declared.fault.BoolFault.{BoolFault}
use Rattle.slice_border.specs.declared.fault.BoolFault.TheVariants.{Memory}
use Rattle.slice_border.specs.Fault.{IsRefusal as IsBorderRefusal}

-- the shape of a wall has at most so many edges
abbrev pub wall_edge_limit : ℕ
wall_edge_limit = 220000

-- as a border is; but want of memory may come before the number of edges is known
abbrev pub IsRefusal : ℕ → ℕ → ℕ → BoolFault → Type 0
IsRefusal count limit crossings Memory = Unit {0}
IsRefusal count limit crossings fault = IsBorderRefusal count limit crossings fault
