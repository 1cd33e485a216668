-- When the outlines of a layer are refused.
use Rattle.std.specs.Prelude.{ℕ}
use Rattle.slice_border.specs.declared.fault.BoolFault.{BoolFault}
use Rattle.slice_border.specs.declared.fault.BoolFault.TheVariants.{Memory}
use Rattle.slice_border.specs.Fault.{IsRefusal as IsBorderRefusal}

-- as a border is, of which the section's edges are the edges; but want of memory may come before their number is known
abbrev pub IsRefusal : ℕ → ℕ → ℕ → BoolFault → Type 0
IsRefusal count limit crossings Memory = Unit {0}
IsRefusal count limit crossings fault = IsBorderRefusal count limit crossings fault
