-- Refusals of shapes.
use Rattle.std.specs.Prelude.{Bool, true, false}
use Rattle.scad_shapes.specs.declared.fault.ShapeFault.{ShapeFault}
use Rattle.scad_shapes.specs.declared.fault.ShapeFault.TheVariants.{Memory}

-- the fault that stands for want of memory
abbrev pub is_memory : ShapeFault → Bool
is_memory Memory = true
is_memory _ = false
