-- The frames before a program.
use Rattle.std.specs.Prelude.{None}
use Rattle.scad_scope.specs.Names.{Names}
use Rattle.scad_scope.specs.FrameStore.{Stored}

-- a frame of these names that stands in no other one
abbrev pub outermost : Names → Stored
outermost names = record { names = names; parent = None; scope = None; kept = None }
