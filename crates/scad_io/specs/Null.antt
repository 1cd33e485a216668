-- A desk that keeps nothing: all that there is to know of it is which of its files were created.
use Rattle.std.specs.Prelude.{Bool, false, [], Some, None}
use Rattle.scad_io.specs.Desk.{Files, View, fresh, untold}

-- whether the file of the outlines was created, and that of the printing program
pub record Null : Type 0 where
  pub cli : Bool
  pub gcode : Bool

-- nothing was created yet
abbrev pub blank : Null
blank = record { cli = false; gcode = false }

-- each name is one of an empty file
abbrev pub empty_files : Files
empty_files = Some (λ name. Some [])

-- the input is empty, of the outputs no name and no byte is told, and nothing has failed
abbrev pub null_view : Null → View
null_view d = record {
  input = fresh (Some []);
  report = fresh None;
  cli = untold d.cli false;
  gcode = untold d.gcode false;
}
