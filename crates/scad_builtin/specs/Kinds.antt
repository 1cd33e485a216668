-- Kinds of values, besides those of scad_value (OpenSCAD User Manual, "Type Test Functions").
use Rattle.std.specs.Prelude.{Bool, true, false}
use Rattle.scad_value.specs.Datum.{Datum, undef, boolean, string}

abbrev pub is_undef : Datum → Bool
is_undef undef = true
is_undef _ = false

abbrev pub is_boolean : Datum → Bool
is_boolean (boolean b) = true
is_boolean _ = false

abbrev pub is_string : Datum → Bool
is_string (string chars) = true
is_string _ = false
