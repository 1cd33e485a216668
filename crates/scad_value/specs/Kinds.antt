-- The kinds of values.
use Rattle.std.specs.Prelude.{Bool, true, false}
use Rattle.scad_value.specs.Datum.{Datum, number, vector}

abbrev pub is_number : Datum → Bool
is_number (number z) = true
is_number _ = false

abbrev pub is_vector : Datum → Bool
is_vector (vector all) = true
is_vector _ = false
