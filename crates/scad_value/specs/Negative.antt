-- The negative of a value (OpenSCAD User Manual, "Mathematical operators").
use Rattle.std.specs.Prelude.{neg_ℤ}
use Rattle.scad_value.specs.Datum.{Datum, undef, number, vector, Elements, no_elements, element}

abbrev mutual
  -- of a number, and of each element of a vector
  pub negative : Datum → Datum
  negative (number z) = number (neg_ℤ z)
  negative (vector all) = vector (negatives all)
  negative _ = undef

  pub negatives : Elements → Elements
  negatives no_elements = no_elements
  negatives (element d all) = element (negative d) (negatives all)
