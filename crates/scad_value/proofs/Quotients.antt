-- A number over each element.
use Rattle.std.proofs.Common.{◌≡◌, ℤ, refl}
use Rattle.scad_value.specs.declared.elementwise.Action.TheVariants.{Under}
use Rattle.scad_value.specs.Actions.{action}
use Rattle.scad_value.specs.Datum.{Datum, undef, boolean, number, string, vector, range}
use Rattle.scad_value.specs.Elementwise.{each}
use Rattle.scad_value.specs.Operators.{quotient}

pub each-under : (x : ℤ) (d : Datum) → each (action (Under x)) d ≡ quotient (number x) d
each-under x undef = refl
each-under x (boolean b) = refl
each-under x (number z) = refl
each-under x (string chars) = refl
each-under x (vector all) = refl
each-under x (range s t e) = refl
