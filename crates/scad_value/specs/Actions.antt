-- The operations on numbers that are taken through vectors.
use Rattle.std.specs.Prelude.{ℤ, Result}
use Rattle.scad_num.specs.declared.fault.NumFault.{NumFault}
use Rattle.scad_num.specs.Number.{sum_of, difference_of, product_of, quotient_of}
use Rattle.scad_value.specs.declared.elementwise.Action.{Action}
use Rattle.scad_value.specs.declared.elementwise.Action.TheVariants.{TimesLeft, TimesRight, Over, Under}
use Rattle.scad_value.specs.declared.pairs.Pairing.{Pairing}
use Rattle.scad_value.specs.declared.pairs.Pairing.TheVariants.{Sum, Difference}

abbrev pub action : Action → ℤ → Result ℤ NumFault
action (TimesLeft n) z = product_of n z
action (TimesRight n) z = product_of z n
action (Over n) z = quotient_of z n
action (Under n) z = quotient_of n z

abbrev pub pairing : Pairing → ℤ → ℤ → Result ℤ NumFault
pairing Sum a b = sum_of a b
pairing Difference a b = difference_of a b
