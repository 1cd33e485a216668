-- What was passed is digits.
use Rattle.std.proofs.Common.{◌≡◌, ◌+◌, drop}
use Rattle.scad_num.specs.Literal.{digits_len}
use Rattle.scad_num.proofs.mantissa.digits_len.Given as goal

abbrev pub invariant-loop-i : goal.invariant-loop-i
invariant-loop-i l = digits_len l.bytes ≡ l.i + digits_len (drop l.i l.bytes)
