-- The digits that are left, put behind the value so far, give the whole value.
use Rattle.std.proofs.Common.{◌≡◌, ◌≤◌, drop, min}
use Rattle.std.specs.Str.Parse.{digits_value_after}
use Rattle.scad_num.proofs.decimal.digits_onto.Given as goal

abbrev pub invariant-loop-digit : goal.invariant-loop-digit
invariant-loop-digit l = record {
  capped : l.value ≤ l.cap;
  same : min (digits_value_after 10 l.value (drop l.digit-index l.digits)) l.cap
      ≡ min (digits_value_after 10 l.n l.digits) l.cap;
}
