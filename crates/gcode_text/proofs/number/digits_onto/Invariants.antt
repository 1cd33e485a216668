use Rattle.std.proofs.Common.{◌≡◌, ◌≤◌, drop, min}
use Rattle.std.specs.Str.Parse.{digits_value_after}
use Rattle.gcode_text.specs.Cap.{cap}
use Rattle.gcode_text.proofs.number.digits_onto.Given as goal

abbrev pub invariant-loop-digit : goal.invariant-loop-digit
invariant-loop-digit l = record {
  capped : l.value ≤ cap;
  same : min (digits_value_after 10 l.value (drop l.digit-index l.digits)) cap
      ≡ min (digits_value_after 10 l.fn.n l.digits) cap;
}
