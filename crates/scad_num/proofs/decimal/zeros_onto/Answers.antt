-- A value with zeros behind it, up to a cap, is found zero by zero.
use Rattle.std.proofs.Common.{◌*◌, ◌-◌, ◌^◌, min, arith, ap, ◌∙◌}
use Rattle.scad_num.proofs.Caps.{min-tens, min-tens_past}
use Rattle.scad_num.proofs.decimal.zeros_onto.Goals as goal

pub loop-left-preserved : goal.loop-left-preserved
loop-left-preserved c = record {
  capped = omega arith;
  same = ap (λ x. min (x * 10 ^ (c.loop-left.left - 1)) c.args.cap) c.min-value.ensures ∙ min-tens c.args.cap
      c.loop-left.value c.loop-left.left (omega arith) ∙ c.loop-left.invariant.same;
}

pub returns-else-value-cap : goal.returns-else-value-cap
returns-else-value-cap c =
    let past = min-tens_past c.args.cap c.loop-left.value c.loop-left.left c.if-value-cap.false in
    omega arith
