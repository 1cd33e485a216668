-- The value of digits, up to a cap, is found digit by digit.
use Rattle.std.proofs.Common.{◌≡◌, ◌+◌, ◌*◌, drop, get_or, min, arith, ap, sym, ◌∙◌}
use Rattle.std.specs.Char.{digit_value}
use Rattle.std.specs.Int.{IsInRange}
use Rattle.std.specs.Str.Parse.{digits_value_after}
use Rattle.std.proofs.lemmas.Str.Parse.{digit_at}
use Rattle.scad_num.proofs.Digits.{digit_value-decimal, min-digits_value_after, digits_value_after-drop}
use Rattle.scad_num.proofs.decimal.digits_onto.Goals as goal

pub overflow_sub-digit : goal.overflow_sub-digit
overflow_sub-digit c =
    let digit : IsInRange 48 57 (get_or c.args.digits.now c.loop-digit.digit-index 0) = digit_at c.args.digits.now
    c.loop-digit.digit-index c.requires.digits (omega arith) in
    omega arith

pub loop-digit-preserved : goal.loop-digit-preserved
loop-digit-preserved c = record {
  capped = omega arith;
  same =
      let more = digits_value_after-drop c.loop-digit.value c.args.digits.now c.loop-digit.digit-index (omega arith) in
      let cut = min-digits_value_after c.args.cap (c.loop-digit.value * 10 + digit_value
      (get_or c.args.digits.now c.loop-digit.digit-index 0)) (drop (c.loop-digit.digit-index + 1)
      c.args.digits.now) in
      let digit : IsInRange 48 57 (get_or c.args.digits.now c.loop-digit.digit-index 0) = digit_at c.args.digits.now
      c.loop-digit.digit-index c.requires.digits (omega arith) in
      let worth = digit_value-decimal (get_or c.args.digits.now c.loop-digit.digit-index 0) (omega arith) (omega arith)
      in
      let step : c.min-value.result ≡ min (c.loop-digit.value * 10 + digit_value
      (get_or c.args.digits.now c.loop-digit.digit-index 0)) c.args.cap = c.min-value.ensures ∙ ap
      (λ x. min (c.loop-digit.value * 10 + x) c.args.cap) (omega arith) in
      ap (λ m. min (digits_value_after 10 m (drop (c.loop-digit.digit-index + 1) c.args.digits.now)) c.args.cap) step ∙
      cut ∙ ap (λ x. min x c.args.cap) (sym more) ∙ c.loop-digit.invariant.same;
}
