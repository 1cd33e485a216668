-- A decimal's value is that of its digits, moved by its exponent and rounded.
use Rattle.std.proofs.Common.{subst, w64, ◌≡◌, ◌+◌, ◌^◌, ◌≤◌, length, drop, min, pos, arith, ap, ◌∙◌}
use Rattle.std.specs.Str.Parse.{AllDigits}
use Rattle.std.proofs.lemmas.Int.{to_z_pos}
use Rattle.scad_num.specs.Literal.{whole_digits, decimal_digits, mantissa_len, literal_millionths, tens_up, tens_down}
use Rattle.scad_num.specs.Number.{number_of}
use Rattle.scad_num.proofs.Exponent.{moves_one_way}
use Rattle.scad_num.proofs.Number.{number_of-min}
use Rattle.scad_num.proofs.Scale.{half_up-far, AllDigits-append}
use Rattle.scad_num.proofs.literal.parse_decimal.Goals as goal

pub returns : goal.returns
unfolding literal_millionths
returns c =
    let text = c.args.text.now in
    let whole = whole_digits text in
    let decimals = decimal_digits text in
    let exponent = drop (mantissa_len text) text in
    let digits = AllDigits-append whole decimals (subst (AllDigits 10) c.mantissa_at-mantissa.ensures.whole
    c.mantissa_at-mantissa.ensures.whole_digits) (subst (AllDigits 10) c.mantissa_at-mantissa.ensures.decimals
    c.mantissa_at-mantissa.ensures.decimal_digits) in
    let short : length whole + length decimals + 17 ≤ 2 ^ 100 =
    omega (
      arith,
      ap length c.mantissa_at-mantissa.ensures.whole,
      ap length
          c.mantissa_at-mantissa.ensures.decimals,
      c.rounded_millionths-millionths.ensures.short,
    ) in
    let far = half_up-far whole decimals (tens_up exponent) (tens_down exponent) (2 ^ 100) digits short
    (moves_one_way exponent) in
    let behind : c.behind.result.now ≡ exponent = c.behind.ensures ∙ ap (λ n. drop n text)
    c.mantissa_at-mantissa.ensures.len in
    let up : c.power_at-power.result.up ≡ min (tens_up exponent) (2 ^ 100) = c.power_at-power.ensures.up ∙ ap
    (λ l. min (tens_up l) (2 ^ 100)) behind in
    let down : c.power_at-power.result.down ≡ min (tens_down exponent) (2 ^ 100) = c.power_at-power.ensures.down ∙ ap
    (λ l. min (tens_down l) (2 ^ 100)) behind in
    let rounded : c.rounded_millionths-millionths.result ≡ min (literal_millionths text) 1000000000000001 = cc in
    c.of.ensures ∙ ap number_of (to_z_pos w64 c.rounded_millionths-millionths.result (omega arith)) ∙ ap
    (λ n. number_of (pos n)) rounded ∙ number_of-min (literal_millionths text)
