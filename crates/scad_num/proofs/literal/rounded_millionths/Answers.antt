-- The digits that count and the next one decide the rounding.
use Rattle.std.proofs.Common.{◌≡◌, ◌+◌, ◌-◌, ◌/◌, ◌++◌, length, min, sym, ap, ◌∙◌}
use Rattle.scad_num.proofs.Scale.{half_up-scaled, leading, leading-by_parts, min-rounded, AllDigits-append}
use Rattle.scad_num.proofs.literal.rounded_millionths.Goals as goal

pub returns-clause-value : goal.returns-clause-value
returns-clause-value c =
    let whole = c.args.whole.now in
    let decimals = c.args.decimals.now in
    let wanted = c.saturating_sub-wanted.result in
    let tenths : c.zeros_onto-tenths.result ≡ min (leading (whole ++ decimals) wanted) 10000000000000010 = let parts = leading-by_parts whole decimals wanted 10000000000000010 in cc in
    let scaled = half_up-scaled whole decimals c.args.up c.args.down (AllDigits-append whole decimals
    c.requires.whole_digits c.requires.decimal_digits) in
    let same : leading (whole ++ decimals) wanted ≡ leading (whole ++ decimals) ((length whole + 7 + c.args.up) -
    c.args.down) = ap (leading (whole ++ decimals)) c.saturating_sub-wanted.ensures in
    ap (λ n. (n + 5) / 10) tenths ∙ min-rounded (leading (whole ++ decimals) wanted) ∙ ap (λ n. min n 1000000000000001)
    (ap (λ n. (n + 5) / 10) same ∙ sym scaled)
