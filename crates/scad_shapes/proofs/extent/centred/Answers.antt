-- Half a size is as small as the size, so its negative and the rest of the size are what they are as whole numbers.
use Rattle.std.proofs.Common.{◌≡◌, ◌≤◌, ℤ, pos, neg_ℤ, ◌+ℤ◌, ◌-ℤ◌, unsigned_abs, FitsSigned, arith, ap, ap₂, ◌∙◌}
use Rattle.std.proofs.lemmas.Int.{ints, to_z-of_z}
use Rattle.scad_base.proofs.Integers.{zero_minus}
use Rattle.scad_num.specs.Number.{most}
use Rattle.scad_shapes.proofs.extent.centred.Goals as goal
use mir.Syntax.{w64}

minus_turned : (s h : ℤ) → s -ℤ h ≡ neg_ℤ h +ℤ s
minus_turned s h = omega (arith, ints)

back_fits : (h : ℤ) → unsigned_abs h ≤ most → FitsSigned w64 (pos 0 -ℤ h)
back_fits h small = omega (arith, ints)

rest_fits : (s h : ℤ) → unsigned_abs s ≤ most → unsigned_abs h ≤ most → FitsSigned w64 (s -ℤ h)
rest_fits s h all small = omega (arith, ints)

pub returns-clause-begins : goal.returns-clause-begins
returns-clause-begins c =
    let half_fits : FitsSigned w64 c.half-half.result = record { sfits = c.half-half.type_inv } in
    let back = back_fits c.half-half.result c.half-half.ensures.small in
    simp to_z-of_z at c.within.ensures ∙ zero_minus c.half-half.result ∙ ap neg_ℤ c.half-half.ensures.value

pub returns-clause-ends : goal.returns-clause-ends
returns-clause-ends c =
    let half_fits : FitsSigned w64 c.half-half.result = record { sfits = c.half-half.type_inv } in
    let all_fits : FitsSigned w64 c.millionths.result = record { sfits = c.millionths.type_inv } in
    let all : unsigned_abs c.millionths.result ≤ most =
    rw c.millionths.ensures.value c.millionths.ensures.in_range in
    let rest = rest_fits c.millionths.result c.half-half.result all c.half-half.ensures.small in
    simp to_z-of_z at c.within-2.ensures ∙ ap₂ (λ a b. a -ℤ b) c.millionths.ensures.value c.half-half.ensures.value
    ∙ minus_turned c.args.size _
