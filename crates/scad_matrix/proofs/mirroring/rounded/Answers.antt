use Rattle.std.proofs.Common.{pos, neg_ℤ, ◌-ℤ◌, FitsSigned, arith, ap, sym, ◌∙◌}
use Rattle.std.proofs.lemmas.Int.{ints, to_z-of_z}
use Rattle.scad_num.specs.Rounding.{half_up}
use Rattle.scad_base.proofs.Integers.{zero_minus}
use Rattle.scad_matrix.proofs.Reflection.{half_away-below, half_away-above}
use Rattle.scad_matrix.proofs.mirroring.rounded.Goals as goal
use mir.Syntax.{w64}

pub returns-then-n-lt0 : goal.returns-then-n-lt0
returns-then-n-lt0 c =
    let n_fits = c.ranges.n in
    let small = c.rounded_size-size.ensures.small in
    let size_fits : FitsSigned w64 c.rounded_size-size.result = record { sfits = c.rounded_size-size.type_inv } in
    let back_fits : FitsSigned w64 (pos 0 -ℤ c.rounded_size-size.result) = omega (arith, ints) in
    let given = simp to_z-of_z at c.within.ensures in
    let size = c.rounded_size-size.ensures.value in
    let abs = simp to_z-of_z at c.unsigned_abs.ensures.value in
    let below = simp to_z-of_z at c.if-n-lt0.true in
    given ∙ zero_minus c.rounded_size-size.result ∙ ap neg_ℤ (size ∙ ap (λ m. pos (half_up m c.args.d)) abs) ∙ sym
    (half_away-below c.args.n c.args.d below)

pub returns-else-n-lt0 : goal.returns-else-n-lt0
returns-else-n-lt0 c =
    let n_fits = c.ranges.n in
    let size_fits : FitsSigned w64 c.rounded_size-size.result = record { sfits = c.rounded_size-size.type_inv } in
    let given = simp to_z-of_z at c.within-else-n-lt0.ensures in
    let size = c.rounded_size-size.ensures.value in
    let abs = simp to_z-of_z at c.unsigned_abs.ensures.value in
    let above = simp to_z-of_z at c.if-n-lt0.false in
    given ∙ size ∙ ap (λ m. pos (half_up m c.args.d)) abs ∙ sym (half_away-above c.args.n c.args.d above)
