-- The two products.
use Rattle.std.proofs.Common.{refl, sym, ◌∙◌, arith, ◌*ℤ◌, to_z, of_z, subst, FitsSigned}
use Rattle.std.proofs.lemmas.Int.{to_z-of_z}
use Rattle.slice_sweep.specs.Keys.{parts}
use Rattle.slice_sweep.proofs.PassedNumbers.{both, product_of, less_by}
use Rattle.slice_sweep.proofs.key.is_below.Goals as goal
use lib.Signed.{lt_z}
use mir.Syntax.{w64, w128}

pub returns : goal.returns
returns c h =
    let at = c.args.at.now in
    let divisor = c.requires.divisor in
    let size = c.requires.size in
    let small = c.ranges.key.sfits in
    let n_fits : FitsSigned w128 at.n = record { sfits = omega (arith, divisor, size) } in
    let d_fits : FitsSigned w128 at.d = record { sfits = omega (arith, divisor) } in
    let wide : FitsSigned w128 c.args.key = record { sfits = omega (arith, small) } in
    let key = to_z-of_z w64 c.args.key c.ranges.key in
    let left = product_of c.times.result at.n parts _ _ (record { sfits = c.times.type_inv }) n_fits
    (record { sfits = omega arith }) c.times.ensures.product refl refl in
    let right = product_of c.times-2.result (to_z w64 (of_z w64 c.args.key)) at.d _ _
    (record { sfits = c.times-2.type_inv }) (subst (FitsSigned w128) (sym key) wide) d_fits
    c.times-2.ensures.product key refl in
    less_by (at.n *ℤ parts) (c.args.key *ℤ at.d) (sym (both lt_z left right) ∙ h)
