-- The quotient rounded down is the greatest key that isn't above the height.
use Rattle.std.proofs.Common.{◌≡◌, arith, FitsSigned, ℤ, ◌<ℤ◌, ◌+ℤ◌, ◌*ℤ◌, subst}
use Rattle.std.proofs.lemmas.Int.{to_z-of_z}
use Rattle.slice_sweep.specs.Keys.{parts}
use Rattle.slice_sweep.proofs.Keys.{below_greater}
use Rattle.slice_sweep.proofs.key.key_of.Goals as goal
use mir.Syntax.{w128}

pub returns : goal.returns
returns c wake o =
    let divisor = c.requires.divisor in
    let size = c.requires.size in
    let n_fits : FitsSigned w128 c.args.at.now.n = record { sfits = omega (arith, divisor, size) } in
    let d_fits : FitsSigned w128 c.args.at.now.d = record { sfits = omega (arith, divisor) } in
    let t_fits : FitsSigned w128 c.times.result = record { sfits = c.times.type_inv } in
    let most : c.times.result <ℤ (c.floor.result *ℤ c.args.at.now.d +ℤ c.args.at.now.d) =
    simp to_z-of_z at c.floor.ensures.most in
    let product : c.times.result ≡ c.args.at.now.n *ℤ parts = simp to_z-of_z at c.times.ensures.product in
    let q_fits : FitsSigned w128 c.floor.result = record { sfits = c.floor.type_inv } in
    let o' : c.floor.result <ℤ wake = simp to_z-of_z at o in
    below_greater c.args.at.now c.floor.result wake c.requires.positive
    (subst (λ (z : ℤ). z <ℤ (c.floor.result *ℤ c.args.at.now.d +ℤ c.args.at.now.d)) product most) o'
