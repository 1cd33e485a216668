-- A count times a million has room, and no cast changes it.
use Rattle.std.proofs.Common.{◌≡◌, ℕ, ◌*◌, ◌^◌, ◌<◌, ℤ, pos, ◌*ℤ◌, to_z, of_z, ap, ap₂, ◌∙◌, arith}
use Rattle.std.proofs.lemmas.Int.{ints}
use Rattle.std.proofs.lemmas.Result.{err_from_is_err_and}
use Rattle.scad_num.specs.Number.{number_of}
use Rattle.scad_builtin.specs.Fault.{judged}
use Rattle.scad_builtin.proofs.length.whole_number.Goals as goal
use mir.Syntax.{w128}

back : (m : ℕ) → m < 2 ^ 127 → to_z w128 (of_z w128 (pos m)) ≡ pos m
back m low = omega (arith, ints, low)

read : (n : ℕ) → n < 2 ^ 127 → to_z w128 n ≡ pos n
read n low = omega (arith, ints, low)

product : (n : ℕ) (scale : ℤ) → n < 2 ^ 64 → scale ≡ pos 1000000
    → to_z w128 n *ℤ to_z w128 (of_z w128 scale) ≡ pos (n * 1000000)
product n scale low is =
    ap₂ (λ (a b : ℤ). a *ℤ b) (read n (omega (arith, low)))
    (ap (λ (s : ℤ). to_z w128 (of_z w128 s)) is ∙ back 1000000 (omega arith))

whole : (n : ℕ) (scale : ℤ) → n < 2 ^ 64 → scale ≡ pos 1000000
    → to_z w128 (of_z w128 (to_z w128 n *ℤ to_z w128 (of_z w128 scale))) ≡ pos (n * 1000000)
whole n scale low is =
    ap (λ (s : ℤ). to_z w128 (of_z w128 s)) (product n scale low is) ∙ back (n * 1000000) (omega (arith, low))

pub returns-clause-value : goal.returns-clause-value
returns-clause-value c =
    ap judged (c.in_ok-of_wide.ensures ∙ ap number_of (whole c.args.n c.from.result c.ranges.n.fits c.from.ensures))

pub returns-in_err-of_wide-clause-value : goal.returns-in_err-of_wide-clause-value
returns-in_err-of_wide-clause-value c =
    let p = err_from_is_err_and c.from_residual.result c.from_residual.ensures.1 in
    rw (p.1, p.2) (ap judged (c.in_err-of_wide.ensures
    ∙ ap number_of (whole c.args.n c.from.result c.ranges.n.fits c.from.ensures)))
