-- Each edge lowers the height to its end, if that is lower.
use Rattle.std.proofs.Common.{FitsSigned, ℤ, ℕ, List, subst, arith}
use lib.Signed.{◌≤ℤ◌}
use Rattle.std.specs.List.{All}
use Rattle.std.proofs.lemmas.Int.{ints, to_z-of_z}
use Rattle.std.proofs.lemmas.List.{take_all}
use Rattle.std.proofs.lemmas.List.Elements.{All-more}
use Rattle.scad_geom.specs.Line.{high}
use Rattle.slice_bundles.specs.Bundles.{edge_at}
use Rattle.slice_sweep.proofs.wake.least_end.Goals as goal
use mir.Syntax.{w32}
use mir.Val.{to_z}

lower_too : (a b c : ℤ) → a ≤ℤ b → b ≤ℤ c → a ≤ℤ c
lower_too a b c h k = omega (arith, ints)

pub numbers-preserved : goal.numbers-preserved
numbers-preserved c =
    let r : ℤ = c.min-least.result in
    let r_fits : FitsSigned w32 c.min-least.result = record { sfits = c.min-least.type_inv } in
    let e_fits : FitsSigned w32 c.end_of.result = record { sfits = c.end_of.type_inv } in
    let b : c.min-least.result ≤ℤ c.end_of.result = simp to_z-of_z at c.min-least.ensures.other_bound in
    simp to_z-of_z (All-more (λ k. c.min-least.result ≤ℤ (high (edge_at c.args.edges.now k)).y) c.args.numbers.now
    c.numbers.k-index 0 c.numbers-test.true
    (λ k d o. lower_too c.min-least.result (to_z w32 c.numbers.least-bits) _ c.min-least.ensures.self_bound
    (c.numbers.invariant k d o))
    (subst (λ (z : ℤ). c.min-least.result ≤ℤ z) c.end_of.ensures b))

pub returns : goal.returns
returns c =
    subst (λ (ks : List ℕ). All (λ k. to_z w32 c.numbers.least-bits ≤ℤ (high (edge_at c.args.edges.now k)).y) ks)
    (take_all c.numbers.k-index c.args.numbers.now c.numbers-test.false) c.numbers.invariant
