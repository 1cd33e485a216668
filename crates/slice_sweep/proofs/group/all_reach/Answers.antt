-- One edge more reaches the height.
use Rattle.std.proofs.Common.{◌≡◌, true, ℕ, arith, sym, subst, ◌∙◌, ◌*ℤ◌}
use Rattle.std.specs.Prelude.{int_le}
use Rattle.std.specs.List.{All}
use Rattle.std.proofs.lemmas.List.{take_all}
use Rattle.std.proofs.lemmas.List.Elements.{All-more}
use Rattle.scad_geom.specs.Line.{high}
use Rattle.slice_bundles.specs.Bundles.{edge_at}
use Rattle.slice_sweep.proofs.group.all_reach.Goals as goal

pub numbers-init : goal.numbers-init
numbers-init c k d o = absurd (omega (arith, o))

pub numbers-preserved : goal.numbers-preserved
numbers-preserved c =
    let u = c.args.upper.now in
    All-more (λ (k : ℕ). int_le u.n ((high (edge_at c.args.edges.now k)).y *ℤ u.d) ≡ true) c.args.numbers.now
    c.numbers.k-index 0 c.numbers-test.true c.numbers.invariant (sym c.ends_from.ensures ∙ c.if-not-ends_from.false)

pub returns : goal.returns
returns c h =
    let u = c.args.upper.now in
    subst (All (λ (k : ℕ). int_le u.n ((high (edge_at c.args.edges.now k)).y *ℤ u.d) ≡ true))
    (take_all c.numbers.k-index c.args.numbers.now c.numbers-test.false) c.numbers.invariant
