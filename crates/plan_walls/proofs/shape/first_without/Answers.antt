-- The leaves that were added, and at last none besides.
use Rattle.std.proofs.Common.{◌≡◌, ℕ, ◌+◌, Bool, not, ◌&&◌, ap, ap₂, ◌∙◌, sym, subst, arith}
use Rattle.scad_geom.specs.Shape.{shape_holds}
use Rattle.scad_geom.proofs.Shapes.{holds_diff}
use Rattle.plan_walls.proofs.Members.{AddsUp, one_more, all_added}
use Rattle.plan_walls.proofs.shape.first_without.Goals as goal

pub leaves-preserved : goal.leaves-preserved
leaves-preserved c =
    subst (AddsUp c.args.count (c.leaves.leaf + 1)) (sym c.in_ok-push.ensures.items)
    (one_more c.args.count c.leaves.leaf c.leaves.rest.items c.leaves-test.true c.leaves.invariant)

pub returns : goal.returns
returns c =
    let last : c.leaves.leaf ≡ c.args.count = omega arith in
    let added : AddsUp c.args.count c.args.count c.leaves.rest.items = subst
    (λ (k : ℕ). AddsUp c.args.count k c.leaves.rest.items) last c.leaves.invariant in
    λ inside.
    holds_diff inside c.in_ok-new.field-0 c.leaves.rest
    ∙ ap₂ (λ (a b : Bool). a && not b) (ap (shape_holds inside) c.in_ok-new.ensures.ok)
    (all_added c.args.count c.leaves.rest.items added inside)
