-- One point more leads the chain on, and none left ends it.
use Rattle.std.proofs.Common.{◌≡◌, ℕ, ◌+◌, ◌<◌, ℤ, List, [], ◌∷◌, ◌++◌, length, get_or, drop, reverse, sym, ap, ◌∙◌}
use Rattle.std.proofs.lemmas.List.{at_drop_more, at_drop_all, reverse-append}
use Rattle.scad_hull.specs.Chain.{bent, led}
use Rattle.scad_hull.proofs.chain.chain.Goals as goal

led_more : {X : Type 0} (left : X → X → X → ℤ) (points : List X) (i : ℕ) (p : X) → i < length points
    → p ≡ get_or points i p → (old bowed new : List X) → reverse bowed ≡ bent left p (reverse old)
    → new ≡ bowed ++ (p ∷ [])
    → led left (reverse new) (drop (i + 1) points) ≡ led left (reverse old) (drop i points)
led_more left points i p h is old bowed new on pushed =
    ap (λ s. led left s (drop (i + 1) points))
    (ap reverse pushed ∙ reverse-append bowed (p ∷ []) ∙ ap (λ s. p ∷ s) on)
    ∙ ap (λ x. led left (reverse old) (x ∷ drop (i + 1) points)) is
    ∙ sym (at_drop_more (led left (reverse old)) points i p h)

pub points-init : goal.points-init
points-init g c =
    ap (λ s. led (g.V.Plane.left c.args.plane.now) (reverse s) c.args.points.now) c.new-stack.ensures.items

pub points-preserved : goal.points-preserved
points-preserved g c =
    led_more (g.V.Plane.left c.args.plane.now) c.args.points.now c.points.p-index c.p-item.result c.points-test.true
    c.p-item.is c.points.stack.items c.bend.new.stack.items c.push.new.self.items c.bend.ensures
    c.in_ok-push.ensures.items
    ∙ c.points.invariant

pub returns : goal.returns
returns g c =
    sym (at_drop_all (led (g.V.Plane.left c.args.plane.now) (reverse c.points.stack.items)) c.args.points.now
    c.points.p-index c.points-test.false)
    ∙ c.points.invariant
