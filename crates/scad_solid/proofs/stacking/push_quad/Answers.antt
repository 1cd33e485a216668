-- The second triangle follows the first.
use Rattle.std.proofs.Common.{◌++◌, ◌∷◌, [], append_assoc, ap, ◌∙◌}
use Rattle.scad_solid.specs.declared.triangle.Triangle.{Triangle}
use Rattle.scad_solid.proofs.stacking.push_quad.Goals as goal

pub returns : goal.returns
returns c =
    let first : Triangle = record { a = c.args.p; b = c.args.q; c = c.args.r } in
    let second : Triangle = record { a = c.args.p; b = c.args.r; c = c.args.s } in
    c.in_ok-push-2.ensures.items ∙ ap (λ ts. ts ++ second ∷ []) c.in_ok-push.ensures.items
    ∙ append_assoc c.args.out.now.items (first ∷ []) (second ∷ [])
