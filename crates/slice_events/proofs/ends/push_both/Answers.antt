-- Both heights are behind those before.
use Rattle.std.proofs.Common.{◌≡◌, ◌++◌, ◌∷◌, [], List, ℤ, ap, ap₂, ◌∙◌, append_assoc, to_z, of_z}
use mir.Syntax.{w32}
use Rattle.scad_geom.proofs.Casts.{casts}
use Rattle.slice_events.proofs.ends.push_both.Goals as goal

pub returns : goal.returns
returns c =
    let old : List ℤ = c.args.ends.now.items in
    let a : ℤ = c.args.e.now.edge.a.y in
    let b : ℤ = c.args.e.now.edge.b.y in
    let first : to_z w32 (of_z w32 a) ≡ a = search casts in
    let second : to_z w32 (of_z w32 b) ≡ b = search casts in
    c.in_ok-push-2.ensures.items
    ∙ ap₂ (λ (ys : List ℤ) (y : ℤ). ys ++ (y ∷ [])) (c.in_ok-push.ensures.items ∙ ap (λ (y : ℤ). old ++ (y ∷ [])) first)
    second
    ∙ append_assoc old (a ∷ []) (b ∷ [])
