-- The product is of the numbers themselves, and as small as theirs.
use Rattle.std.proofs.Common.{◌≡◌, ◌*◌, ◌≤◌, ℤ, ◌*ℤ◌, unsigned_abs, FitsSigned, ap, sym, subst, ◌∙◌}
use Rattle.std.proofs.lemmas.Int.{to_z-of_z}
use Rattle.scad_num.specs.Number.{one, most}
use Rattle.scad_shapes.proofs.Roundings.{product_is_small}
use Rattle.scad_shapes.proofs.outline.product.Goals as goal
use mir.Syntax.{w64, w128}

exact : (c : goal.After-times) → c.times.result ≡ c.args.r *ℤ c.args.c
exact c =
    let c_fits = c.ranges.c in
    let r_fits : FitsSigned w64 c.millionths.result = record { sfits = c.millionths.type_inv } in
    simp to_z-of_z at c.times.ensures.product ∙ ap (λ (r : ℤ). r *ℤ c.args.c) c.millionths.ensures.value

pub returns-clause-value : goal.returns-clause-value
returns-clause-value c =
    let fits : FitsSigned w128 c.times.result = record { sfits = c.times.type_inv } in
    simp to_z-of_z (exact c)

pub returns-clause-small : goal.returns-clause-small
returns-clause-small c =
    let fits : FitsSigned w128 c.times.result = record { sfits = c.times.type_inv } in
    let small : unsigned_abs c.times.result ≤ most * one =
    subst (λ (n : ℤ). unsigned_abs n ≤ most * one) (sym (exact c))
    (product_is_small c.args.r c.args.c c.millionths.ensures.in_range c.requires) in
    simp to_z-of_z small
