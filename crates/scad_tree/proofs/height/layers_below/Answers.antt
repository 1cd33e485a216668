use Rattle.std.proofs.Common.{◌+◌, ◌-◌, ◌/◌, ◌%◌, min, ap, ◌∙◌}
use Rattle.std.proofs.lemmas.Int.{to_z-of_z}
use Rattle.scad_tree.proofs.Layers.{layers_above, no_layers}
use Rattle.scad_tree.proofs.height.layers_below.Goals as goal

pub returns-then-top-lt0 : goal.returns-then-top-lt0
returns-then-top-lt0 c =
    let top_fits = c.ranges.top in
    let below = simp to_z-of_z at c.if-top-lt0.true in
    no_layers c.args.top c.args.h below

pub returns : goal.returns
returns c =
    let top_fits = c.ranges.top in
    let above = simp to_z-of_z at c.if-top-lt0.false in
    let size = simp to_z-of_z at c.unsigned_abs.ensures.value in
    layers_above c.args.top c.args.h c.requires above c.div_ceil.result
    (c.div_ceil.ensures ∙ ap (λ m. m / c.args.h + min 1 (m % c.args.h))
    (c.saturating_sub.ensures ∙ ap (λ t. t - c.args.h / 2) size))
