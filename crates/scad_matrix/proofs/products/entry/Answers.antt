use Rattle.std.proofs.Common.{◌≡◌, FitsSigned, ap, sym, ◌∙◌}
use Rattle.std.proofs.lemmas.Int.{to_z-of_z}
use Rattle.scad_num.specs.Number.{number_of}
use Rattle.scad_matrix.specs.Matrix.{entry}
use Rattle.scad_matrix.proofs.RoundedProducts.{in_range-number, in_range-none}
use Rattle.scad_matrix.proofs.products.entry.Goals as goal
use mir.Syntax.{w128}

pub returns-in-Ok : goal.returns-in-Ok
returns-in-Ok c =
    let last_fits = c.ranges.last in
    let fits : FitsSigned w128 c.rounded.result = record { sfits = c.rounded.type_inv } in
    let told : c.of_wide.result ≡ number_of (entry c.args.row.now c.args.x c.args.y c.args.z c.args.last) =
    simp to_z-of_z at c.of_wide.ensures ∙ ap number_of (simp to_z-of_z at c.rounded.ensures) in
    sym (in_range-number _ c.in-Ok.entry (sym told ∙ c.in-Ok.is))

pub returns-in-Err : goal.returns-in-Err
returns-in-Err c =
    let last_fits = c.ranges.last in
    let fits : FitsSigned w128 c.rounded.result = record { sfits = c.rounded.type_inv } in
    let told : c.of_wide.result ≡ number_of (entry c.args.row.now c.args.x c.args.y c.args.z c.args.last) =
    simp to_z-of_z at c.of_wide.ensures ∙ ap number_of (simp to_z-of_z at c.rounded.ensures) in
    sym (in_range-none _ c.in-Err.field-0 (sym told ∙ c.in-Err.is))
