use Rattle.std.proofs.Common.{◌≡◌, ◌-◌}
use Rattle.scad_value.specs.Products.{by_columns}
use Rattle.scad_value.specs.View.{elements}
use Rattle.scad_value.proofs.Steps.{onto_all}
use Rattle.scad_value.proofs.matrix_product.by_columns.Given as goal

-- what is made, and then what is left
abbrev pub invariant-columns : goal.invariant-columns
invariant-columns l = onto_all l.made.items (by_columns (l.columns - l.j) l.j (elements l.xs) (elements l.rows))
    ≡ by_columns l.columns 0 (elements l.xs) (elements l.rows)
