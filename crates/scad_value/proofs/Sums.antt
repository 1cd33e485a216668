-- Sums of products, one product after another.
use Rattle.std.proofs.Common.{◌≡◌, ℤ, Result, ap, ap₂, ◌∙◌}
use Rattle.scad_base.specs.Results.{and_then}
use Rattle.scad_num.specs.declared.fault.NumFault.{NumFault}
use Rattle.scad_value.specs.Datum.{Datum, Elements, element}
use Rattle.scad_value.specs.Products.{amount, plus_product, dot_from}

-- the next product goes onto the sum, or has a fault
pub dot_next : (sum : ℤ) (xs ys : Elements) (d e : Datum) (more others : Elements) (answer : Result ℤ NumFault)
    → xs ≡ element d more → ys ≡ element e others → plus_product sum (amount d) (amount e) ≡ answer
    → dot_from sum xs ys ≡ and_then answer (λ next. dot_from next more others)
dot_next sum xs ys d e more others answer p q r =
    ap₂ (dot_from sum) p q ∙ ap (λ a. and_then a (λ next. dot_from next more others)) r
