-- The squares that are left are added to the total, one after another.
use Rattle.std.proofs.Common.{◌≡◌, ◌<◌, ◌+◌, ℕ, ℤ, List, ◌∷◌, Result, length, drop, get_or, ap, sym, ◌∙◌}
use Rattle.scad_num.specs.declared.fault.NumFault.{NumFault}
use Rattle.scad_num.specs.Number.{sum_of, product_of}
use Rattle.scad_value.specs.declared.value.Value.{Value}
use Rattle.scad_value.specs.Products.{amount}
use Rattle.scad_value.specs.View.{datum_of, elements}
use Rattle.scad_value.proofs.Rows.{elements-drop}
use Rattle.scad_builtin.specs.Arguments.{numbers}
use Rattle.scad_builtin.specs.Fault.{and_then}
use Rattle.scad_builtin.specs.Numbers.{squares_onto}

abbrev pub behind_sum : List ℤ → Result ℤ NumFault → Result ℤ NumFault
behind_sum more r = and_then r (λ sum. squares_onto sum more)

abbrev pub behind_square : ℤ → List ℤ → Result ℤ NumFault → Result ℤ NumFault
behind_square total more r = and_then r (λ square. behind_sum more (sum_of total square))

pub next_square : (all : List Value) (i : ℕ) (v : Value) (total z : ℤ) → i < length all → v ≡ get_or all i v
    → z ≡ amount (datum_of v) → squares_onto total (numbers (elements (drop i all)))
    ≡ behind_square total (numbers (elements (drop (i + 1) all))) (product_of z z)
next_square all i v total z below is same =
    ap (λ es. squares_onto total (numbers es)) (elements-drop all i v below is)
    ∙ ap (λ x. squares_onto total (x ∷ numbers (elements (drop (i + 1) all)))) (sym same)
