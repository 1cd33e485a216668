-- The elements that lists of values are.
use Rattle.std.proofs.Common.{◌≡◌, ℕ, ◌<◌, List, [], ◌∷◌, ◌++◌, length, map, get_or, pos, refl, ap, sym, ◌∙◌}
use Rattle.std.proofs.lemmas.List.{get_or-map, length-map}
use Rattle.scad_value.specs.declared.value.Value.{Value}
use Rattle.scad_value.specs.Datum.{Elements, no_elements, element}
use Rattle.scad_value.specs.View.{datum_of, elements}
use Rattle.scad_value.specs.Products.{amount}
use Rattle.scad_builtin.specs.Arguments.{numbers}
use Rattle.scad_builtin.specs.Vectors.{appended}

pub numbers_elements : (xs : List Value) → numbers (elements xs) ≡ map (λ v. amount (datum_of v)) xs
numbers_elements [] = refl
numbers_elements (x ∷ xs) = ap (λ zs. amount (datum_of x) ∷ zs) (numbers_elements xs)

pub length_numbers : (xs : List Value) → length (numbers (elements xs)) ≡ length xs
length_numbers xs = ap length (numbers_elements xs) ∙ length-map xs (λ v. amount (datum_of v))

-- the number at a place is that of the value there
pub number_at : (xs : List Value) (k : ℕ) (x : Value) → k < length xs → x ≡ get_or xs k x
    → get_or (numbers (elements xs)) k (pos 0) ≡ amount (datum_of x)
number_at xs k x within is =
    ap (λ zs. get_or zs k (pos 0)) (numbers_elements xs) ∙ get_or-map (λ v. amount (datum_of v)) xs k x (pos 0) within ∙
    ap (λ v. amount (datum_of v)) (sym is)

-- one value more at the end
pub appended_push : (xs : List Value) (x : Value) (rest : Elements) → appended (elements (xs ++ x ∷ [])) rest
    ≡ appended (elements xs) (element (datum_of x) rest)
appended_push [] x rest = refl
appended_push (y ∷ xs) x rest = ap (element (datum_of y)) (appended_push xs x rest)

pub appended_nothing : (xs : List Value) → appended (elements xs) no_elements ≡ elements xs
appended_nothing [] = refl
appended_nothing (x ∷ xs) = ap (element (datum_of x)) (appended_nothing xs)
