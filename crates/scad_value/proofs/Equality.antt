-- When vectors are equal.
use Rattle.std.proofs.Common.{◌≡◌, ◌≢◌, ℕ, ◌+◌, ◌<◌, ◌≤◌, List, [], ◌∷◌, drop, get_or, true, false, refl, sym, ap, ap₂}
use Rattle.std.proofs.Common.{◌∙◌, subst, length, arith, Vec, Global}
use Rattle.std.proofs.lemmas.List.{drop_all}
use Rattle.std.specs.declared.rc.Rc.{Rc}
use Rattle.std.specs.Prelude.{◌&&◌}
use Rattle.std.proofs.Math.Bool.{and-false}
use Rattle.text_scan.proofs.Printed.{next}
use Rattle.scad_value.specs.declared.value.Value.{Value, List as ListValue}
use Rattle.scad_value.specs.Comparison.{equal, equal_all}
use Rattle.scad_value.specs.View.{datum_of, elements}
use Rattle.scad_value.proofs.Rows.{at_vector}

-- only vectors of one length are equal
pub equal_all-lengths : (xs ys : List Value) → length xs ≢ length ys → equal_all (elements xs) (elements ys) ≡ false
equal_all-lengths [] [] differ = absurd (differ refl)
equal_all-lengths [] (y ∷ ys) differ = refl
equal_all-lengths (x ∷ xs) [] differ = refl
equal_all-lengths (x ∷ xs) (y ∷ ys) differ =
    ap (λ b. equal (datum_of x) (datum_of y) && b) (equal_all-lengths xs ys (λ e. differ (omega arith))) ∙ and-false
    (equal (datum_of x) (datum_of y))

-- two lists from a place on, by their values there and what is behind
pub equal_all-next : (xs ys : List Value) (i : ℕ) {x y : Value} → i < length xs → length xs ≡ length ys
    → x ≡ get_or xs i x → y ≡ get_or ys i y → equal_all (elements (drop i xs)) (elements (drop i ys))
    ≡ (equal (datum_of x) (datum_of y) && equal_all (elements (drop (i + 1) xs)) (elements (drop (i + 1) ys)))
equal_all-next xs ys i below long here there =
    sym (ap₂ (λ a b. equal_all (elements a) (elements b)) (next (λ a. a) {there = xs} refl below here)
    (next (λ b. b) {there = ys} refl (subst (λ n. i < n) long below) there))

pub equal_all-last : (xs ys : List Value) (i : ℕ) → length xs ≤ i → length xs ≡ length ys
    → true ≡ equal_all (elements (drop i xs)) (elements (drop i ys))
equal_all-last xs ys i past long =
    sym (ap₂ (λ a b. equal_all (elements a) (elements b)) (drop_all i xs past)
    (drop_all i ys (subst (λ n. n ≤ i) long past)))

pub equal-vectors : (a b : Value) (xs ys : Rc (Vec Value Global) Global) → a ≡ ListValue xs → b ≡ ListValue ys
    → equal (datum_of a) (datum_of b) ≡ equal_all (elements xs.value.items) (elements ys.value.items)
equal-vectors a b xs ys p q = ap₂ equal (at_vector a xs p) (at_vector b ys q)
