-- The elements of a vector are those of the list that holds them.
use Rattle.std.proofs.Common.{◌≡◌, ℕ, ◌+◌, ◌<◌, ◌≤◌, Bool, List, [], ◌∷◌, ◌++◌, Vec, Global, refl, ap, ◌∙◌, sym, rules, arith, drop, get_or, length}
use Rattle.std.specs.declared.rc.Rc.{Rc}
use Rattle.std.proofs.lemmas.Bool.Decides.{nat_tests}
use Rattle.std.proofs.lemmas.List.{drop_more, drop_all}
use Rattle.std.specs.Prelude.{not, ◌==◌}
use Rattle.scad_value.specs.Comparison.{truth}
use Rattle.scad_value.specs.Negative.{negative, negatives}
use Rattle.scad_value.specs.Products.{count}
use Rattle.scad_value.specs.declared.value.Value.{Value, List as ListValue, Row_of-Value, end_of-Value, more_of-Value, items-the_row-Value}
use Rattle.scad_value.specs.declared.value.Value.TheViews.{the_lemmas}
use Rattle.scad_value.specs.Datum.{vector, Elements, no_elements, element}
use Rattle.scad_value.specs.View.{datum_of, row_of, elements_onto, elements}

rows : (m : _) (r : Row_of-Value m) → row_of r ≡ elements (items-the_row-Value m r)
rows m end_of-Value = refl
rows m (more_of-Value v rest) = ap (element (datum_of v)) (rows _ rest)

-- a vector in memory
pub vector_view : (all : Rc (Vec Value Global) Global) → datum_of (ListValue all) ≡ vector (elements all.value.items)
vector_view all = search (rules, the_lemmas, rows)

pub at_vector : (a : Value) (all : Rc (Vec Value Global) Global) → a ≡ ListValue all
    → datum_of a ≡ vector (elements all.value.items)
at_vector a all is = ap datum_of is ∙ vector_view all

-- what is lent of a vector
pub items_in : (whole lent : Vec Value Global) (now : List Value) → lent ≡ whole → now ≡ lent.items
    → now ≡ whole.items
items_in whole lent now is same = same ∙ ap (λ (v : Vec Value Global). v.items) is

-- one more element at the end
pub elements_onto-push : (all : List Value) (v : Value) (more : Elements) → elements_onto (all ++ v ∷ []) more
    ≡ elements_onto all (element (datum_of v) more)
elements_onto-push [] v more = refl
elements_onto-push (w ∷ all) v more = ap (element (datum_of w)) (elements_onto-push all v more)

-- the next element of what is left
pub elements-drop : (all : List Value) (i : ℕ) (v : Value) → i < length all → v ≡ get_or all i v → elements (drop i all)
    ≡ element (datum_of v) (elements (drop (i + 1) all))
elements-drop all i v below is = ap elements (drop_more all i v below) ∙ ap
    (λ w. element (datum_of w) (elements (drop (i + 1) all))) (sym is)

pub elements-drop_all : (all : List Value) (i : ℕ) → length all ≤ i → elements (drop i all) ≡ no_elements
elements-drop_all all i past = ap elements (drop_all i all past)

-- one more element is made negative
pub negated : (made all : List Value) (i : ℕ) (v w : Value) (whole : Elements) → i < length all → v ≡ get_or all i v
    → datum_of w ≡ negative (datum_of v) → elements_onto made (negatives (elements (drop i all))) ≡ whole
    → elements_onto (made ++ w ∷ []) (negatives (elements (drop (i + 1) all))) ≡ whole
negated made all i v w whole below is same so_far =
    elements_onto-push made w (negatives (elements (drop (i + 1) all)))
    ∙ ap (λ d. elements_onto made (element d (negatives (elements (drop (i + 1) all))))) same
    ∙ ap (λ es. elements_onto made (negatives es)) (sym (elements-drop all i v below is))
    ∙ so_far

-- a vector is true where it has elements
pub truth-vector : (all : List Value) → truth (vector (elements all)) ≡ not (length all == 0)
truth-vector [] = refl
truth-vector (v ∷ all) = grind (arith, nat_tests)

pub truth-list : (a : Value) (all : Rc (Vec Value Global) Global) (empty : Bool) → a ≡ ListValue all
    → empty ≡ (length all.value.items == 0) → not empty ≡ truth (datum_of a)
truth-list a all empty is e = ap not e ∙ sym (truth-vector all.value.items) ∙ ap truth (sym (at_vector a all is))

pub ruleset left = (elements-drop, elements-drop_all)

pub count-elements : (all : List Value) → count (elements all) ≡ length all
count-elements [] = refl
count-elements (v ∷ all) = omega (arith, count-elements all)

pub ruleset counted = (left, count-elements)
