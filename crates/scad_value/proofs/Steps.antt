-- A vector that is made element by element, to the first fault.
use Rattle.std.proofs.Common.{◌≡◌, List, [], ◌∷◌, ◌++◌, Ok, Err, refl, ap, sym, ◌∙◌, subst, Vec, Global}
use Rattle.std.specs.declared.rc.Rc.{Rc}
use Rattle.scad_value.specs.declared.value.Value.{Value, List as ListValue}
use Rattle.scad_value.specs.declared.fault.ValueFault.{ValueFault}
use Rattle.scad_value.specs.declared.fault.ValueFault.TheVariants.{ZeroDivisor, NumberRange, Memory}
use Rattle.scad_value.specs.Datum.{Datum, vector, Elements, no_elements}
use Rattle.scad_value.specs.Elementwise.{Answer, AllAnswers, as_vector, before_all, first_then}
use Rattle.scad_value.specs.Faults.{Refuses}
use Rattle.scad_value.specs.View.{datum_of, elements_onto, elements}
use Rattle.scad_value.proofs.Rows.{at_vector, elements_onto-push}

-- values, and then what is still to be made
abbrev pub onto_all : List Value → AllAnswers → AllAnswers
onto_all made (Ok more) = Ok (elements_onto made more)
onto_all made (Err fault) = Err fault

onto_all-push : (made : List Value) (v : Value) (more : AllAnswers) → onto_all (made ++ v ∷ []) more ≡ onto_all made
    (before_all (datum_of v) more)
onto_all-push made v (Ok more) = ap Ok (elements_onto-push made v more)
onto_all-push made v (Err fault) = refl

-- nothing is made yet
pub onto_none : (made : List Value) (now : AllAnswers) → made ≡ [] → onto_all made now ≡ now
onto_none made (Ok more) none = ap (λ all. Ok (elements_onto all more)) none
onto_none made (Err fault) none = refl

-- all is made
pub all_made : (made : List Value) (now whole : AllAnswers) → now ≡ Ok no_elements → onto_all made now ≡ whole
    → whole ≡ Ok (elements made)
all_made made now whole none so_far = sym so_far ∙ ap (onto_all made) none

-- one more element is made
pub step_made : (made : List Value) (v : Value) (answer : Answer) (now more whole : AllAnswers)
    → now ≡ first_then answer more → answer ≡ Ok (datum_of v) → onto_all made now ≡ whole
    → onto_all (made ++ v ∷ []) more ≡ whole
step_made made v answer now more whole is found so_far =
    onto_all-push made v more ∙ ap (λ a. onto_all made (first_then a more)) (sym found) ∙ ap (onto_all made) (sym is) ∙
    so_far

-- the next element has a fault
pub step_refused : (made : List Value) (fault : ValueFault) (answer : Answer) (now more whole : AllAnswers)
    → now ≡ first_then answer more → Refuses answer fault → onto_all made now ≡ whole → Refuses whole fault
step_refused made ZeroDivisor answer now more whole is refused so_far = sym so_far ∙ ap (onto_all made) is ∙ ap
    (λ a. onto_all made (first_then a more)) refused
step_refused made NumberRange answer now more whole is refused so_far = sym so_far ∙ ap (onto_all made) is ∙ ap
    (λ a. onto_all made (first_then a more)) refused
step_refused made Memory answer now more whole is refused so_far = tt

-- a fault of the elements is one of the vector
pub vector_refused : (all : AllAnswers) (fault : ValueFault) → Refuses all fault → Refuses (as_vector all) fault
vector_refused all ZeroDivisor refused = ap as_vector refused
vector_refused all NumberRange refused = ap as_vector refused
vector_refused all Memory refused = tt

-- an operation on a vector goes through its elements
pub through : (f : Datum → Answer) (g : Elements → AllAnswers)
    → ((es : Elements) → f (vector es) ≡ as_vector (g es)) → (a : Value) (xs : Rc (Vec Value Global) Global)
    (items : List Value) → a ≡ ListValue xs → items ≡ xs.value.items → f (datum_of a) ≡ as_vector (g (elements items))
through f g same a xs items is items_are =
    ap f (at_vector a xs is) ∙ same (elements xs.value.items) ∙ ap (λ all. as_vector (g (elements all))) (sym items_are)

-- it has a fault of theirs
pub refused_vector : (f : Datum → Answer) (g : Elements → AllAnswers)
    → ((es : Elements) → f (vector es) ≡ as_vector (g es)) → (a : Value) (xs : Rc (Vec Value Global) Global)
    (items : List Value) (fault : ValueFault) → a ≡ ListValue xs → items ≡ xs.value.items
    → Refuses (g (elements items)) fault → Refuses (f (datum_of a)) fault
refused_vector f g same a xs items fault is items_are refused =
    subst (λ answer. Refuses answer fault) (sym (through f g same a xs items is items_are))
    (vector_refused (g (elements items)) fault refused)

-- a vector is made of what they give
pub vector_made : (all : AllAnswers) (made : List Value) (v : Value) → all ≡ Ok (elements made)
    → datum_of v ≡ vector (elements made) → as_vector all ≡ Ok (datum_of v)
vector_made all made v found is = ap as_vector found ∙ ap Ok (sym is)
