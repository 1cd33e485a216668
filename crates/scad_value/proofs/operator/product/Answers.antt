use Rattle.std.proofs.Common.{rules, ◌≡◌, ◌∙◌, sym, ap, ap₂, subst, IfOk, IfErr, Ok}
use Rattle.scad_value.specs.declared.value.Value.TheViews.{the_lemmas}
use Rattle.scad_value.specs.Faults.{Refuses}
use Rattle.scad_value.specs.Operators.{product}
use Rattle.scad_value.specs.Products.{product_of_vectors}
use Rattle.scad_value.specs.View.{datum_of, elements}
use Rattle.scad_value.proofs.Rows.{at_vector, items_in}
use Rattle.scad_value.proofs.operator.product.Goals as goal

pub returns-in-Some-elements_of-clause-found : goal.returns-in-Some-elements_of-clause-found
returns-in-Some-elements_of-clause-found c =
    subst (λ p. IfOk c.product_of_vectors.result (λ v. p ≡ Ok (datum_of v)))
    (ap (λ es. product_of_vectors (elements es) (elements c.in-Some-elements_of.ys.now)) (items_in _ _ _ c.deref.ensures c.as_slice.ensures.value)
    ∙ sym (ap₂ product (at_vector _ c.in-List.xs c.in-List.is) c.in-Some-elements_of.ensures.vector))
    c.product_of_vectors.ensures.found

pub returns-in-Some-elements_of-clause-refused : goal.returns-in-Some-elements_of-clause-refused
returns-in-Some-elements_of-clause-refused c =
    subst (λ p. IfErr c.product_of_vectors.result (Refuses p))
    (ap (λ es. product_of_vectors (elements es) (elements c.in-Some-elements_of.ys.now)) (items_in _ _ _ c.deref.ensures c.as_slice.ensures.value)
    ∙ sym (ap₂ product (at_vector _ c.in-List.xs c.in-List.is) c.in-Some-elements_of.ensures.vector))
    c.product_of_vectors.ensures.refused

pub returns-in_default : goal.returns-in_default
returns-in_default c = search (rules, the_lemmas, c.in_default.not-Number, c.in_default.not-List)
