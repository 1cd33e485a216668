-- What arguments say, or their fault at the call's name, as the definitions have it.
use Rattle.std.proofs.Common.{◌≡◌, ℕ, List, Result, Ok, Err, refl, sym, ap, ◌∙◌, subst}
use Rattle.std.specs.Prelude.{IfOk}
use Rattle.scad_ast.specs.declared.expression.Arg.{Arg}
use Rattle.scad_fault.specs.declared.place.Place.{Place}
use Rattle.scad_modules.specs.declared.fault.ArgumentFault.{ArgumentFault}
use Rattle.scad_modules.specs.Reading.{Read}
use Rattle.scad_modules.specs.Shapes.{Fineness}
use Rattle.scad_modules.specs.View.{Reads}
use Rattle.scad_machine.specs.declared.fault.EvalFault.{EvalFault}
use Rattle.scad_machine.specs.Answers.{Does}
use Rattle.scad_machine.specs.State.{State, Outcome, gives, refuses}
use Rattle.scad_leaves.specs.Products.{argument_fault, argued}
use Rattle.scad_leaves.proofs.Fine.{not-refused, same-value}

same-fault : {A : Type 0} (e f : EvalFault) (s t : State) (o : Outcome A) → o ≡ refuses e s → o ≡ refuses f t → e ≡ f
same-fault e f s t o first second = cc

refused-by : {A : Type 0} (e f : EvalFault) (s : State) (o : Outcome A) → e ≡ f → o ≡ refuses e s → o ≡ refuses f s
refused-by e f s o same is = cc

-- the view of what was read is what the rule gives
pub argued-read : {A B : Type 0} (view : A → B) (rule : Read B) (read : Result A ArgumentFault) (at : Place)
    (name : List ℕ) (s : State) (answer : Result A EvalFault) → Reads view rule read
    → Does (λ (a : A). a) (argued at name read s) answer s → Does view (argued at name rule s) answer s
unfolding argued
argued-read {A} {B} view rule (Ok a) at name s (Ok b) reads does =
    ap (λ (r : Read B). argued at name r s) reads ∙ ap (λ (x : A). gives (view x) s) (same-value a b s s does)
argued-read view rule (Ok a) at name s (Err e) reads does =
    λ some. not-refused a s s e (argued at name rule s) (does some)
argued-read view rule (Err why) at name s (Ok b) reads does =
    absurd (cc)
argued-read {A} {B} view rule (Err why) at name s (Err e) reads does = λ some.
    let told : argument_fault at name why ≡ e =
    same-fault (argument_fault at name why) e s s (argued {A = A} at name (Err why) s) refl (does some) in
    refused-by (argument_fault at name why) e s (argued at name rule s) told
    (ap (λ (r : Read B). argued at name r s) (reads (λ is. some (sym told ∙ ap (argument_fault at name) is))))

-- what is read by a fineness and arguments that are those of the rule
pub called-read : {A B : Type 0} (view : A → B) (rule : Fineness → List Arg → Read B) (f g : Fineness)
    (xs ys : List Arg) (read : Result A ArgumentFault) (at : Place) (name : List ℕ) (s : State)
    (answer : Result A EvalFault) → gives f s ≡ gives g s → ys ≡ xs → Reads view (rule g ys) read
    → Does (λ (a : A). a) (argued at name read s) answer s → Does view (argued at name (rule f xs) s) answer s
called-read {A} {B} view rule f g xs ys read at name s answer fine given reads does =
    argued-read view (rule f xs) read at name s answer
    (subst (λ (l : List Arg). Reads view (rule f l) read) given
    (subst (λ (h : Fineness). Reads view (rule h ys) read) (sym (same-value f g s s fine)) reads)) does

-- what holds of what was read holds of what is told
pub told-holds : {A E F : Type 0} (holds : A → Type 0) (read : Result A E) (answer : Result A F)
    → IfOk answer (λ (a : A). read ≡ Ok a) → IfOk read holds → IfOk answer holds
told-holds {A} {E} holds read (Ok a) same held = subst (λ (r : Result A E). IfOk r holds) same held
told-holds holds read (Err e) same held = tt

pub ruleset readings = (argued-read)
