-- `$fn`, `$fa` and `$fs` that were found one by one.
use Rattle.std.proofs.Common.{◌≡◌, ap, ◌∙◌}
use Rattle.std.specs.Prelude.{codes}
use Rattle.scad_value.specs.Datum.{Datum}
use Rattle.scad_scope.specs.Env.{Env}
use Rattle.scad_modules.specs.Shapes.{Fineness}
use Rattle.scad_machine.specs.declared.fault.EvalFault.{EvalFault}
use Rattle.scad_machine.specs.State.{State, Outcome, gives, refuses}
use Rattle.scad_machine.specs.Variables.{variable}
use Rattle.scad_leaves.specs.Fineness.{fineness}

-- what is given isn't refused
pub not-refused : {A B : Type 0} (a : A) (s t : State) (e : EvalFault) (o : Outcome B) → gives a s ≡ refuses e t
    → o ≡ refuses e t
not-refused a s t e o is = absurd (cc)

pub same-value : {A : Type 0} (a b : A) (s t : State) → gives a s ≡ gives b t → a ≡ b
same-value a b s t is = cc

abbrev fine : Datum → Datum → Datum → Fineness
fine a b c = record { fn = a; fa = b; fs = c }

pub fine-given : (env along : Env) (a b c : Datum) (s : State) → gives (variable (codes "$fn") env along) s ≡ gives a s
    → gives (variable (codes "$fa") env along) s ≡ gives b s → gives (variable (codes "$fs") env along) s ≡ gives c s
    → gives (fineness env along) s ≡ gives (record { fn = a; fa = b; fs = c }) s
fine-given env along a b c s first second third =
    ap (λ x. gives (fine x (variable (codes "$fa") env along) (variable (codes "$fs") env along)) s)
    (same-value _ _ _ _ first)
    ∙ ap (λ x. gives (fine a x (variable (codes "$fs") env along)) s) (same-value _ _ _ _ second)
    ∙ ap (λ x. gives (fine a b x) s) (same-value _ _ _ _ third)
