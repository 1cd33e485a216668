-- What facts of an option tell where it is there, and where it isn't.
use Rattle.std.proofs.Common.{◌≡◌, Option, Some, None, refl, subst}
use Rattle.std.specs.Prelude.{IfSome, IfNone}

pub at_some : {X : Type 0} (P : X → Type 0) (o : Option X) (x : X) → o ≡ Some x → IfSome o P → P x
at_some P o x e h = subst (λ q. IfSome q P) e h

pub at_none : {X : Type 0} (P : Type 0) (o : Option X) → ((x : X) → o ≡ Some x → ⊥) → IfNone o P → P
at_none P None n h = h
at_none P (Some x) n h = absurd (n x refl)
