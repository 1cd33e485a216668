-- A judgement with one move more, by what is known of the move.
use Rattle.std.proofs.Common.{◌≡◌, ℕ, Bool, true, false, refl, sym, subst, Option, Some, None}
use Rattle.std.specs.Prelude.{is_some}
use Rattle.gcode_text.specs.declared.machine.Move.{Move}
use Rattle.plan_verify.specs.declared.judgement.Out.{Out}
use Rattle.plan_verify.specs.declared.judgement.Judgement.{Judgement}
use Rattle.plan_verify.specs.Judgement.{added, IsAdded, passed, late, did, failed}

none_of : (o : Option Out) → is_some o ≡ false → o ≡ None
none_of None e = refl
none_of (Some out) e = absurd (cc)

not_extruding : (b : Bool) → b ≡ false → b ≡ true → ⊥
not_extruding b e f = cc

module _ (Does : Move → Type 0) (j : Judgement) (line : ℕ) (m : Move) where
  pub add_passed : m.extruding ≡ false → IsAdded Does j line m j
  add_passed e = passed (not_extruding m.extruding e)

  pub add_late : (i : Judgement) → m.extruding ≡ true → is_some j.out ≡ true → i ≡ added j true line
      → IsAdded Does j line m i
  add_late i e s is = subst (λ (k : Judgement). IsAdded Does j line m k) (sym is) (late e s)

  pub add_judged : (b : Bool) (i : Judgement) → m.extruding ≡ true → is_some j.out ≡ false
      → (b ≡ true → Does m)
      → (b ≡ false → Does m → ⊥) → i ≡ added j b line → IsAdded Does j line m i
  add_judged true i e n d f is = subst (λ (k : Judgement). IsAdded Does j line m k) (sym is)
      (did e (none_of j.out n) (d refl))
  add_judged false i e n d f is = subst (λ (k : Judgement). IsAdded Does j line m k) (sym is)
      (failed e (none_of j.out n) (f refl))
