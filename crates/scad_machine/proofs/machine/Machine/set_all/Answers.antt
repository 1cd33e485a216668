-- Names are set one by one.
use Rattle.std.proofs.Common.{◌≡◌, map, refl, sym, ap, ◌∙◌, arith}
use Rattle.std.proofs.lemmas.Result.{err_from_is_err_and}
use Rattle.std.specs.Vec.Iter.{into_iter_items}
use Rattle.scad_machine.specs.Answers.{done_at}
use Rattle.scad_machine.specs.Machine.{held}
use Rattle.scad_machine.specs.OpenFrames.{set_all_in_last}
use Rattle.scad_machine.specs.Parameters.{shown}
use Rattle.scad_machine.specs.State.{State, gives}
use Rattle.scad_machine.proofs.Giving.{nothing-left}
use Rattle.scad_machine.proofs.machine.Machine.set_all.Goals as goal

same-state : (s t : State) → done_at s ≡ done_at t → s ≡ t
same-state s t e = cc

pub names-init : goal.names-init
names-init c = (
  ap (λ l. set_all_in_last (map shown l) (held c.args.self.now)) c.into_iter-name-iterator.ensures.into_iter_gives.0
      ∙ ap (λ ns. set_all_in_last ns (held c.args.self.now)) c.into_entries-name-items.ensures,
  refl,
  refl,
)

pub names-preserved : goal.names-preserved
names-preserved c = (
  ap (set_all_in_last (map shown (into_iter_items c.next.new.self))) c.in_ok-set.ensures.held
      ∙ sym (ap (λ l. set_all_in_last (map shown l) (held c.names.self)) c.in-Some.ensures.steps.0)
      ∙ c.names.invariant.0,
  sym (same-state _ _ c.in_ok-set.ensures.does) ∙ c.names.invariant.1,
  c.in_ok-set.ensures.steps ∙ c.names.invariant.2,
)

pub returns-in_err-set-clause-does : goal.returns-in_err-set-clause-does
returns-in_err-set-clause-does c =
    let p = err_from_is_err_and c.from_residual.result c.from_residual.ensures.1 in
    rw (p.1, p.2) (λ some. ap (gives tt) (sym c.names.invariant.1) ∙ c.in_err-set.ensures.does some)

pub returns-clause-does : goal.returns-clause-does
returns-clause-does c = ap (gives tt) (sym c.names.invariant.1)

pub returns-clause-held : goal.returns-clause-held
returns-clause-held c =
    sym (ap (λ l. set_all_in_last (map shown l) (held c.names.self))
    (nothing-left (into_iter_items c.names.name-iterator) (omega (arith, c.in-None.ensures.steps))))
    ∙ c.names.invariant.0
