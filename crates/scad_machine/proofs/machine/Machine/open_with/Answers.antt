-- The frames that are opened have the one name that is set in them.
use Rattle.std.proofs.Common.{◌≡◌, ℕ, List, ap, ap₂, ◌∙◌}
use Rattle.scad_value.specs.Datum.{Datum}
use Rattle.scad_value.specs.View.{datum_of}
use Rattle.scad_machine.specs.Machine.{Held, held, env_in, along_in}
use Rattle.scad_machine.specs.OpenFrames.{set_in_last, bound_in, outer, IsInner}
use Rattle.scad_machine.specs.Variables.{empty, within}
use Rattle.scad_machine.specs.Variables.{set as set_name}
use Rattle.scad_machine.proofs.OpenFrames.{inner-env, inner-along, left-outer, set-inner, set-bound, set-outer}
use Rattle.scad_machine.proofs.machine.Machine.open_with.Goals as goal

module _ (name : List ℕ) (d : Datum) (h n o : Held) (inner : IsInner h) (none : bound_in h ≡ empty)
    (was : outer h ≡ o) (made : n ≡ set_in_last name d h) where
  lone-env : env_in n ≡ within (env_in o) (set_name name d empty).names
  lone-env = inner-env n (set-inner name d h n inner made)
      ∙ ap₂ (λ p b. within (env_in p) b.names) (set-outer name d h n inner made ∙ was)
      (set-bound name d h n inner made ∙ ap (set_name name d) none)

  lone-along : along_in n ≡ within (along_in o) (set_name name d empty).dollars
  lone-along = inner-along n (set-inner name d h n inner made)
      ∙ ap₂ (λ p b. within (along_in p) b.dollars) (set-outer name d h n inner made ∙ was)
      (set-bound name d h n inner made ∙ ap (set_name name d) none)

pub returns-clause-does : goal.returns-clause-does
returns-clause-does c = c.in_ok-back.ensures.does ∙ c.in_ok-set.ensures.does

pub returns-clause-env : goal.returns-clause-env
returns-clause-env c =
    lone-env c.args.name.now (datum_of c.args.value) (held c.open.new.self) (held c.set.new.self)
    (held c.args.self.now) c.in_ok-back.ensures.inner c.in_ok-back.ensures.bound c.in_ok-back.ensures.outer
    c.in_ok-set.ensures.held

pub returns-clause-along : goal.returns-clause-along
returns-clause-along c =
    lone-along c.args.name.now (datum_of c.args.value) (held c.open.new.self) (held c.set.new.self)
    (held c.args.self.now) c.in_ok-back.ensures.inner c.in_ok-back.ensures.bound c.in_ok-back.ensures.outer
    c.in_ok-set.ensures.held

pub returns-clause-back : goal.returns-clause-back
returns-clause-back c =
    left-outer c.in_ok-back.back (held c.set.new.self) (held c.args.self.now)
    (set-outer c.args.name.now (datum_of c.args.value) (held c.open.new.self) (held c.set.new.self)
    c.in_ok-back.ensures.inner c.in_ok-set.ensures.held ∙ c.in_ok-back.ensures.outer) c.in_ok-back.ensures.back
