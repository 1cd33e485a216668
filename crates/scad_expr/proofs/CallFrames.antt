-- What `bind` gives is what the frames that it opened are.
use Rattle.std.proofs.Common.{◌≡◌, ℕ, List, length, Option, Some, None, codes, sym, ap, ap₂, ◌∙◌}
use Rattle.scad_ast.specs.Tree.{Arguments, Parameter}
use Rattle.scad_value.specs.Datum.{Datum}
use Rattle.scad_scope.specs.Env.{Env}
use Rattle.scad_scope.specs.FrameStore.{StoredChildren, env_at, envs, children_in}
use Rattle.scad_machine.specs.Arguments.{with_children, number_of_children}
use Rattle.scad_machine.specs.Machine.{Held, along_in}
use Rattle.scad_stack.specs.Meaning.{meaning, bound, bind}
use Rattle.scad_stack.specs.Meaning.{opened as opens}
use Rattle.scad_machine.specs.OpenFrames.{opened, bound_in, with_count, opened_in}
use Rattle.scad_machine.specs.State.{State, Outcome, gives, and_then}
use Rattle.scad_machine.specs.Variables.{Bound}
use Rattle.scad_machine.proofs.OpenFrames.{opened-bound, opened-again, call-env, call-along, call-set}

pub bound-same : (depth depth0 : ℕ) (home along : Env) (ps : List Parameter) (args args0 : Arguments)
    (found : List Datum) (s : State) → depth0 ≡ depth → args0 ≡ args
    → bound (meaning depth) home along ps args found s ≡ bound (meaning depth0) home along ps args0 found s
bound-same depth depth0 home along ps args args0 found s d a =
    ap (λ e. bound (meaning e) home along ps args found s) (sym d)
    ∙ ap (λ b. bound (meaning depth0) home along ps b found s) (sym a)

module _ (kept : Option StoredChildren) (home : ℕ) (h n o : Held) (was : h ≡ opened kept (length o.frames) home (bound_in h) o) (made : n ≡ with_count kept h) where
  -- the names once the children are counted
  counted : n ≡ opened kept (length o.frames) home (with_children (children_in (envs o.frames) kept) (bound_in h)) o
  unfolding with_children
  counted = by kept was made
    where
      by : (k : Option StoredChildren) → h ≡ opened k (length o.frames) home (bound_in h) o → n ≡ with_count k h
          → n ≡ opened k (length o.frames) home (with_children (children_in (envs o.frames) k) (bound_in h)) o
      by None w m = m ∙ w
      by (Some c) w m = call-set (Some c) (length o.frames) home (codes "$children") (number_of_children c.statements) h
          n o w m

  pub bind-opened : n ≡ opened kept (length o.frames) home (bound_in n) o
  bind-opened = opened-again kept (length o.frames) home (with_children (children_in (envs o.frames) kept) (bound_in h))
      n o counted

  pub bind-gives : (depth : ℕ) (ps : List Parameter) (args : Arguments) (found : List Datum) (s s2 s3 : State)
      → bound (meaning depth) (env_at (envs o.frames) home) (along_in o) ps args found s ≡ gives (bound_in h) s2
      → s2 ≡ s3 → bind depth (env_at (envs o.frames) home) (along_in o) ps args found
      (children_in (envs o.frames) kept)
      s ≡ gives (opened_in n) s3
  unfolding opened_in
  bind-gives depth ps args found s s2 s3 e done =
      ap (λ (r : Outcome Bound). and_then r (λ b t. gives (opens (env_at (envs o.frames) home) (along_in o)
      (children_in (envs o.frames) kept) (with_children (children_in (envs o.frames) kept) b)) t)) e
      ∙ ap₂ (λ (b : Bound) (t : State). gives (opens (env_at (envs o.frames) home) (along_in o)
      (children_in (envs o.frames) kept) b) t)
      (sym (opened-bound kept (length o.frames) home (with_children (children_in (envs o.frames) kept) (bound_in h)) n o
      counted)) done
      ∙ ap₂ (λ x y. gives (record { env = x; along = y }) s3)
      (sym (call-env kept home n o bind-opened)) (sym (call-along kept (length o.frames) home n o bind-opened))
