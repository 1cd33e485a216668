-- What names mean in the frames of a scope.
use Rattle.std.proofs.Common.{◌≡◌, ℕ, Bool, true, false, List, [], ◌∷◌, ◌++◌, Some, None, if◌then◌else◌, refl, sym, ap, ap₂, ◌∙◌}
use Rattle.std.proofs.lemmas.List.{take_at}
use Rattle.scad_ast.specs.Tree.{Items}
use Rattle.scad_value.specs.Datum.{Datum}
use Rattle.scad_scope.specs.Names.{with_name}
use Rattle.scad_scope.specs.Env.{inside, frame, no_children}
use Rattle.scad_scope.specs.FrameStore.{Stored, with_name_in_last, env_at, envs}
use Rattle.scad_expr.specs.Machine.{Held, env_in, along_in}
use Rattle.scad_expr.specs.OpenFrames.{last_of, set_in_last, left, bound_in, opened_in}
use Rattle.scad_expr.specs.Variables.{is_dollar, Bound, empty, within}
use Rattle.scad_expr.specs.Variables.{set as set_name}
use Rattle.scad_bindings.specs.Assignments.{bindings}
use Rattle.scad_bindings.specs.declared.binding.Binding.{Binding}
use Rattle.scad_machine.specs.declared.fault.EvalFault.{EvalFault}
use Rattle.scad_expr.specs.State.{State, gives, refuses, and_then, pure}
use Rattle.scad_members.specs.Frames.{below_of, scope_held, IsScope}
use Rattle.scad_members.specs.Meaning.{statements_meaning, assigned, opened_scope}
use Rattle.scad_members.specs.OpenFrames.{scope_opened}
use Rattle.scad_expr.proofs.OpenFrames.{env_at-last, less-one, round-last, last-frame, last-named}

-- ---- the frames of a scope
module _ (scope : Items) (home : ℕ) (b : Bound) (h : Held) where
  pub env_in-scope : env_in (scope_held scope home b h) ≡ inside (frame b.names (Some scope) no_children)
      (env_at (envs h.frames) home)
  unfolding env_in scope_held
  env_in-scope = env_at-last h.frames (record { names = b.names; parent = Some home; scope = Some scope; kept = None })

  pub along_in-scope : along_in (scope_held scope home b h) ≡ within (along_in h) b.dollars
  unfolding along_in scope_held
  along_in-scope =
      let f : Stored = record { names = b.dollars; parent = last_of h.along; scope = None; kept = None } in
      ap (env_at (envs (h.along ++ f ∷ []))) (less-one h.along f)
      ∙ env_at-last h.along f
      ∙ ap (λ e. within e b.dollars) (round-last h.along)

  pub left-scope : (back : ℕ) → back ≡ h.here → left back (scope_held scope home b h) ≡ h
  unfolding left scope_held
  left-scope back is =
      let f : Stored = record { names = b.names; parent = Some home; scope = Some scope; kept = None } in
      let d : Stored = record { names = b.dollars; parent = last_of h.along; scope = None; kept = None } in
      ap (λ n. left n (scope_held scope home b h)) is
      ∙ ap₂ (λ fs ds. record h { frames = fs; along = ds })
      (take_at h.frames (f ∷ []) _ (sym (less-one h.frames f)))
      (take_at h.along (d ∷ []) _ (sym (less-one h.along d)))

  pub bound_in-scope : bound_in (scope_held scope home b h) ≡ b
  unfolding bound_in scope_held
  bound_in-scope =
      let f : Stored = record { names = b.names; parent = Some home; scope = Some scope; kept = None } in
      let d : Stored = record { names = b.dollars; parent = last_of h.along; scope = None; kept = None } in
      ap₂ (λ x y. record { names = x.names; dollars = y.names }) (last-frame h.frames f) (last-frame h.along d)

  pub set-scope : (name : List ℕ) (d : Datum) → set_in_last name d (scope_held scope home b h) ≡ scope_held scope home
      (set_name name d b) h
  unfolding set_name scope_held
  set-scope name d = by (is_dollar name)
    where
      by : (c : Bool) → (if c then record (scope_held scope home b h) {
        along = with_name_in_last name d
            (scope_held scope home b h).along;
      } else record (scope_held scope home b h) {
        frames = with_name_in_last name
            d (scope_held scope home b h).frames;
      }) ≡ scope_held scope home
          (if c then record b { dollars = with_name name d b.dollars } else record b {
            names = with_name name d b.names;
          }) h
      by true = ap (λ l. record (scope_held scope home b h) { along = l })
          (last-named name d h.along (record {
            names = b.dollars;
            parent = last_of h.along;
            scope = None;
            kept =
                None;
          }))
      by false = ap (λ l. record (scope_held scope home b h) { frames = l })
          (last-named name d h.frames (record { names = b.names; parent = Some home; scope = Some scope; kept = None }))

  pub depth-scope : (scope_held scope home b h).depth ≡ h.depth
  unfolding scope_held
  depth-scope = refl

-- frames that are left keep how deep the machine is
pub depth-left : (back : ℕ) (h o : Held) → left back h ≡ o → h.depth ≡ o.depth
unfolding left
depth-left back h o e = ap (λ (x : Held). x.depth) e

-- ---- frames that are known to be those of a scope
-- frames that were just opened
pub scope-opened : (scope : Items) (home back : ℕ) (h o : Held) → h ≡ scope_held scope home empty o → back ≡ o.here
    → IsScope scope home back h × (bound_in h ≡ empty) × (left back h ≡ o)
scope-opened scope home back h o e is =
    let out : left back h ≡ o = ap (left back) e ∙ left-scope scope home empty o back is in
    let names : bound_in h ≡ empty = ap bound_in e ∙ bound_in-scope scope home empty o in
    (record { is = e ∙ ap₂ (scope_held scope home) (sym names) (sym out) }, names, out)

module _ (scope : Items) (home back : ℕ) (h : Held) (i : IsScope scope home back h) where
  -- a name that is set
  set-is : (name : List ℕ) (d : Datum) (n : Held) → n ≡ set_in_last name d h
      → n ≡ scope_held scope home (set_name name d (bound_in h)) (left back h)
  set-is name d n e = e ∙ ap (set_in_last name d) i.is ∙ set-scope scope home (bound_in h) (left back h) name d

  here-is : back ≡ (left back h).here
  unfolding left
  here-is = refl

  pub set-left : (name : List ℕ) (d : Datum) (n : Held) → n ≡ set_in_last name d h → left back n ≡ left back h
  set-left name d n e = ap (left back) (set-is name d n e) ∙ left-scope scope home (set_name name d (bound_in h))
      (left back h) back here-is

  pub set-bound : (name : List ℕ) (d : Datum) (n : Held) → n ≡ set_in_last name d h
      → bound_in n ≡ set_name name d (bound_in h)
  set-bound name d n e = ap bound_in (set-is name d n e) ∙ bound_in-scope scope home (set_name name d (bound_in h))
      (left back h)

  pub set-kept : (name : List ℕ) (d : Datum) (n : Held) → n ≡ set_in_last name d h → IsScope scope home back n
  set-kept name d n e = record {
    is = set-is name d n e ∙ ap₂ (scope_held scope home) (sym (set-bound name d n e))
        (sym (set-left name d n e));
  }

  pub env-is : env_in h ≡ (scope_opened scope (env_at (envs (left back h).frames) home) (along_in (left back h))
      (bound_in h)).env
  env-is = ap env_in i.is ∙ env_in-scope scope home (bound_in h) (left back h)

  pub along-is : along_in h ≡ (scope_opened scope (env_at (envs (left back h).frames) home) (along_in (left back h))
      (bound_in h)).along
  along-is = ap along_in i.is ∙ along_in-scope scope home (bound_in h) (left back h)

  pub opened-is : opened_in h ≡ scope_opened scope (env_at (envs (left back h).frames) home) (along_in (left back h))
      (bound_in h)
  unfolding opened_in
  opened-is = ap₂ (λ e a. record { env = e; along = a }) env-is along-is

pub open-is : (scope : Items) (home back : ℕ) (h o : Held) → h ≡ scope_held scope home empty o → back ≡ o.here
    → IsScope scope home back h
open-is scope home back h o e is = (scope-opened scope home back h o e is).0

pub open-bound : (scope : Items) (home back : ℕ) (h o : Held) → h ≡ scope_held scope home empty o → back ≡ o.here
    → bound_in h ≡ empty
open-bound scope home back h o e is = (scope-opened scope home back h o e is).1

pub open-left : (scope : Items) (home back : ℕ) (h o : Held) → h ≡ scope_held scope home empty o → back ≡ o.here
    → left back h ≡ o
open-left scope home back h o e is = (scope-opened scope home back h o e is).2

pub ruleset opening = (open-is, open-bound, open-left)

pub ruleset setting = (set-left, set-bound, set-kept, env-is, along-is)

pub depth-same : (back : ℕ) (h o : Held) → left back h ≡ left back o → h.depth ≡ o.depth
unfolding left
depth-same back h o e = ap (λ (x : Held). x.depth) e

pub ruleset depths = (depth-left, depth-same)

-- the frames of a scope whose names are all set
pub opened-all : (scope : Items) (home back : ℕ) (h o : Held) → IsScope scope home back h → left back h ≡ o
    → opened_in h ≡ scope_opened scope (env_at (envs o.frames) home) (along_in o) (bound_in h)
opened-all scope home back h o i same = opened-is scope home back h i ∙ ap
    (λ x. scope_opened scope (env_at (envs x.frames) home) (along_in x) (bound_in h)) same

pub ruleset all_opened = (opened-all, depths)

-- ---- the frames of a scope with its names
module _ (scope : Items) (home back : ℕ) (o h : Held) (out : left back h ≡ o) (s t u : State) (same : s ≡ t) (names : List Binding) (are : names ≡ bindings scope) (none : bound_in h ≡ empty) where
  all-assigned : assigned (below_of o) scope (env_at (envs o.frames) home) (along_in o) (bindings scope) empty s
      ≡ assigned (below_of h) scope (env_at (envs (left back h).frames) home) (along_in (left back h)) names
      (bound_in h) t
  all-assigned =
      ap (λ d. assigned (statements_meaning d) scope (env_at (envs o.frames) home) (along_in o) (bindings scope) empty
      s) (sym (depth-left back h o out))
      ∙ ap (λ p. assigned (below_of h) scope (env_at (envs p.frames) home) (along_in p) (bindings scope) empty s)
      (sym out)
      ∙ ap₂ (λ l b. assigned (below_of h) scope (env_at (envs (left back h).frames) home) (along_in (left back h)) l b
      s) (sym are) (sym none)
      ∙ ap (λ x. assigned (below_of h) scope (env_at (envs (left back h).frames) home) (along_in (left back h)) names
      (bound_in h) x) same

  pub scope-opens : (b : Bound) → assigned (below_of h) scope (env_at (envs (left back h).frames) home)
      (along_in (left back h)) names (bound_in h) t ≡ gives b u → opened_scope (below_of o) scope
      (env_at (envs o.frames) home) (along_in o) s ≡ gives (scope_opened scope (env_at (envs o.frames) home)
      (along_in o) b) u
  unfolding opened_scope
  scope-opens b e = ap (λ q. and_then q (λ b. pure (scope_opened scope (env_at (envs o.frames) home) (along_in o) b)))
      (all-assigned ∙ e)

  pub scope-stops : (x : EvalFault) → assigned (below_of h) scope (env_at (envs (left back h).frames) home)
      (along_in (left back h)) names (bound_in h) t ≡ refuses x u → opened_scope (below_of o) scope
      (env_at (envs o.frames) home) (along_in o) s ≡ refuses x u
  unfolding opened_scope
  scope-stops x e = ap (λ q. and_then q (λ b. pure (scope_opened scope (env_at (envs o.frames) home) (along_in o) b)))
      (all-assigned ∙ e)
