-- One more turn of a loop that goes over a list, and the end of it, in terms of what the whole list gives.
use Rattle.std.proofs.Common.{◌≡◌, ℕ, ◌+◌, ◌<◌, ◌≤◌, Bool, true, false, not, List, [], ◌∷◌, ◌++◌, length, get_or, drop, map, Option, Some, None, if◌then◌else◌, refl, sym, ap, ap₂, ◌∙◌}
use Rattle.scad_ast.specs.declared.expression.Arg.{Arg}
use Rattle.scad_ast.specs.Tree.{Expression, Arguments, argument, Parameter}
use Rattle.scad_ast.specs.View.{expression_of, arguments}
use Rattle.scad_value.specs.Datum.{Datum}
use Rattle.scad_scope.specs.Names.{Names}
use Rattle.scad_scope.specs.Env.{Env}
use Rattle.scad_machine.specs.declared.fault.EvalFault.{EvalFault}
use Rattle.scad_machine.specs.State.{State, Outcome, gives, refuses, Action, and_then, pure, ◌>>=◌}
use Rattle.scad_machine.specs.Variables.{Bound, set, empty, within}
use Rattle.scad_machine.specs.Machine.{Held, env_in, along_in}
use Rattle.scad_machine.specs.Arguments.{is_given, given, set_all}
use Rattle.scad_stack.specs.Pieces.{bind_one, defaulted}
use Rattle.scad_stack.specs.Meaning.{Below, values, default_value, defaults, bound, bound_in_order}
use Rattle.scad_ast.specs.declared.statement.Param.{Param}
use Rattle.scad_ast.specs.Scope.{parameter}
use Rattle.scad_scope.specs.FrameStore.{StoredChildren, env_at, envs}
use Rattle.scad_machine.specs.Parameters.{missing, parameter_names}
use Rattle.scad_machine.specs.OpenFrames.{opened, set_in_last, bound_in}
use Rattle.scad_value.proofs.Lists.{arguments-drop, arguments-drop_all}
use Rattle.scad_machine.proofs.Giving.{names-parameters}
pub use Rattle.scad_machine.proofs.Giving.{nothing-left}
use Rattle.scad_machine.proofs.OpenFrames.{call-home, call-along, call-set, opened-bound, opened-again}

-- ---- what follows an outcome
pub goes : {A B : Type 0} (o : Outcome A) (f : A → Action B) (a : A) (s : State) → o ≡ gives a s
    → and_then o f ≡ f a s
goes o f a s e = ap (λ p. and_then p f) e

pub stops : {A B : Type 0} (o : Outcome A) (f : A → Action B) (e : EvalFault) (s : State) → o ≡ refuses e s
    → and_then o f ≡ refuses e s
stops o f e s is = ap (λ p. and_then p f) is

pub same-then : {A B : Type 0} (o : Outcome A) (f g : A → Action B) → ((a : A) (s : State) → f a s ≡ g a s)
    → and_then o f ≡ and_then o g
same-then (gives a s) f g h = h a s
same-then (refuses e s) f g h = refl

pub twice : {A B C : Type 0} (o : Outcome A) (f : A → Action B) (g : B → Action C) → and_then (and_then o f) g
    ≡ and_then o (λ a s. and_then (f a s) g)
twice (gives a s) f g = refl
twice (refuses e s) f g = refl

-- ---- arguments
module _ (below : Below) (all : List Arg) (i : ℕ) (a : Arg) (there : i < length all) (is : a ≡ get_or all i a) (h h0 : Held) (same : h ≡ h0) (so_far : List Datum) (s : State) (w : Outcome (List Datum)) (left : values below (env_in h0) (along_in h0) (arguments (drop i all)) so_far s ≡ w) where
  value-next : w ≡ and_then (below.value (env_in h) (along_in h) (expression_of a.value) s)
      (λ d. values below (env_in h0) (along_in h0) (arguments (drop (i + 1) all)) (so_far ++ d ∷ []))
  unfolding values
  value-next =
      sym left ∙ ap (λ args. values below (env_in h0) (along_in h0) args so_far s) (arguments-drop all i a there is)
      ∙ ap (λ g. and_then (below.value (env_in g) (along_in g) (expression_of a.value) s)
      (λ d. values below (env_in h0) (along_in h0) (arguments (drop (i + 1) all)) (so_far ++ d ∷ []))) (sym same)

  pub value-goes : (d : Datum) (s2 : State) → below.value (env_in h) (along_in h) (expression_of a.value) s
      ≡ gives d s2
      → values below (env_in h0) (along_in h0) (arguments (drop (i + 1) all)) (so_far ++ d ∷ []) s2 ≡ w
  value-goes d s2 e = sym (value-next ∙ goes _ _ d s2 e)

  pub value-stops : (f : EvalFault) (s2 : State) → below.value (env_in h) (along_in h) (expression_of a.value) s
      ≡ refuses f s2 → w ≡ refuses f s2
  value-stops f s2 e = value-next ∙ stops _ _ f s2 e

pub values-end : (below : Below) (env along : Env) (all : List Arg) (i : ℕ) (so_far : List Datum) (s : State)
    → length all ≤ i → values below env along (arguments (drop i all)) so_far s ≡ gives so_far s
unfolding values
values-end below env along all i so_far s past = ap (λ args. values below env along args so_far s)
    (arguments-drop_all all i past)

-- ---- names
bound-next : (below : Below) (env along : Env) (word : Option (List ℕ)) (e : Expression) (more : Arguments)
    (b : Bound)
    (s : State) → bound_in_order below env along (argument word e more) b s
    ≡ and_then (bind_one below env along word e b s) (λ next. bound_in_order below env along more next)
unfolding bound_in_order bind_one
bound-next below env along None e more b s = refl
bound-next below env along (Some name) e more b s =
    sym (twice (below.value (within env b.names) (within along b.dollars) e s) (λ d. pure (set name d b))
    (λ next. bound_in_order below env along more next))

module _ (below : Below) (all : List Arg) (i : ℕ) (a : Arg) (there : i < length all) (is : a ≡ get_or all i a) (o o0 : Held) (same : o ≡ o0) (b : Bound) (s : State) (w : Outcome Bound) (left : bound_in_order below (env_in o0) (along_in o0) (arguments (drop i all)) b s ≡ w) where
  name-next : w ≡ and_then (bind_one below (env_in o) (along_in o) a.name (expression_of a.value) b s)
      (λ next. bound_in_order below (env_in o0) (along_in o0) (arguments (drop (i + 1) all)) next)
  name-next =
      sym left ∙ ap (λ args. bound_in_order below (env_in o0) (along_in o0) args b s)
      (arguments-drop all i a there is)
      ∙ bound-next below (env_in o0) (along_in o0) a.name (expression_of a.value) (arguments (drop (i + 1) all)) b s
      ∙ ap (λ g. and_then (bind_one below (env_in g) (along_in g) a.name (expression_of a.value) b s)
      (λ next. bound_in_order below (env_in o0) (along_in o0) (arguments (drop (i + 1) all)) next)) (sym same)

  pub name-goes : (next : Bound) (s2 : State)
      → bind_one below (env_in o) (along_in o) a.name (expression_of a.value) b
      s ≡ gives next s2 → bound_in_order below (env_in o0) (along_in o0) (arguments (drop (i + 1) all)) next s2
      ≡ w
  name-goes next s2 e = sym (name-next ∙ goes _ _ next s2 e)

  pub name-stops : (f : EvalFault) (s2 : State)
      → bind_one below (env_in o) (along_in o) a.name (expression_of a.value)
      b s ≡ refuses f s2 → w ≡ refuses f s2
  name-stops f s2 e = name-next ∙ stops _ _ f s2 e

pub names-end : (below : Below) (env along : Env) (all : List Arg) (i : ℕ) (b : Bound) (s : State)
    → length all ≤ i → bound_in_order below env along (arguments (drop i all)) b s ≡ gives b s
unfolding bound_in_order
names-end below env along all i b s past = ap (λ args. bound_in_order below env along args b s)
    (arguments-drop_all all i past)

-- ---- defaults
pub defaults-missing : (below : Below) (home along : Env) (got : Names) (all : List Parameter) (b : Bound) (s : State)
    → defaults below home along got all b s ≡ defaulted below home along (missing got all) b s
unfolding defaults defaulted
defaults-missing below home along got [] b s = refl
defaults-missing below home along got (p ∷ all) b s = by (defaults-missing below home along got all)
    (is_given p.name got)
  where
    by : ((c : Bound) (t : State) → defaults below home along got all c t
        ≡ defaulted below home along (missing got all)
        c t) → (c : Bool) → (if c then defaults below home along got all b else
        (default_value below home (within along b.dollars) p.default >>= λ d. defaults below home along got all
        (set p.name d b))) s ≡ defaulted below home along (if not c then p ∷ missing got all else missing got all) b
        s
    by more true = more b s
    by more false = same-then (default_value below home (within along b.dollars) p.default s) _ _
        (λ d s2. more (set p.name d b) s2)

module _ (below : Below) (home along : Env) (p : Parameter) (all more : List Parameter) (is : all ≡ p ∷ more) (b : Bound) (s : State) (w : Outcome Bound) (left : defaulted below home along all b s ≡ w) where
  defaulted-next : w ≡ and_then (default_value below home (within along b.dollars) p.default s)
      (λ d. defaulted below home along more (set p.name d b))
  unfolding defaulted
  defaulted-next = sym left ∙ ap (λ l. defaulted below home along l b s) is

  pub default-goes : (d : Datum) (s2 : State) → default_value below home (within along b.dollars) p.default s
      ≡ gives d s2 → defaulted below home along more (set p.name d b) s2 ≡ w
  default-goes d s2 e = sym (defaulted-next ∙ goes _ _ d s2 e)

  pub default-stops : (f : EvalFault) (s2 : State) → default_value below home (within along b.dollars) p.default s
      ≡ refuses f s2 → w ≡ refuses f s2
  default-stops f s2 e = defaulted-next ∙ stops _ _ f s2 e

module _ (below : Below) (kept : Option StoredChildren) (home : ℕ) (o : Held) (there : home < length o.frames) (h : Held) (was : h ≡ opened kept home home (bound_in h) o) (p : Parameter) (all more : List Parameter) (is : all ≡ p ∷ more) (s : State) (w : Outcome Bound) (left : defaulted below (env_at (envs o.frames) home) (along_in o) all (bound_in h) s ≡ w) where
  there_default : default_value below (env_in h) (along_in h) p.default s ≡ default_value below
      (env_at (envs o.frames) home) (within (along_in o) (bound_in h).dollars) p.default s
  there_default = ap₂ (λ x y. default_value below x y p.default s) (call-home kept home h o was there)
      (call-along kept home home h o was)

  pub call-stops : (f : EvalFault) (s2 : State)
      → default_value below (env_in h) (along_in h) p.default s ≡ refuses f s2 → w ≡ refuses f s2
  call-stops f s2 e = default-stops below (env_at (envs o.frames) home) (along_in o) p all more is (bound_in h) s w left
      f s2 (sym there_default ∙ e)

  module _ (d : Datum) (s2 s3 : State) (e : default_value below (env_in h) (along_in h) p.default s ≡ gives d s2) (h2 n : Held) (same : h2 ≡ h) (name : List ℕ) (named : name ≡ p.name) (made : n ≡ set_in_last name d h2) (done : s2 ≡ s3) where
    opened_next : n ≡ opened kept home home (set p.name d (bound_in h)) o
    opened_next =
        call-set kept home home name d h n o was (made ∙ ap (set_in_last name d) same)
        ∙ ap (λ x. opened kept home home (set x d (bound_in h)) o) named

    pub call-opened : n ≡ opened kept home home (bound_in n) o
    call-opened = opened-again kept home home (set p.name d (bound_in h)) n o opened_next

    pub call-goes : defaulted below (env_at (envs o.frames) home) (along_in o) more (bound_in n) s3 ≡ w
    call-goes =
        ap₂ (λ b t. defaulted below (env_at (envs o.frames) home) (along_in o) more b t)
        (opened-bound kept home home (set p.name d (bound_in h)) n o opened_next) (sym done)
        ∙ default-goes below (env_at (envs o.frames) home) (along_in o) p all more is (bound_in h) s w left d s2
        (sym there_default ∙ e)

-- a call's names before its defaults
pub call-begins : (below : Below) (home along : Env) (params : List Param) (args : Arguments) (found : List Datum)
    (rest : List Parameter) (b : Bound) (s t : State) → rest ≡ missing (given (parameter_names params) args found)
    (map parameter params) → b ≡ set_all (given (parameter_names params) args found) empty → s ≡ t
    → defaulted below home along rest b t ≡ bound below home along (map parameter params) args found s
unfolding bound
call-begins below home along params args found rest b s t is names done =
    ap₂ (λ l c. defaulted below home along l c t) is names
    ∙ ap (λ u. defaulted below home along
    (missing (given (parameter_names params) args found) (map parameter params))
    (set_all (given (parameter_names params) args found) empty) u) (sym done)
    ∙ sym (defaults-missing below home along (given (parameter_names params) args found) (map parameter params)
    (set_all (given (parameter_names params) args found) empty) s)
    ∙ ap (λ names. defaults below home along (given names args found) (map parameter params)
    (set_all (given names args found) empty) s) (sym (names-parameters params))

-- the state after what was done
pub same-state : {A : Type 0} (a b : A) (s t : State) → gives a s ≡ gives b t → s ≡ t
same-state a b s t e = cc

pub defaulted-end : (below : Below) (home along : Env) (all : List Parameter) (b : Bound) (s : State) → all ≡ []
    → defaulted below home along all b s ≡ gives b s
unfolding defaulted
defaulted-end below home along all b s none = ap (λ l. defaulted below home along l b s) none
