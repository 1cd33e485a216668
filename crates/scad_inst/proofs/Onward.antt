-- What is at work and what follows it, as statements and programs begin.
use Rattle.std.proofs.Common.{◌≡◌, ◌≢◌, ℕ, ◌-◌, Bool, if◌then◌else◌, List, [], length, Vec, Global, sym, ap, ap₂, ◌∙◌}
use Rattle.std.specs.Borrow.{Bor}
use Rattle.scad_fault.specs.declared.place.Place.{Place}
use Rattle.scad_ast.specs.declared.statement.Item.{Item}
use Rattle.scad_ast.specs.Scope.{items}
use Rattle.scad_ast.specs.Tree.{Items, Arguments}
use Rattle.scad_ast.specs.Tree.{Item as TreeItem}
use Rattle.scad_value.specs.Datum.{Datum}
use Rattle.scad_scope.specs.Env.{Env}
use Rattle.scad_tree.specs.Normal.{united}
use Rattle.scad_tree.specs.Solid.{Solid, nothing}
use Rattle.scad_machine.specs.declared.fault.EvalFault.{EvalFault}
use Rattle.scad_expr.specs.Machine.{Held, env_in, along_in}
use Rattle.scad_expr.specs.Meaning.{meaning, values, Opened}
use Rattle.scad_expr.specs.Meaning.{Below as Expressions}
use Rattle.scad_expr.specs.OpenFrames.{left, opened_in}
use Rattle.scad_expr.specs.State.{State, Outcome, gives, refuses, Action, and_then, pure, step, depth_limit}
use Rattle.scad_expr.specs.Variables.{first_env, first_along}
use Rattle.scad_expr.proofs.Loops.{twice}
use Rattle.scad_leaves.specs.declared.operation.Operation.TheVariants.{Unite}
use Rattle.scad_leaves.specs.declared.call.Call.{Call}
use Rattle.scad_leaves.specs.declared.space.Where.{Where}
use Rattle.scad_leaves.specs.Hulls.{hull_made}
use Rattle.scad_leaves.specs.Profiles.{with_its_profiles}
use Rattle.scad_leaves.specs.Where.{at_first}
use Rattle.scad_members.specs.declared.work.Frame.TheVariants.{Mark, Hull, Leave}
use Rattle.scad_members.specs.declared.work.Focus.TheVariants.{Members}
use Rattle.scad_members.specs.Frames.{below_of, with_depth}
use Rattle.scad_members.specs.Meaning.{statements_meaning, statement_layer, node, opened_scope, members_from, members}
use Rattle.scad_members.specs.Meaning.{combined, called_own, program_of}
use Rattle.scad_members.specs.Modules.{Found}
use Rattle.scad_members.specs.Scopes.{item_place, is_marked}
use Rattle.scad_members.specs.Stack.{Rest, onto, listed, ended, goes_on}
use Rattle.scad_inst.specs.Calls.{called_with, own_opened}
use Rattle.scad_inst.proofs.Calls.{own-call}
use Rattle.scad_members.proofs.Levels.{expressions-are, statement-some}
use Rattle.scad_members.proofs.ScopeFrames.{depth-left}

-- ---- a statement
pub statement-begins : (marked : Bool) (depth from : ℕ) (w w2 : Where) (i : TreeItem) (h h1 h2 : Held) (k k2 : Rest)
    (ss ms : List Solid) (s s1 s2 : State) → h.depth ≢ 0 → h1 ≡ with_depth (h.depth - 1) h → s1 ≡ s
    → step (item_place i) s1 ≡ gives (tt {0}) s2 → h2 ≡ h1 → marked ≡ is_marked i → depth ≡ h.depth
    → from ≡ length s2.profiles → k2 ≡ onto (Mark marked depth from) k → ms ≡ ss → w2 ≡ w
    → and_then ((below_of h).statement w (env_in h) (along_in h) i s) (k w h ss)
    ≡ and_then (node (below_of h2) w2 (env_in h2) (along_in h2) i s2) (k2 w2 h2 ms)
unfolding statement_layer onto env_in along_in
statement-begins marked depth from w w2 i h h1 h2 k k2 ss ms s s1 s2 some deeper same stepped kept mark deep count is
    made stands =
    let g : Held = with_depth (h.depth - 1) h in
    let inner : State → Outcome Solid = node (below_of g) w (env_in g) (along_in g) i in
    let ends : Bool → ℕ → Solid → Action Solid = λ b n a. with_its_profiles n (if b then nothing else a) in
    ap (λ (o : Outcome Solid). and_then o (k w h ss)) (statement-some h.depth w (env_in h) (along_in h) i s some)
    ∙ ap (λ (o : Outcome (Unit {0})). and_then (and_then o (λ _ t. and_then (inner t)
    (ends (is_marked i) (length t.profiles)))) (k w h ss)) (ap (step (item_place i)) (sym same) ∙ stepped)
    ∙ twice (inner s2) (ends (is_marked i) (length s2.profiles)) (k w h ss)
    ∙ ap₂ (λ (b : Bool) (d : ℕ). and_then (inner s2) (λ a u. and_then (ends b (length s2.profiles) a u)
    (k w (with_depth d g) ss))) (sym mark) (sym deep)
    ∙ ap (λ (n : ℕ). and_then (inner s2) (λ a u. and_then (ends marked n a u) (k w (with_depth depth g) ss)))
    (sym count)
    ∙ ap (λ (q : Rest). and_then (inner s2) (q w g ss)) (sym is)
    ∙ ap (λ (x : Held). and_then (node (below_of x) w (env_in x) (along_in x) i s2) (k2 w x ss)) (sym (kept ∙ deeper))
    ∙ ap₂ (λ (l : List Solid) (x : Where). and_then (node (below_of h2) x (env_in h2) (along_in h2) i s2) (k2 x h2 l))
    (sym made) (sym stands)

pub statement-stops : (w : Where) (i : TreeItem) (h : Held) (s s1 s2 : State) (e : EvalFault)
    (g : Solid → Action Solid) → h.depth ≢ 0 → s1 ≡ s → step (item_place i) s1 ≡ refuses e s2
    → and_then ((below_of h).statement w (env_in h) (along_in h) i s) g ≡ refuses e s2
unfolding statement_layer
statement-stops w i h s s1 s2 e g some same stopped =
    ap (λ (o : Outcome Solid). and_then o g) (statement-some h.depth w (env_in h) (along_in h) i s some)
    ∙ ap (λ (o : Outcome (Unit {0})). and_then (and_then o (λ _ t. and_then
    (node (statements_meaning (h.depth - 1)) w (env_in h) (along_in h) i t)
    (λ a. with_its_profiles (length t.profiles) (if is_marked i then nothing else a)))) g)
    (ap (step (item_place i)) (sym same) ∙ stopped)

-- ---- frames that have their tree
pub mark-given : (marked : Bool) (depth from : ℕ) (k : Rest) (w : Where) (h h1 h2 : Held) (ss : List Solid)
    (t u : Solid) (s s1 s2 : State) → with_its_profiles from (if marked then nothing else t) s1 ≡ gives u s2 → s1 ≡ s
    → h1 ≡ with_depth depth h → h2 ≡ h1 → onto (Mark marked depth from) k w h ss t s ≡ k w h2 ss u s2
unfolding onto
mark-given marked depth from k w h h1 h2 ss t u s s1 s2 does same deep kept =
    ap (λ (x : State). and_then (with_its_profiles from (if marked then nothing else t) x) (k w (with_depth depth h)
    ss))
    (sym same)
    ∙ ap (λ (o : Outcome Solid). and_then o (k w (with_depth depth h) ss)) does
    ∙ ap (λ (x : Held). k w x ss u s2) (sym (kept ∙ deep))

pub hull-given : (c : Call) (w : Where) (from : ℕ) (k : Rest) (h h2 : Held) (ss : List Solid) (t u : Solid)
    (s s2 : State) → hull_made c.at c.name.now w from t s ≡ gives u s2 → h2 ≡ h
    → onto (Hull c from) k w h ss t s ≡ k w h2 ss u s2
unfolding onto
hull-given c w from k h h2 ss t u s s2 does kept =
    ap (λ (o : Outcome Solid). and_then o (k w h ss)) does ∙ ap (λ (x : Held). k w x ss u s2) (sym kept)

pub hull-refused : (c : Call) (w : Where) (from : ℕ) (k : Rest) (h : Held) (ss : List Solid) (t : Solid)
    (e : EvalFault) (s s2 : State) → hull_made c.at c.name.now w from t s ≡ refuses e s2
    → onto (Hull c from) k w h ss t s ≡ refuses e s2
unfolding onto
hull-refused c w from k h ss t e s s2 does = ap (λ (o : Outcome Solid). and_then o (k w h ss)) does

pub ruleset given_frames = (mark-given, hull-given, hull-refused)

-- ---- a hull
pub hull-begins : (c : Call) (w w2 : Where) (from : ℕ) (h : Held) (k k2 : Rest) (ss ms : List Solid) (s : State)
    (run : Where → Outcome Solid) → from ≡ length s.profiles → k2 ≡ onto (Hull c from) k → ms ≡ ss → w2 ≡ w
    → and_then (and_then (run w) (hull_made c.at c.name.now w (length s.profiles))) (k w h ss)
    ≡ and_then (run w2) (k2 w2 h ms)
unfolding onto
hull-begins c w w2 from h k k2 ss ms s run count is made stands =
    twice (run w) (hull_made c.at c.name.now w (length s.profiles)) (k w h ss)
    ∙ ap (λ (n : ℕ). and_then (run w) (λ t u. and_then (hull_made c.at c.name.now w n t u) (k w h ss))) (sym count)
    ∙ ap₂ (λ (q : Rest) (l : List Solid). and_then (run w) (q w h l)) (sym is) (sym made)
    ∙ ap (λ (x : Where). and_then (run x) (k2 x h ms)) (sym stands)

-- ---- calls of modules of the program
pub own-begins : (at : Place) (w w2 : Where) (m : Found) (args : Arguments) (found : List Datum) (all : Items)
    (back : ℕ) (h h2 h3 : Held) (k k2 : Rest) (ss ms : List Solid) (s s2 s3 : State)
    → values (meaning h.depth) (env_in h) (along_in h) args [] s ≡ gives found s2 → h2 ≡ h
    → own_opened (below_of h2) (env_in h2) (along_in h2) m args found all s2 ≡ gives (opened_in h3) s3
    → left back h3 ≡ h2 → k2 ≡ onto (Leave back) k → ms ≡ ss → w2 ≡ w
    → and_then (called_with (below_of h) at w (env_in h) (along_in h) m args all s) (k w h ss)
    ≡ and_then (combined (below_of h3) Unite at w2 m.definition.body (env_in h3) (along_in h3) s3) (k2 w2 h3 ms)
unfolding called_with onto opened_in
own-begins at w w2 m args found all back h h2 h3 k k2 ss ms s s2 s3 vals kept opened is_left is made stands =
    let below = below_of h in
    let body = combined below Unite at w m.definition.body (env_in h3) (along_in h3) s3 in
    ap (λ (e : Expressions). and_then (and_then (values e (env_in h) (along_in h) args [] s)
    (λ f. called_own below at w (env_in h) (along_in h) m args f all)) (k w h ss)) (expressions-are h.depth)
    ∙ ap (λ (o : Outcome (List Datum)). and_then (and_then o
    (λ f. called_own below at w (env_in h) (along_in h) m args f all)) (k w h ss)) vals
    ∙ ap (λ (o : Outcome Solid). and_then o (k w h ss)) (own-call below at w (env_in h) (along_in h) m args found all
    s2)
    ∙ ap (λ (x : Held). and_then (and_then (own_opened (below_of x) (env_in x) (along_in x) m args found all s2)
    (λ o. combined below Unite at w m.definition.body o.env o.along)) (k w h ss)) (sym kept)
    ∙ ap (λ (o : Outcome Opened). and_then (and_then o
    (λ x. combined below Unite at w m.definition.body x.env x.along)) (k w h ss)) opened
    ∙ ap₂ (λ (x : Held) (os : List Solid). and_then body (k w x os)) (sym (is_left ∙ kept)) (sym made)
    ∙ ap (λ (q : Rest). and_then body (q w h3 ms)) (sym is)
    ∙ ap₂ (λ (d : ℕ) (x : Where). and_then (combined (statements_meaning d) Unite at x m.definition.body (env_in h3)
    (along_in h3) s3) (k2 x h3 ms)) (sym (depth-left back h3 h2 is_left ∙ ap (λ (x : Held). x.depth) kept)) (sym stands)

-- ---- a program
module _ (scope : Bor (Vec Item Global)) (h : Held) (s : State) (env : env_in h ≡ first_env)
    (along : along_in h ≡ first_along) (deep : h.depth ≡ depth_limit) where
  abbrev opens : Outcome Opened
  opens = opened_scope (below_of h) (items scope.now.items) (env_in h) (along_in h) s

  program-opens : program_of (items scope.now.items) s
      ≡ and_then (and_then opens (λ o. members_from (statements_meaning depth_limit) at_first o.env o.along
      (items scope.now.items) [])) (λ ss. pure (united ss))
  unfolding program_of members
  program-opens =
      ap (λ (d : ℕ). and_then (and_then (opened_scope (statements_meaning d) (items scope.now.items) first_env
      first_along s) (λ o. members_from (statements_meaning depth_limit) at_first o.env o.along (items scope.now.items)
      [])) (λ ss. pure (united ss))) (sym deep)
      ∙ ap₂ (λ (e a : Env). and_then (and_then (opened_scope (below_of h) (items scope.now.items) e a s)
      (λ o. members_from (statements_meaning depth_limit) at_first o.env o.along (items scope.now.items) []))
      (λ ss. pure (united ss))) (sym env) (sym along)

  pub program-begins : (w : Where) (k : Rest) (h2 : Held) (ms : List Solid) (s2 : State)
      → opens ≡ gives (opened_in h2) s2 → h2.depth ≡ h.depth → k ≡ ended → ms ≡ [] → w ≡ at_first
      → program_of (items scope.now.items) s ≡ goes_on (Members scope 0) k w h2 ms s2
  unfolding goes_on opened_in
  program-begins w k h2 ms s2 opened same is none first =
      program-opens
      ∙ ap (λ (x : Outcome Opened). and_then (and_then x (λ o. members_from (statements_meaning depth_limit) at_first
      o.env o.along (items scope.now.items) [])) (λ ss. pure (united ss))) opened
      ∙ ap (λ (d : ℕ). and_then (members_from (statements_meaning d) at_first (env_in h2) (along_in h2)
      (items scope.now.items) [] s2) (listed ended at_first h2)) (sym (same ∙ deep))
      ∙ ap₂ (λ (x : Where) (l : List Solid). and_then (members_from (below_of h2) x (env_in h2) (along_in h2)
      (items scope.now.items) l s2) (listed ended x h2)) (sym first) (sym none)
      ∙ ap (λ (q : Rest). and_then (members_from (below_of h2) w (env_in h2) (along_in h2) (items scope.now.items) ms
      s2) (listed q w h2)) (sym is)

  pub program-stops : (e : EvalFault) (s2 : State) → opens ≡ refuses e s2
      → program_of (items scope.now.items) s ≡ refuses e s2
  program-stops e s2 stopped =
      program-opens
      ∙ ap (λ (x : Outcome Opened). and_then (and_then x (λ o. members_from (statements_meaning depth_limit) at_first
      o.env o.along (items scope.now.items) [])) (λ ss. pure (united ss))) stopped

pub ruleset nodes = (twice)
