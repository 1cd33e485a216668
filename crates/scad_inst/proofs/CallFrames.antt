-- The frames of calls of modules.
use Rattle.std.proofs.Common.{◌≡◌, ℕ, ◌+◌, ◌<◌, ◌≤◌, List, [], ◌∷◌, Option, Some, None, length, get_or, drop, refl, sym, ap, ap₂, ◌∙◌}
use Rattle.scad_ast.specs.declared.expression.Arg.{Arg}
use Rattle.scad_ast.specs.Tree.{Arguments, no_arguments, argument, Expression, Items}
use Rattle.scad_ast.specs.View.{expression_of, arguments}
use Rattle.scad_value.specs.Datum.{Datum}
use Rattle.scad_value.specs.View.{datum_of, data_of}
use Rattle.scad_value.specs.declared.value.Value.{Value}
use Rattle.scad_scope.specs.Env.{Env, children}
use Rattle.scad_scope.specs.FrameStore.{StoredChildren}
use Rattle.scad_expr.specs.Machine.{Held}
use Rattle.scad_expr.specs.Meaning.{Below as Expressions, Opened, bound, bind}
use Rattle.scad_expr.specs.OpenFrames.{opened, bound_in, left, outer}
use Rattle.scad_expr.specs.State.{State, Outcome, gives, and_then}
use Rattle.scad_expr.specs.Variables.{Bound}
use Rattle.scad_value.proofs.Lists.{arguments-drop, arguments-drop_all, data-drop, data-drop_all}
use Rattle.scad_expr.proofs.OpenFrames.{call-left}
use Rattle.scad_members.specs.Meaning.{statements_meaning}
use Rattle.scad_members.specs.Modules.{Found}
use Rattle.scad_members.specs.OpenFrames.{call_opened, dollars_of}
use Rattle.scad_inst.specs.Calls.{own_opened}
use Rattle.scad_members.proofs.Levels.{expressions-are}

-- ---- a module of the program
-- its frames are those that `bind` opens, with the children kept
pub own-binds : (d : ℕ) (env along : Env) (m : Found) (args : Arguments) (found : List Datum) (all : Items) (s : State)
    → own_opened (statements_meaning d) env along m args found all s ≡ bind d m.home along m.definition.parameters args
    found (children all env) s
unfolding own_opened
own-binds d env along m args found all s =
    ap (λ (e : Expressions). and_then (bound e m.home along m.definition.parameters args found s)
    (λ b t. gives (call_opened m.home along all env b) t)) (expressions-are d)

pub own-does : (d : ℕ) (env env0 along : Env) (m : Found) (args : Arguments) (found : List Datum) (all : Items)
    (s : State) (o : Outcome Opened) → env0 ≡ env → bind d m.home along m.definition.parameters args found
    (children all env0) s ≡ o → own_opened (statements_meaning d) env along m args found all s ≡ o
own-does d env env0 along m args found all s o same e =
    own-binds d env along m args found all s
    ∙ ap (λ v. bind d m.home along m.definition.parameters args found (children all v) s) (sym same)
    ∙ e

pub own-depth : (kept : Option StoredChildren) (here home : ℕ) (h o : Held) → h ≡ opened kept here home (bound_in h) o
    → h.depth ≡ o.depth
unfolding opened
own-depth kept here home h o e = ap (λ (x : Held). x.depth) e

pub ruleset own = (own-does, own-depth, call-left)

-- ---- a module of the language
-- no argument is left
pub dollars-none : (args : List Arg) (i : ℕ) (found : List Datum) (b whole : Bound)
    → dollars_of (arguments (drop i args)) found b ≡ whole → length args ≤ i → b ≡ whole
unfolding dollars_of
dollars-none args i found b whole e past = sym (ap (λ a. dollars_of a found b) (arguments-drop_all args i past)) ∙ e

no-values : (args : Arguments) (b : Bound) → dollars_of args [] b ≡ b
unfolding dollars_of
no-values no_arguments b = refl
no-values (argument word e more) b = refl

-- no value is left
pub dollars-end : (args : Arguments) (found : List Value) (k : ℕ) (b whole : Bound)
    → dollars_of args (data_of (drop k found)) b ≡ whole → length found ≤ k → b ≡ whole
dollars-end args found k b whole e past =
    sym (ap (λ l. dollars_of args l b) (data-drop_all found k past) ∙ no-values args b) ∙ e

one-more : (word : Option (List ℕ)) (e : Expression) (d : Datum) (more : Arguments) (found : List Datum) (b : Bound)
    → dollars_of (argument word e more) (d ∷ found) b ≡ dollars_of more found (dollars_of (argument word e no_arguments)
    (d ∷ []) b)
unfolding dollars_of
one-more None e d more found b = refl
one-more (Some name) e d more found b = refl

-- the next argument with its value
pub dollars-next : (args : List Arg) (found : List Value) (i k : ℕ) (a : Arg) (v : Value) (b n whole : Bound)
    → dollars_of (arguments (drop i args)) (data_of (drop k found)) b ≡ whole
    → n ≡ dollars_of (argument a.name (expression_of a.value) no_arguments) (datum_of v ∷ []) b → i < length args
    → a ≡ get_or args i a → k < length found → v ≡ get_or found k v → dollars_of (arguments (drop (i + 1) args))
    (data_of (drop (k + 1) found)) n ≡ whole
dollars-next args found i k a v b n whole e made below is there value =
    ap (dollars_of (arguments (drop (i + 1) args)) (data_of (drop (k + 1) found))) made
    ∙ sym (ap₂ (λ x l. dollars_of x l b) (arguments-drop args i a below is) (data-drop found k v there value)
    ∙ one-more a.name (expression_of a.value) (datum_of v) (arguments (drop (i + 1) args))
    (data_of (drop (k + 1) found)) b)
    ∙ e

pub outer-depth : (h n o : Held) → outer n ≡ outer h → outer h ≡ o → n.depth ≡ o.depth
unfolding outer left
outer-depth h n o same e = ap (λ (x : Held). x.depth) (same ∙ e)
