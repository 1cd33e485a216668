-- Functions and modules in memory, and the environments where their definitions stand.
use Rattle.std.proofs.Common.{◌≡◌, ℕ, ◌+◌, ◌<◌, ◌≤◌, List, length, take, drop, get_or, Option, Some, None, option_map, Vec, Global, refl, sym, ap, ◌∙◌, arith}
use Rattle.std.proofs.lemmas.List.{drop_more, drop_all, get_or_past, get_or_default}
use Rattle.scad_fault.specs.declared.place.Place.{Place}
use Rattle.scad_ast.specs.declared.statement.Param.{Param}
use Rattle.scad_ast.specs.declared.statement.Item.{Item, Module, Run}
use Rattle.scad_ast.specs.declared.statement.Stmt.{Stmt}
use Rattle.scad_ast.specs.declared.statement.StmtBody.{StmtBody, Call', If'}
use Rattle.scad_ast.specs.Tree.{no_items, entry}
use Rattle.scad_ast.specs.Tree.{Item as TreeItem}
use Rattle.scad_ast.specs.Scope.{item_of, body_of, items}
use Rattle.scad_ast.proofs.ScopeRows.{module_view}
use Rattle.scad_scope.specs.Definitions.{item_in}
use Rattle.scad_scope.specs.Env.{outside, or_else}
use Rattle.scad_scope.specs.FrameStore.{Stored, pushed, stored_at, env_at, env_round, env_of, envs}
use Rattle.scad_scope.proofs.Outwards.{env_at-number, length-envs, round-before, round-past}
use Rattle.scad_machine.specs.Functions.{function_by}
use Rattle.scad_machine.specs.Lookup.{stands_in, item_named}

-- ---- what items define
pub not_module : (word : List ℕ) (params : Vec Param Global) (scope : Vec Item Global) (at : Place)
    → function_by (item_of (Module word params scope at)) ≡ None
not_module word params scope at = ap function_by (module_view word params scope at)

pub not_statement : (s : Stmt) → function_by (item_of (Run s)) ≡ None
not_statement s = by s.body
  where
    by : (b : StmtBody) → function_by (body_of s.at s.percent s.hash b) ≡ None
    by (Call' word args shape all) = refl
    by (If' test shape held more other) = refl

pub ruleset others = (not_module, not_statement)

-- ---- the items that are left in a loop
pub items-drop : (all : List Item) (i : ℕ) (v : Item) → i < length all → v ≡ get_or all i v
    → items (drop i all) ≡ entry (item_of v) (items (drop (i + 1) all))
items-drop all i v below is = ap items (drop_more all i v below) ∙ ap
    (λ w. entry (item_of w) (items (drop (i + 1) all))) (sym is)

pub items-drop_all : (all : List Item) (i : ℕ) → length all ≤ i → items (drop i all) ≡ no_items
items-drop_all all i past = ap items (drop_all i all past)

pub ruleset left = (items-drop, items-drop_all)

-- ---- from a frame outwards
module _ (word_of : TreeItem → Option (List ℕ)) (name : List ℕ) (all : List Stored) (n : ℕ) where
  -- no frame has the number
  pub item-past : length all ≤ n → item_named word_of name (env_at (envs all) n) ≡ None
  unfolding item_named
  item-past past = ap (item_named word_of name) (get_or_past (envs all) n outside (let many = length-envs all in omega (arith, many)))

pub at_number : (all : List Stored) (n : ℕ) → n < length all
    → env_at (envs all) n ≡ env_of (take n (envs all)) (stored_at all n)
at_number all n below = env_at-number all n (stored_at all n) below (get_or_default all n (pushed None None None)
    (stored_at all n) below)

module _ (word_of : TreeItem → Option (List ℕ)) (name : List ℕ) (all : List Stored) (n : ℕ) (below : n < length all) where
  -- the frame's scope has such an item
  pub item-there : (i : TreeItem) → item_in word_of name (stored_at all n).scope ≡ Some i
      → item_named word_of name (env_at (envs all) n) ≡ Some (record { item = i; home = env_at (envs all) n })
  unfolding item_named
  item-there i found =
      ap (item_named word_of name) (at_number all n below)
      ∙ ap (λ o. or_else (option_map (stands_in (env_of (take n (envs all)) (stored_at all n))) o)
      (item_named word_of name (env_round (take n (envs all)) (stored_at all n).parent))) found
      ∙ ap (λ env. Some (stands_in env i)) (sym (at_number all n below))

  -- it has none
  module _ (none : item_in word_of name (stored_at all n).scope ≡ None) where
    round : item_named word_of name (env_at (envs all) n)
        ≡ item_named word_of name (env_round (take n (envs all)) (stored_at all n).parent)
    unfolding item_named
    round =
        ap (item_named word_of name) (at_number all n below)
        ∙ ap (λ o. or_else (option_map (stands_in (env_of (take n (envs all)) (stored_at all n))) o)
        (item_named word_of name (env_round (take n (envs all)) (stored_at all n).parent))) none

    pub item-round : (p : ℕ) → (stored_at all n).parent ≡ Some p → p < n
        → item_named word_of name (env_at (envs all) n) ≡ item_named word_of name (env_at (envs all) p)
    item-round p is less = round ∙ ap (item_named word_of name)
        (round-before (envs all) (stored_at all n).parent n p is less)

    pub item-round_past : (p : ℕ) → (stored_at all n).parent ≡ Some p → n ≤ p
        → item_named word_of name (env_at (envs all) n) ≡ None
    unfolding item_named
    item-round_past p is past = round ∙ ap (item_named word_of name)
        (round-past (envs all) (stored_at all n).parent n p is past)

    pub item-outermost : (stored_at all n).parent ≡ None → item_named word_of name (env_at (envs all) n) ≡ None
    unfolding item_named
    item-outermost is = round ∙ ap (λ p. item_named word_of name (env_round (take n (envs all)) p)) is

pub ruleset homes = (item-past, item-there, item-round, item-round_past, item-outermost)
