-- The items of a scope are those of the list that holds them.
use Rattle.std.proofs.Common.{◌≡◌, ℕ, ◌+◌, ◌<◌, ◌≤◌, List, [], ◌∷◌, Option, length, get_or, drop, ap, ◌∙◌, sym}
use Rattle.std.proofs.lemmas.List.{drop_more, drop_all}
use Rattle.scad_ast.specs.declared.statement.Item.{Item}
use Rattle.scad_ast.specs.Scope.{item_of, items}
use Rattle.scad_ast.specs.Tree.{no_items, entry}
use Rattle.scad_bindings.specs.Assignments.{assigned, assigned_by}

-- what the items of a list assign
abbrev pub assigned_in : List Item → List (Option (List ℕ))
assigned_in all = assigned_by (items all)

-- the next item of what is left
pub assigned-drop : (all : List Item) (i : ℕ) (v : Item) → i < length all → v ≡ get_or all i v
    → assigned_in (drop i all) ≡ assigned (item_of v) ∷ assigned_in (drop (i + 1) all)
assigned-drop all i v below is = ap assigned_in (drop_more all i v below) ∙ ap (λ w. assigned (item_of w) ∷ assigned_in
    (drop (i + 1) all)) (sym is)

pub assigned-drop_all : (all : List Item) (i : ℕ) → length all ≤ i → assigned_in (drop i all) ≡ []
assigned-drop_all all i past = ap assigned_in (drop_all i all past)

pub ruleset left = (assigned-drop, assigned-drop_all)

-- ---- the items that are left in a loop
pub items-drop : (all : List Item) (i : ℕ) (v : Item) → i < length all → v ≡ get_or all i v → items (drop i all)
    ≡ entry (item_of v) (items (drop (i + 1) all))
items-drop all i v below is = ap items (drop_more all i v below) ∙ ap
    (λ w. entry (item_of w) (items (drop (i + 1) all))) (sym is)

pub items-drop_all : (all : List Item) (i : ℕ) → length all ≤ i → items (drop i all) ≡ no_items
items-drop_all all i past = ap items (drop_all i all past)

pub ruleset rest = (items-drop, items-drop_all)
