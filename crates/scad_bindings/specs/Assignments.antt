-- The variables of a scope (OpenSCAD User Manual, "Variables", "Scope of variables"): in one scope the last assignment to a
-- name gives its value.
use Rattle.std.specs.Prelude.{ℕ, ◌+◌, Bool, not, List, [], ◌∷◌, filter, map, Option, Some, None, if◌then◌else◌}
use Rattle.scad_ast.specs.Tree.{Item, assignment, Items, no_items, entry}
use Rattle.scad_bindings.specs.declared.binding.Binding.{Binding}
use Rattle.scad_bindings.specs.Names.{is_same_name}

-- the name that an item assigns, where it is an assignment
abbrev pub assigned : Item → Option (List ℕ)
assigned (assignment at name e) = Some name
assigned _ = None

-- of each item of a scope the name that it assigns
abbrev pub assigned_by : Items → List (Option (List ℕ))
assigned_by no_items = []
assigned_by (entry i more) = assigned i ∷ assigned_by more

abbrev pub differs_from : List ℕ → List ℕ → Bool
differs_from name other = not (is_same_name name other)

-- the names in the order of their first assignments: behind the name of an assignment stand those of the later ones that
-- differ from it
abbrev pub first_assigned : List (Option (List ℕ)) → List (List ℕ)
first_assigned [] = []
first_assigned (None ∷ more) = first_assigned more
first_assigned (Some name ∷ more) = name ∷ filter (differs_from name) (first_assigned more)

-- the place of the last assignment to a name, where the items begin at the place i; `before` where there is none
abbrev pub last_place : List ℕ → ℕ → ℕ → List (Option (List ℕ)) → ℕ
last_place name before i [] = before
last_place name before i (None ∷ more) = last_place name before (i + 1) more
last_place name before i (Some other ∷ more) = last_place name (if is_same_name name other then i else before) (i + 1) more

-- a name with the place of its last assignment
abbrev pub binding : List (Option (List ℕ)) → List ℕ → Binding
binding all name = record { name = name; item = last_place name 0 0 all }

-- the names assigned in a scope, in the order of their first assignments, each with the place of the item that assigns it last
abbrev pub bindings : Items → List Binding
bindings scope = map (binding (assigned_by scope)) (first_assigned (assigned_by scope))
