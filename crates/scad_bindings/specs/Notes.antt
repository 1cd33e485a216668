-- Names noted one by one, each with the place of its last assignment so far.
use Rattle.std.specs.Prelude.{ℕ, ◌+◌, List, [], ◌∷◌, Option, Some, None, if◌then◌else◌}
use Rattle.std.specs.Borrow.{Bor}
use Rattle.scad_bindings.specs.declared.binding.Binding.{Binding}
use Rattle.scad_bindings.specs.Names.{is_same_name}

-- each name with a place
abbrev pub Places : Type 0
Places = List (List ℕ × ℕ)

-- a name that is there takes the place, another one goes last with it
abbrev pub with_place : List ℕ → ℕ → Places → Places
with_place name i [] = (name, i) ∷ []
with_place name i (p ∷ more) = if is_same_name name p.0 then (p.0, i) ∷ more else p ∷ with_place name i more

-- the item at a place is noted
abbrev pub noted : Places → ℕ → Option (List ℕ) → Places
noted so_far i None = so_far
noted so_far i (Some name) = with_place name i so_far

-- items from a place on are noted
abbrev pub noted_all : Places → ℕ → List (Option (List ℕ)) → Places
noted_all so_far i [] = so_far
noted_all so_far i (a ∷ more) = noted_all (noted so_far i a) (i + 1) more

-- a name in memory, with its place
abbrev pub placed : Bor (List ℕ) × ℕ → List ℕ × ℕ
placed p = (p.0.now, p.1)

abbrev pub as_binding : Bor (List ℕ) × ℕ → Binding
as_binding p = record { name = p.0.now; item = p.1 }
