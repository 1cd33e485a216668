-- Tables of names, each with what it means.
use Rattle.std.specs.Prelude.{ℕ, List, [], ◌∷◌, if◌then◌else◌, bytes_eq}

-- the meaning beside the first entry that has the name; `none` where no entry has it
abbrev pub found_in : {A : Type 0} → List (List ℕ × A) → A → List ℕ → A
found_in [] none name = none
found_in (entry ∷ rest) none name = if bytes_eq entry.0 name then entry.1 else found_in rest none name
