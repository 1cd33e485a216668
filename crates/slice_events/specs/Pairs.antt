-- Pairs of a list in a relation.
use Rattle.std.specs.Prelude.{Bool, List, [], ◌∷◌, ℕ, ◌+◌, count_by}

-- how many pairs of a list, an earlier and a later element, stand in a relation
abbrev pub pairs : {X : Type 0} → (X → X → Bool) → List X → ℕ
pairs r [] = 0
pairs r (x ∷ xs) = count_by (r x) xs + pairs r xs
