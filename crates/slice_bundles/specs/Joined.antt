-- More numbers for the first of some bundles.
use Rattle.std.specs.Prelude.{List, [], ◌∷◌, ◌++◌, ℕ}

-- with this number before its own; a bundle of it alone where there is none
abbrev pub joined : ℕ → List (List ℕ) → List (List ℕ)
joined k [] = (k ∷ []) ∷ []
joined k (b ∷ bs) = (k ∷ b) ∷ bs

-- the first bundle with these numbers before its own
abbrev pub prefixed : List ℕ → List (List ℕ) → List (List ℕ)
prefixed ks [] = []
prefixed ks (b ∷ bs) = (ks ++ b) ∷ bs
