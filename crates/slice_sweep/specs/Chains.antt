-- Lists whose neighbours stand in a relation.
use Rattle.std.specs.Prelude.{List, [], ◌∷◌}

-- each stands so to the next
abbrev pub Chain : {A : Type 0} → (A → A → Type 0) → List A → Type 0
Chain R [] = Unit {0}
Chain R (x ∷ []) = Unit {0}
Chain R (x ∷ (y ∷ ys)) = R x y × Chain R (y ∷ ys)

-- the last of one list stands so to the first of another
abbrev pub Joins : {A : Type 0} → (A → A → Type 0) → List A → List A → Type 0
Joins R [] ys = Unit {0}
Joins R (x ∷ []) [] = Unit {0}
Joins R (x ∷ []) (y ∷ ys) = R x y
Joins R (x ∷ (z ∷ xs)) ys = Joins R (z ∷ xs) ys
