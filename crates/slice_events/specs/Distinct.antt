-- Sorted lists without repeats, by any strict order.
use Rattle.std.specs.Prelude.{List, [], ◌∷◌, Bool, true, ℕ, zero, suc, if◌then◌else◌}

-- a sorted list without those that don't come before the next
abbrev pub distinct_by : {A : Type 0} → (A → A → Bool) → List A → List A
distinct_by lt [] = []
distinct_by lt (x ∷ []) = x ∷ []
distinct_by lt (x ∷ (y ∷ xs)) = if lt x y then x ∷ distinct_by lt (y ∷ xs) else distinct_by lt (y ∷ xs)

-- whether the element of an index is the last or comes before the next
abbrev pub stays_by : {A : Type 0} → (A → A → Bool) → List A → ℕ → Bool
stays_by lt [] i = true
stays_by lt (x ∷ []) i = true
stays_by lt (x ∷ (y ∷ xs)) zero = lt x y
stays_by lt (x ∷ (y ∷ xs)) (suc i) = stays_by lt (y ∷ xs) i
