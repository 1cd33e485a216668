-- Lists of layer numbers, where their order doesn't count.
use Rattle.std.specs.Prelude.{◌≡◌, ℕ, zero, suc, min, List, [], ◌∷◌, ◌++◌, sum_by}

-- the numbers below n
abbrev pub below : ℕ → List ℕ
below zero = []
below (suc n) = below n ++ n ∷ []

-- ys has the numbers of xs, each as often: whatever each number weighs, both lists weigh the same
abbrev pub Rearranged : List ℕ → List ℕ → Type 0
Rearranged xs ys = (weight : ℕ → ℕ) → sum_by weight xs ≡ sum_by weight ys

-- the least of count and all numbers of the list
abbrev pub lowest : ℕ → List ℕ → ℕ
lowest count [] = count
lowest count (x ∷ xs) = min x (lowest count xs)
