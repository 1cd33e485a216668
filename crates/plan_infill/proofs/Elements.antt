-- Elements of a list by its first one.
use Rattle.std.proofs.Common.{◌≡◌, ◌⊎◌, inl, inr, List, [], ◌∷◌, arith}
use Rattle.std.specs.Prelude.{Contains}
use Rattle.std.proofs.lemmas.List.Elements.{Contains-append_left, Contains-append_right, Contains-append_cases}
use Rattle.std.proofs.lemmas.List.Elements.{Contains-push, Contains-push_cases}

pub nothing_in : {A : Type 0} (x : A) → Contains [] x → ⊥
nothing_in x c = let lt = c.1 in omega arith

-- an element is the first or one of the others
pub first_or_other : {A : Type 0} (x : A) (xs : List A) (z : A) → Contains (x ∷ xs) z → (x ≡ z) ⊎ Contains xs z
first_or_other {A} x xs z c =
    elim (Contains-append_cases (x ∷ []) xs z c) [
      | inl f ↦ elim (Contains-push_cases [] x z f) [
        | inl n ↦ absurd (nothing_in z n)
        | inr e ↦ inl e
      ]
      | inr o ↦ inr o
    ]

pub first_in : {A : Type 0} (x : A) (xs : List A) → Contains (x ∷ xs) x
first_in x xs = Contains-append_left (x ∷ []) xs x (Contains-push [] x)

pub other_in : {A : Type 0} (x : A) (xs : List A) (z : A) → Contains xs z → Contains (x ∷ xs) z
other_in x xs z c = Contains-append_right (x ∷ []) xs z c
