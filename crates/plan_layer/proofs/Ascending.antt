-- Two lists that go up and have the same elements are one.
use Rattle.std.proofs.Common.{◌≡◌, inl, inr, List, [], ◌∷◌, map, refl, sym, ◌∙◌, ap₂, subst}
use Rattle.std.specs.Prelude.{All, Contains}
use Rattle.std.proofs.lemmas.List.Elements.{All-contains}
use Rattle.plan_infill.proofs.Elements.{nothing_in, first_or_other, first_in, other_in}

-- what an element of a mapped list is made of
pub record IsMadeOf {A B : Type 0} (f : A → B) (xs : List A) (y : B) : Type 0 where
  pub from : A
  pub there : Contains xs from
  pub is : f from ≡ y

pub made_of : {A B : Type 0} (f : A → B) (xs : List A) (y : B) → Contains (map f xs) y → IsMadeOf f xs y
made_of f [] y c = absurd (nothing_in y c)
made_of f (x ∷ xs) y c =
    elim (first_or_other (f x) (map f xs) y c) [
      | inl e ↦ record { from = x; there = first_in x xs; is = e }
      | inr o ↦ let m = made_of f xs y o in record { from = m.from; there = other_in x xs m.from m.there; is = m.is }
    ]

module _ {A : Type 0} (Before : A → A → Type 0) (no_turn : (x y : A) → Before x y → Before y x → ⊥) where
  -- each element comes before those after it
  abbrev pub Ascends : List A → Type 0
  Ascends [] = Unit {0}
  Ascends (x ∷ xs) = All (Before x) xs × Ascends xs

  -- the first elements are one
  same_first : (x y : A) (xs ys : List A) → All (Before x) xs → All (Before y) ys → Contains (y ∷ ys) x
      → Contains (x ∷ xs) y → x ≡ y
  same_first x y xs ys a b c d =
      elim (first_or_other y ys x c) [
        | inl e ↦ sym e
        | inr o ↦ elim (first_or_other x xs y d) [
          | inl e ↦ e
          | inr p ↦ absurd (no_turn x y (All-contains (Before x) xs y a p) (All-contains (Before y) ys x b o))
        ]
      ]

  -- none of the others is the first
  others_in : (x y : A) (xs ys : List A) → x ≡ y → All (Before x) xs
      → ((z : A) → Contains (x ∷ xs) z → Contains (y ∷ ys) z) → (z : A) → Contains xs z → Contains ys z
  others_in x y xs ys e a f z c =
      elim (first_or_other y ys z (f z (other_in x xs z c))) [
        | inl p ↦
            let before : Before x z = All-contains (Before x) xs z a c in
            let turned : Before z x =
            subst (λ (w : A). Before w x) (e ∙ p) (subst (λ (w : A). Before x w) (sym (e ∙ p)) before) in
            absurd (no_turn x z before turned)
        | inr o ↦ o
      ]

  pub one_list : (xs ys : List A) → Ascends xs → Ascends ys → ((z : A) → Contains xs z → Contains ys z)
      → ((z : A) → Contains ys z → Contains xs z) → xs ≡ ys
  one_list [] [] a b f g = refl
  one_list [] (y ∷ ys) a b f g = absurd (nothing_in y (g y (first_in y ys)))
  one_list (x ∷ xs) [] a b f g = absurd (nothing_in x (f x (first_in x xs)))
  one_list (x ∷ xs) (y ∷ ys) a b f g =
      let e = same_first x y xs ys a.0 b.0 (f x (first_in x xs)) (g y (first_in y ys)) in
      ap₂ (λ (z : A) (zs : List A). z ∷ zs) e
      (one_list xs ys a.1 b.1 (others_in x y xs ys e a.0 f) (others_in y x ys xs (sym e) b.0 g))
