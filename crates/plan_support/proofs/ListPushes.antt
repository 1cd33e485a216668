-- What is made of the elements of a list, one after another.
use Rattle.std.proofs.Common.{◌≡◌, ◌<◌, ◌+◌, ℕ, List, [], ◌∷◌, ◌++◌, length, take, get_or, map, ap, sym, ◌∙◌}
use Rattle.std.proofs.Common.{append_assoc}
use Rattle.std.proofs.lemmas.List.{map_more}

-- with what is made of one more element
pub pushed_next : {A B : Type 0} (f : A → B) (xs : List A) (i : ℕ) (d : A) (old out new : List B) (y : B)
    → i < length xs → new ≡ out ++ y ∷ [] → y ≡ f (get_or xs i d)
    → out ≡ old ++ map f (take i xs) → new ≡ old ++ map f (take (i + 1) xs)
pushed_next {A} {B} f xs i d old out new y h e g k =
    e ∙ ap (λ (ys : List B). ys ++ y ∷ []) k ∙ append_assoc old (map f (take i xs)) (y ∷ [])
    ∙ ap (λ (z : B). old ++ (map f (take i xs) ++ z ∷ [])) g
    ∙ ap (λ (ys : List B). old ++ ys) (sym (map_more f xs i d h))
