-- What bundles hold once the first has more numbers.
use Rattle.std.proofs.Common.{◌≡◌, ℕ, List, [], ◌∷◌, ◌++◌, refl, sym, ap, append_assoc}
use Rattle.std.specs.List.{concat}
use Rattle.slice_bundles.specs.Joined.{joined, prefixed}

pub concat-joined : (k : ℕ) (bs : List (List ℕ)) → concat (joined k bs) ≡ k ∷ concat bs
concat-joined k [] = refl
concat-joined k (b ∷ bs) = refl

pub prefixed-nil : (bs : List (List ℕ)) → prefixed [] bs ≡ bs
prefixed-nil [] = refl
prefixed-nil (b ∷ bs) = refl

pub prefixed-joined : (ks : List ℕ) (k : ℕ) (b : List ℕ) (bs : List (List ℕ)) → prefixed ks (joined k (b ∷ bs))
    ≡ prefixed (ks ++ (k ∷ [])) (b ∷ bs)
prefixed-joined ks k b bs = ap (λ (xs : List ℕ). xs ∷ bs) (sym (append_assoc ks (k ∷ []) b))
