-- Texts that are written piece by piece.
use Rattle.std.proofs.Common.{◌≡◌, List, ◌++◌, ap, ◌∙◌, append_assoc}

-- four pieces, one behind another, are one text
pub four : {A : Type 0} {o1 o2 o3 o4 : List A} (o a b c d : List A) → o1 ≡ o ++ a → o2 ≡ o1 ++ b → o3 ≡ o2 ++ c
    → o4 ≡ o3 ++ d → o4 ≡ o ++ (a ++ b ++ c ++ d)
four o a b c d p q r s =
    s ∙ ap (λ t. t ++ d) (r ∙ ap (λ t. t ++ c) (q ∙ ap (λ t. t ++ b) p)) ∙ simp append_assoc
