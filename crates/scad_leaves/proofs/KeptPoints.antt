-- Points of profiles from a number on, and those that are kept one by one.
use Rattle.std.proofs.Common.{◌≡◌, ℕ, ◌+◌, ◌<◌, ◌≤◌, List, [], ◌∷◌, ◌++◌, length, get_or, drop, sym, ap, ◌∙◌, arith}
use Rattle.std.proofs.lemmas.List.{append_assoc, append-nil, drop_more, drop_all}

-- past the end there are none
pub drop-past : {A : Type 0} (n : ℕ) (xs : List A) → length xs < n → drop (length xs) xs ≡ drop n xs
drop-past n xs past = drop_all (length xs) xs (omega arith) ∙ sym (drop_all n xs (omega (arith, past)))

pub ruleset points = (drop-past)

module _ {A : Type 0} (ring : List A) (i : ℕ) (out items whole : List A) where
  -- one more is kept
  pub point-more : (p : A) → i < length ring → p ≡ get_or ring i p → items ≡ out ++ p ∷ [] → out ++ drop i ring ≡ whole
      → items ++ drop (i + 1) ring ≡ whole
  point-more p here is pushed before =
      ap (λ (l : List A). l ++ drop (i + 1) ring) pushed
      ∙ append_assoc out (p ∷ []) (drop (i + 1) ring)
      ∙ ap (λ (q : A). out ++ q ∷ drop (i + 1) ring) is
      ∙ ap (λ (l : List A). out ++ l) (sym (drop_more ring i p here)) ∙ before

  -- all are kept
  pub point-end : length ring ≤ i → out ++ drop i ring ≡ whole → out ≡ whole
  point-end past before =
      sym (append-nil out) ∙ ap (λ (l : List A). out ++ l) (sym (drop_all i ring past)) ∙ before
