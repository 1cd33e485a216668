-- What a loop that fills a list has still to do, a step on and at its end.
use Rattle.std.proofs.Common.{◌≡◌, ℕ, ◌≤◌, List, [], ◌++◌, length, drop, sym, ap, ◌∙◌, append_assoc}
use Rattle.std.proofs.lemmas.List.{append-nil, drop_all}

pub put_step : {X : Type 0} (out xs rest more whole : List X) → rest ≡ xs ++ more → out ++ rest ≡ whole
    → (out ++ xs) ++ more ≡ whole
put_step {X = X} out xs rest more whole e h =
    append_assoc out xs more ∙ ap (λ (ys : List X). out ++ ys) (sym e) ∙ h

pub last_step : {X Y : Type 0} (f : List X → List Y) (out whole : List Y) (xs : List X) (i : ℕ) → f [] ≡ []
    → length xs ≤ i → out ++ f (drop i xs) ≡ whole → out ≡ whole
last_step {Y = Y} f out whole xs i none past h =
    sym (append-nil out) ∙ ap (λ (ys : List Y). out ++ ys) (sym (ap f (drop_all i xs past) ∙ none)) ∙ h
