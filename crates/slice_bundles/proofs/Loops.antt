-- What a loop that fills a list has still to do, a step on and at its end.
use Rattle.std.proofs.Common.{◌≡◌, ℕ, ◌+◌, ◌<◌, ◌≤◌, Bool, true, false, cond, List, [], ◌∷◌, ◌++◌, length, get_or, drop, filter, map, sym, ap, ◌∙◌, append_assoc}
use Rattle.std.proofs.lemmas.List.{append-nil, drop_all, at_drop_more, map-append}

pub put_step : {X : Type 0} (out : List X) (x : X) (rest more whole : List X) → rest ≡ x ∷ more
    → out ++ rest ≡ whole → (out ++ (x ∷ [])) ++ more ≡ whole
put_step {X = X} out x rest more whole e h =
    append_assoc out (x ∷ []) more ∙ ap (λ (ys : List X). out ++ ys) (sym e) ∙ h

pub pass_step : {X : Type 0} (out rest more whole : List X) → rest ≡ more → out ++ rest ≡ whole
    → out ++ more ≡ whole
pass_step {X = X} out rest more whole e h = ap (λ (ys : List X). out ++ ys) (sym e) ∙ h

-- the same of a list that is looked at through a function
pub mapped_step : {X : Type 0} (f : X → ℕ) (out : List X) (x : X) (n : ℕ) (rest more whole : List ℕ) → f x ≡ n
    → rest ≡ n ∷ more → map f out ++ rest ≡ whole → map f (out ++ (x ∷ [])) ++ more ≡ whole
mapped_step f out x n rest more whole e r h =
    ap (λ (ks : List ℕ). ks ++ more) (map-append f out (x ∷ []) ∙ ap (λ (k : ℕ). map f out ++ (k ∷ [])) e)
    ∙ put_step (map f out) n rest more whole r h

pub last_step : {X Y : Type 0} (f : List X → List Y) (out whole : List Y) (xs : List X) (i : ℕ) → f [] ≡ []
    → length xs ≤ i → out ++ f (drop i xs) ≡ whole → out ≡ whole
last_step {Y = Y} f out whole xs i none past h =
    sym (append-nil out) ∙ ap (λ (ys : List Y). out ++ ys) (sym (ap f (drop_all i xs past) ∙ none)) ∙ h

-- the numbers that pass a test
pub filter_yes : (p : ℕ → Bool) (ks : List ℕ) (i : ℕ) → i < length ks → p (get_or ks i 0) ≡ true
    → filter p (drop i ks) ≡ get_or ks i 0 ∷ filter p (drop (i + 1) ks)
filter_yes p ks i there e = at_drop_more (filter p) ks i 0 there
    ∙ ap (λ (t : Bool). cond t (get_or ks i 0 ∷ filter p (drop (i + 1) ks)) (filter p (drop (i + 1) ks))) e

pub filter_no : (p : ℕ → Bool) (ks : List ℕ) (i : ℕ) → i < length ks → p (get_or ks i 0) ≡ false
    → filter p (drop i ks) ≡ filter p (drop (i + 1) ks)
filter_no p ks i there e = at_drop_more (filter p) ks i 0 there
    ∙ ap (λ (t : Bool). cond t (get_or ks i 0 ∷ filter p (drop (i + 1) ks)) (filter p (drop (i + 1) ks))) e
