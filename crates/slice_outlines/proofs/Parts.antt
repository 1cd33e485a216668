-- A part of a list that grows at its end.
use Rattle.std.proofs.Common.{◌≡◌, ℕ, ◌+◌, ◌-◌, ◌<◌, ◌≤◌, List, [], ◌∷◌, ◌++◌, length, get_or, take, drop, sym, ap, ◌∙◌, arith, subst}
use Rattle.std.specs.List.{All}
use Rattle.std.proofs.lemmas.List.{take_more, get_or-drop, length-drop}
use Rattle.std.proofs.lemmas.List.Elements.{All-push}

pub part_more : {X : Type 0} (xs : List X) (from i : ℕ) (d : X) → from ≤ i → i < length xs
    → take (i + 1 - from) (drop from xs) ≡ take (i - from) (drop from xs) ++ (get_or xs i d ∷ [])
part_more {X} xs from i d h l =
    let step : i + 1 - from ≡ (i - from) + 1 = omega arith in
    let there : i - from < length (drop from xs) = omega (arith, length-drop from xs) in
    let back : from + (i - from) ≡ i = omega arith in
    let ys : List X = drop from xs in
    let n : ℕ = i - from in
    ap (λ (m : ℕ). take m ys) step ∙ take_more ys n d there
    ∙ ap (λ (x : X). take n ys ++ (x ∷ [])) (get_or-drop from xs n d ∙ ap (λ (m : ℕ). get_or xs m d) back)

pub part_none : {X : Type 0} (xs : List X) (from : ℕ) → take (from - from) (drop from xs) ≡ []
part_none {X} xs from =
    let none : from - from ≡ 0 = omega arith in
    ap (λ (n : ℕ). take n (drop from xs)) none

pub part_one : {X : Type 0} (xs : List X) (from : ℕ) (d : X) → from < length xs
    → take (from + 1 - from) (drop from xs) ≡ get_or xs from d ∷ []
part_one {X} xs from d l =
    part_more xs from from d (omega arith) l ∙ ap (λ (ys : List X). ys ++ (get_or xs from d ∷ [])) (part_none xs from)

pub all_part_more : {X : Type 0} (P : X → Type 0) (xs : List X) (from i : ℕ) → from ≤ i → i < length xs
    → All P (take (i - from) (drop from xs)) → ((d : X) → P (get_or xs i d))
    → All P (take (i + 1 - from) (drop from xs))
all_part_more P [] from i h l a p = absurd (omega arith)
all_part_more P (x ∷ xs) from i h l a p =
    subst (All P) (sym (part_more (x ∷ xs) from i x h l))
    (All-push P (take (i - from) (drop from (x ∷ xs))) (get_or (x ∷ xs) i x) a (p x))
