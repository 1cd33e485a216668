-- No hole, and one hole more.
use Rattle.std.proofs.Common.{◌≡◌, ℕ, zero, suc, ◌+◌, List, [], ◌∷◌, ◌++◌, sym, ap, ◌∙◌, arith}
use Rattle.std.specs.List.{flat_map, range_with_len}
use Rattle.std.proofs.lemmas.List.{append-nil, flat_map_more}
use Rattle.scad_sample.specs.Sample.{after, radius, hole_text, hole, holes}

range_more : (a n : ℕ) → range_with_len a (suc n) ≡ range_with_len a n ++ (a + n) ∷ []
range_more a zero = let same : a ≡ a + 0 = omega arith in ap (λ b. b ∷ []) same
range_more a (suc n) =
    let same : a + 1 + n ≡ a + suc n = omega arith in
    ap (λ rest. a ∷ rest) (range_more (a + 1) n ∙ ap (λ b. range_with_len (a + 1) n ++ b ∷ []) same)

below_more : (k : ℕ) → range_with_len 0 (k + 1) ≡ range_with_len 0 k ++ k ∷ []
below_more k =
    let next : k + 1 ≡ suc k = omega arith in
    let same : 0 + k ≡ k = omega arith in
    ap (range_with_len 0) next ∙ range_more 0 k ∙ ap (λ b. range_with_len 0 k ++ b ∷ []) same

pub no_holes : (n : ℕ) (front : List ℕ) → front ++ holes n 0 ≡ front
unfolding holes
no_holes n front = append-nil front

pub holes_more : (n k : ℕ) (front : List ℕ)
    → (front ++ holes n k) ++ hole_text k (radius (after n (k + 1))) ≡ front ++ holes n (k + 1)
unfolding holes
holes_more n k front =
    flat_map_more (hole n) front (range_with_len 0 k) k
    ∙ ap (λ ks. front ++ flat_map (hole n) ks) (sym (below_more k))
