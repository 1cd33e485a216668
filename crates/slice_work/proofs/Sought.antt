-- A layer that the numbers of a list name is found in it.
use Rattle.std.proofs.Common.{◌≡◌, ◌≢◌, ◌<◌, ◌≤◌, ◌+◌, ◌-◌, ℕ, List, [], ◌∷◌, ◌++◌, length, drop, get_or, All, Contains, flat_map, sym, ap, ◌∙◌, subst, ⊎_elim, arith}
use Rattle.std.proofs.lemmas.List.{drop_more}
use Rattle.std.proofs.lemmas.List.Elements.{Contains-append_cases, Contains-push_cases}
use Rattle.slice_work.specs.declared.layer.LayerEnd.{LayerEnd}
use Rattle.slice_work.specs.declared.layer.LayerEnd.TheVariants.{Made, Over}
use Rattle.slice_work.specs.declared.layer.Drawn.{Drawn}
use Rattle.slice_work.specs.Shares.{if_made, if_over, made_numbers, over_numbers}

pub none_here : (n : ℕ) → Contains [] n → ⊥
none_here n (k, less, same) = absurd (omega (arith, less))

only_here : (m n : ℕ) → Contains (m ∷ []) n → m ≡ n
only_here m n there = ⊎_elim (λ none. absurd (none_here n none)) (λ same. same) (Contains-push_cases [] m n there)

-- a layer of another number isn't the one sought
made_elsewhere : (first n layer : ℕ) (end : LayerEnd) → first ≤ layer → layer ≢ first + n
    → Contains (if_made (layer - first) end) n → ⊥
made_elsewhere first n layer (Made loops plan) from other there =
    let same : layer - first ≡ n = only_here (layer - first) n there in other (omega arith)
made_elsewhere first n layer (Over passed) from other there = none_here n there

over_elsewhere : (first n layer : ℕ) (end : LayerEnd) → first ≤ layer → layer ≢ first + n
    → Contains (if_over (layer - first) end) n → ⊥
over_elsewhere first n layer (Made loops plan) from other there = none_here n there
over_elsewhere first n layer (Over passed) from other there =
    let same : layer - first ≡ n = only_here (layer - first) n there in other (omega arith)

-- the layer at a place, which isn't the one sought, is passed over
passed_over : (f : Drawn → List ℕ) (n : ℕ) (ds : List Drawn) (i : ℕ) (d : Drawn) → i < length ds → d ≡ get_or ds i d
    → (Contains (f d) n → ⊥)
    → Contains (flat_map f (drop i ds)) n → Contains (flat_map f (drop (i + 1) ds)) n
passed_over f n ds i d inside is other there =
    let next : drop i ds ≡ d ∷ drop (i + 1) ds = drop_more ds i d inside
    ∙ ap (λ (e : Drawn). e ∷ drop (i + 1) ds) (sym is) in
    let cases : Contains (f d ++ flat_map f (drop (i + 1) ds)) n = subst
    (λ (l : List Drawn). Contains (flat_map f l) n) next there in
    ⊎_elim (λ here. absurd (other here)) (λ behind. behind) (Contains-append_cases (f d)
    (flat_map f (drop (i + 1) ds)) n cases)

module _ (first n : ℕ) (ds : List Drawn) (i : ℕ) (d : Drawn) (from : All (λ e. first ≤ e.layer) ds)
    (inside : i < length ds) (is : d ≡ get_or ds i d) where
  at_least : first ≤ d.layer
  at_least = subst (λ (e : Drawn). first ≤ e.layer) (sym is) (from i d inside)

  pub made_behind : d.layer ≢ first + n → Contains (made_numbers first (drop i ds)) n
      → Contains (made_numbers first (drop (i + 1) ds)) n
  made_behind other = passed_over (λ e. if_made (e.layer - first) e.end) n ds i d inside is
      (made_elsewhere first n d.layer d.end at_least other)

  pub over_behind : d.layer ≢ first + n → Contains (over_numbers first (drop i ds)) n
      → Contains (over_numbers first (drop (i + 1) ds)) n
  over_behind other = passed_over (λ e. if_over (e.layer - first) e.end) n ds i d inside is
      (over_elsewhere first n d.layer d.end at_least other)
