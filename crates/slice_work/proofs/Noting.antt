-- A worker settles a layer and notes it.
use Rattle.std.proofs.Common.{◌≡◌, ◌<◌, ◌≤◌, ◌+◌, ◌-◌, ℕ, true, false, List, [], ◌∷◌, ◌++◌, get_or, Some, None, All, Contains, sym, refl, ap, ap₂, ◌∙◌, subst, ⊎_elim, arith}
use Rattle.std.specs.Prelude.{option_to_list}
use Rattle.std.proofs.lemmas.Grind.{flat_map-append}
use Rattle.std.proofs.lemmas.List.{append-nil}
use Rattle.std.proofs.lemmas.List.Elements.{All-push, All-cons, All-nil, All-append, All-contains, Contains-get_or, Contains-append_left, Contains-append_right, Contains-append_cases, Contains-push, Contains-push_cases}
use Rattle.layer_board.specs.declared.view.View.{View}
use Rattle.layer_board.specs.Pass.{draws, skips}
use Rattle.slice_work.specs.declared.layer.LayerEnd.{LayerEnd}
use Rattle.slice_work.specs.declared.layer.LayerEnd.TheVariants.{Made, Over}
use Rattle.slice_work.specs.declared.layer.Drawn.{Drawn}
use Rattle.slice_work.specs.Shares.{if_made, if_over, made_numbers, over_numbers, IsNoted, SkipsAbove, settled}

-- ---- the numbers of a list with one layer more

module _ (first : ℕ) (done : List Drawn) (d : Drawn) where
  made_more : made_numbers first (done ++ d ∷ []) ≡ made_numbers first done ++ (if_made (d.layer - first) d.end ++ [])
  made_more = flat_map-append (λ (e : Drawn). if_made (e.layer - first) e.end) done (d ∷ [])

  over_more : over_numbers first (done ++ d ∷ []) ≡ over_numbers first done ++ (if_over (d.layer - first) d.end ++ [])
  over_more = flat_map-append (λ (e : Drawn). if_over (e.layer - first) e.end) done (d ∷ [])

pub noted_layer : (first n layer : ℕ) (end : LayerEnd) (v : View) (done : List Drawn) → layer ≡ first + n
    → v.pending ≡ Some n
    → IsNoted first v done → IsNoted first (settled end v) (done ++ record { layer = layer; end = end } ∷ [])
noted_layer first n layer (Made loops plan) v done is pending noted =
    let d : Drawn = record { layer = layer; end = Made loops plan } in
    let number : n ≡ layer - first = omega arith in
    record {
      finished = ap₂ (λ (xs ys : List ℕ). xs ++ ys) noted.finished (ap option_to_list pending
          ∙ ap (λ (k : ℕ). k ∷ []) number) ∙ sym (made_more first done d);
      failed = noted.failed ∙ sym (over_more first done d ∙ append-nil (over_numbers first done));
      from = All-push (λ (e : Drawn). first ≤ e.layer) done d noted.from (omega arith);
    }
noted_layer first n layer (Over passed) v done is pending noted =
    let d : Drawn = record { layer = layer; end = Over passed } in
    let number : n ≡ layer - first = omega arith in
    record {
      finished = noted.finished ∙ sym (made_more first done d ∙ append-nil (made_numbers first done));
      failed = ap₂ (λ (xs ys : List ℕ). xs ++ ys) noted.failed (ap option_to_list pending
          ∙ ap (λ (k : ℕ). k ∷ []) number) ∙ sym (over_more first done d);
      from = All-push (λ (e : Drawn). first ≤ e.layer) done d noted.from (omega arith);
    }

-- ---- above a failed layer all is skipped

-- what was finished or failed was drawn
abbrev pub IsDrawnBefore : View → Type 0
IsDrawnBefore v = (k : ℕ) → Contains (v.finished ++ v.failed) k → Contains v.drawn k

all_of_none : {X : Type 0} (P : X → Type 0) (xs : List X) → ((x : X) → Contains xs x → ⊥) → All P xs
all_of_none P xs none k d l = absurd (none (get_or xs k d) (Contains-get_or xs k d l))

nothing : (xs : List ℕ) → ((x : ℕ) → Contains xs x → ⊥) → xs ≡ []
nothing [] none = refl
nothing (x ∷ xs) none = absurd (none x (0, omega arith, refl))

-- where a layer above all that were drawn isn't skipped, none has failed
pub none_failed : (n : ℕ) (v : View) → IsDrawnBefore v → All (λ d. d < n) v.drawn
    → ((m : ℕ) → Contains v.failed m → m < n → false ≡ true)
    → (m : ℕ) → Contains v.failed m → ⊥
none_failed n v before above skipped m there =
    let drawn : Contains v.drawn m = before m (Contains-append_right v.finished v.failed m there) in
    let less : m < n = All-contains (λ (d : ℕ). d < n) v.drawn m above drawn in
    let no_way : false ≡ true = skipped m there less in
    absurd (cc)

below_it : (n : ℕ) (v : View) → IsDrawnBefore v → All (λ d. d < n) v.drawn → All (λ k. k ≤ n) v.finished
below_it n v before above k d l =
    let x = get_or v.finished k d in
    let drawn : Contains v.drawn x = before x (Contains-append_left v.finished v.failed x
    (Contains-get_or v.finished k d l)) in
    let less : x < n = All-contains (λ (e : ℕ). e < n) v.drawn x above drawn in
    omega arith

pub settled_skips : (n : ℕ) (end : LayerEnd) (v : View) → IsDrawnBefore v → All (λ d. d < n) v.drawn
    → ((m : ℕ) → Contains v.failed m → ⊥)
    → SkipsAbove (settled end (draws n v))
settled_skips n (Made loops plan) v before above none = all_of_none
    (λ m. All (λ k. k ≤ m) ((v.finished ++ n ∷ []) ++ v.failed)) v.failed none
settled_skips n (Over passed) v before above none =
    let only : v.failed ++ n ∷ [] ≡ n ∷ [] = ap (λ (xs : List ℕ). xs ++ n ∷ []) (nothing v.failed none) in
    let here : All (λ k. k ≤ n) (n ∷ []) = All-cons (λ k. k ≤ n) n [] (omega arith) (All-nil (λ k. k ≤ n)) in
    let all : All (λ k. k ≤ n) (v.finished ++ n ∷ []) = All-append (λ k. k ≤ n) v.finished (n ∷ [])
    (below_it n v before above) here in
    let one : All (λ m. All (λ k. k ≤ m) (v.finished ++ n ∷ [])) (n ∷ []) =
    All-cons (λ m. All (λ k. k ≤ m) (v.finished ++ n ∷ [])) n [] all
    (All-nil (λ m. All (λ k. k ≤ m) (v.finished ++ n ∷ []))) in
    subst (λ (failed : List ℕ). All (λ m. All (λ k. k ≤ m) (v.finished ++ failed)) failed) (sym only) one

-- ---- a settled layer isn't pending

pub settled_free : (end : LayerEnd) (v : View) → (settled end v).pending ≡ None
settled_free (Made loops plan) v = refl
settled_free (Over passed) v = refl

pub settled_members : (end : LayerEnd) (v : View) → (settled end v).members ≡ v.members
settled_members (Made loops plan) v = refl
settled_members (Over passed) v = refl

-- ---- what is skipped isn't noted

pub skipped_notes : (first n : ℕ) (v : View) (done : List Drawn) → IsNoted first v done
    → IsNoted first (skips (draws n v)) done
skipped_notes first n v done noted = record { finished = noted.finished; failed = noted.failed; from = noted.from }

pub drawn_notes : (first n : ℕ) (v : View) (done : List Drawn) → IsNoted first v done → IsNoted first (draws n v) done
drawn_notes first n v done noted = record { finished = noted.finished; failed = noted.failed; from = noted.from }

-- ---- what was drawn

drawn_still : (n k : ℕ) (v : View) → IsDrawnBefore v → Contains (v.finished ++ v.failed) k
    → Contains (v.drawn ++ n ∷ []) k
drawn_still n k v before there = Contains-append_left v.drawn (n ∷ []) k (before k there)

drawn_now : (n k : ℕ) (v : View) → n ≡ k → Contains (v.drawn ++ n ∷ []) k
drawn_now n k v same = subst (Contains (v.drawn ++ n ∷ [])) same (Contains-push v.drawn n)

pub skipped_before : (n : ℕ) (v : View) → IsDrawnBefore v → IsDrawnBefore (skips (draws n v))
skipped_before n v before k there = drawn_still n k v before there

pub settled_before : (n : ℕ) (end : LayerEnd) (v : View) → IsDrawnBefore v → IsDrawnBefore (settled end (draws n v))
settled_before n (Made loops plan) v before k there =
    ⊎_elim
    (λ finished. ⊎_elim
    (λ old. drawn_still n k v before (Contains-append_left v.finished v.failed k old))
    (λ now. drawn_now n k v now)
    (Contains-push_cases v.finished n k finished))
    (λ failed. drawn_still n k v before (Contains-append_right v.finished v.failed k failed))
    (Contains-append_cases (v.finished ++ n ∷ []) v.failed k there)
settled_before n (Over passed) v before k there =
    ⊎_elim
    (λ finished. drawn_still n k v before (Contains-append_left v.finished v.failed k finished))
    (λ failed. ⊎_elim
    (λ old. drawn_still n k v before (Contains-append_right v.finished v.failed k old))
    (λ now. drawn_now n k v now)
    (Contains-push_cases v.failed n k failed))
    (Contains-append_cases v.finished (v.failed ++ n ∷ []) k there)
