-- Lists that lie one after another.
use Rattle.std.proofs.Common.{◌≡◌, ℕ, zero, suc, ◌+◌, ◌-◌, ◌<◌, ◌≤◌, List, [], ◌∷◌, ◌++◌, length, get_or, take, drop, Result, Ok, Err, false, refl, sym, ap, ap₂, ◌∙◌, subst, arith}
use Rattle.std.specs.Prelude.{is_err, OnOk}
use Rattle.std.proofs.lemmas.Bool.{false≢true}
use Rattle.std.proofs.lemmas.List.{take-append-le, drop-append-le, length-append, length-drop}
use Rattle.std.proofs.Math.Seq.{drop-append_seam, take-length}
use Rattle.plan_infill.specs.declared.run.Run.{Run}
use Rattle.plan_support.specs.Lists.{cut, AreEnds}

pub start_within : (start : ℕ) (ends : List ℕ) (all : ℕ) → AreEnds start ends all → start ≤ all
start_within start [] all h = omega (arith, h)
start_within start (e ∷ es) all h = let a = h.0 in let b = start_within e es all h.1 in omega (arith, a, b)

-- one more list
pub ends_push : (start : ℕ) (ends : List ℕ) (all more : ℕ) → AreEnds start ends all → all ≤ more
    → AreEnds start (ends ++ more ∷ []) more
ends_push start [] all more h l = (omega (arith, h, l), refl)
ends_push start (e ∷ es) all more h l = (h.0, ends_push e es all more h.1 l)

last_of : (start : ℕ) (runs list : List Run) → start ≡ length runs
    → take (length (runs ++ list) - start) (drop start (runs ++ list)) ≡ list
last_of start runs list h =
    let n : length (runs ++ list) - start ≡ length list = let a = length-append runs list in omega (arith, a, h) in
    ap₂ (λ (n : ℕ) (xs : List Run). take n xs) n (ap (λ (k : ℕ). drop k (runs ++ list)) h ∙ drop-append_seam runs list)
    ∙ take-length list

pub cut_push : (start : ℕ) (ends : List ℕ) (runs list : List Run) → AreEnds start ends (length runs)
    → cut start (ends ++ length (runs ++ list) ∷ []) (runs ++ list) ≡ cut start ends runs ++ list ∷ []
cut_push start [] runs list h = ap (λ (xs : List Run). xs ∷ []) (last_of start runs list h)
cut_push start (e ∷ es) runs list h =
    let w = start_within e es (length runs) h.1 in
    let s = h.0 in
    let n = length-drop start runs in
    ap₂ (λ (xs : List Run) (ys : List (List Run)). xs ∷ ys)
    (ap (λ (xs : List Run). take (e - start) xs) (drop-append-le start runs list (omega (arith, w, s)))
    ∙ take-append-le (e - start) (drop start runs) list (omega (arith, n, w, s)))
    (cut_push e es runs list h.1)

pub length_cut : (start : ℕ) (ends : List ℕ) (runs : List Run) → length (cut start ends runs) ≡ length ends
length_cut start [] runs = refl
length_cut start (e ∷ es) runs = ap suc (length_cut e es runs)

-- where the list at a place starts
pub cut_get : (start : ℕ) (ends : List ℕ) (runs : List Run) (i : ℕ) → i < length ends
    → get_or (cut start ends runs) i []
    ≡ take (get_or ends i 0 - get_or (start ∷ ends) i 0) (drop (get_or (start ∷ ends) i 0) runs)
cut_get start [] runs i l = absurd (omega (arith, l))
cut_get start (e ∷ es) runs zero l = refl
cut_get start (e ∷ es) runs (suc i) l = cut_get e es runs i (omega (arith, l))

-- the place where a list ends isn't beyond the end, and none ends before it starts
pub ends_order : (start : ℕ) (ends : List ℕ) (all i : ℕ) → AreEnds start ends all → i < length ends
    → (get_or (start ∷ ends) i 0 ≤ get_or ends i 0) × (get_or ends i 0 ≤ all)
ends_order start [] all i h l = absurd (omega (arith, l))
ends_order start (e ∷ es) all zero h l = (h.0, start_within e es all h.1)
ends_order start (e ∷ es) all (suc i) h l = ends_order e es all i h.1 (omega (arith, l))

-- ---- as they are kept, under the names of a call
pub start_first : (ends : List ℕ) (i : ℕ) → i ≡ 0 → 0 ≡ get_or (0 ∷ ends) i 0
start_first ends i e = sym (ap (λ (k : ℕ). get_or (0 ∷ ends) k 0) e)

pub start_later : (ends : List ℕ) (i : ℕ) → 0 < i → get_or ends (i - 1) 0 ≡ get_or (0 ∷ ends) i 0
start_later ends zero l = absurd (omega (arith, l))
start_later ends (suc k) l = ap (λ (j : ℕ). get_or ends j 0) (omega arith)

pub list_at : (start end i : ℕ) (ends ends2 : List ℕ) (runs runs2 : List Run) (value : List (List Run))
    → cut 0 ends runs ≡ value → ends2 ≡ ends → runs2 ≡ runs → start ≡ get_or (0 ∷ ends2) i 0 → end ≡ get_or ends2 i 0
    → i < length ends → take (end - start) (drop start runs2) ≡ get_or value i []
list_at start end i ends ends2 runs runs2 value v e r s t l =
    let from : start ≡ get_or (0 ∷ ends) i 0 = s ∙ ap (λ (es : List ℕ). get_or (0 ∷ es) i 0) e in
    let to : end ≡ get_or ends i 0 = t ∙ ap (λ (es : List ℕ). get_or es i 0) e in
    ap₂ (λ (n : ℕ) (xs : List Run). take n xs) (ap₂ (λ (a b : ℕ). a - b) to from)
    (ap₂ (λ (k : ℕ) (xs : List Run). drop k xs) from r)
    ∙ sym (cut_get 0 ends runs i l)
    ∙ ap (λ (ls : List (List Run)). get_or ls i []) v

pub push_keeps : (ends ends2 : List ℕ) (runs runs2 list : List Run) (end : ℕ) → AreEnds 0 ends (length runs)
    → runs2 ≡ runs ++ list → end ≡ length runs2 → ends2 ≡ ends ++ end ∷ [] → AreEnds 0 ends2 (length runs2)
push_keeps ends ends2 runs runs2 list end k r e s =
    let n : length runs2 ≡ length runs + length list = ap length r ∙ length-append runs list in
    subst (λ (es : List ℕ). AreEnds 0 es (length runs2)) (sym s)
    (subst (λ (m : ℕ). AreEnds 0 (ends ++ m ∷ []) (length runs2)) (sym e)
    (ends_push 0 ends (length runs) (length runs2) k (omega (arith, n))))

pub push_adds : (ends ends2 : List ℕ) (runs runs2 list : List Run) (end : ℕ) (value : List (List Run))
    → AreEnds 0 ends (length runs) → cut 0 ends runs ≡ value
    → runs2 ≡ runs ++ list → end ≡ length runs2 → ends2 ≡ ends ++ end ∷ [] → cut 0 ends2 runs2 ≡ value ++ list ∷ []
push_adds ends ends2 runs runs2 list end value k v r e s =
    ap₂ (λ (es : List ℕ) (rs : List Run). cut 0 es rs) (s ∙ ap (λ (m : ℕ). ends ++ m ∷ []) (e ∙ ap length r)) r
    ∙ cut_push 0 ends runs list k
    ∙ ap (λ (ls : List (List Run)). ls ++ list ∷ []) v

-- ---- of a result that is told not to be an error
pub from_ok : {X E : Type 0} (r : Result X E) (P : Type 0) → is_err r ≡ false → OnOk r P → P
from_ok (Ok x) P e h = h
from_ok (Err x) P e h = absurd (false≢true (sym e))

pub to_ok : {X E : Type 0} (r : Result X E) (P : Type 0) → P → OnOk r P
to_ok (Ok x) P h = h
to_ok (Err x) P h = tt
