-- How often a number stands in a list, and what the numbers below n weigh.
use Rattle.std.proofs.Common.{◌≡◌, ℕ, zero, suc, ◌+◌, ◌<◌, ◌≤◌, ◌≢◌, min, cond, eqb, eq-eqb, ne_eqb, List, [], ◌∷◌, length, get_or, refl, ap, ◌∙◌, subst, ⊎_elim, arith, add-one, sum_by, Contains}
use Rattle.std.proofs.lemmas.List.Sums.{sum_by-cons, sum_by_push}
use Rattle.std.proofs.lemmas.Bool.{cases_lt}
use native.Mathlib.Decide.{ℕ_discrete}
use mathlib.Core.Logic.{dite}
use Rattle.layer_board.specs.Numbers.{below, lowest}

-- 1 for n, and else 0
abbrev pub is : ℕ → ℕ → ℕ
is n m = cond (eqb m n) 1 0

pub is_same : (n m : ℕ) → m ≡ n → is n m ≡ 1
is_same n m e = ap (λ b. cond b 1 0) (eq-eqb m n e)

pub is_other : (n m : ℕ) → m ≢ n → is n m ≡ 0
is_other n m ne = ap (λ b. cond b 1 0) (ne_eqb m n ne)

contained : (n : ℕ) (xs : List ℕ) (k : ℕ) → k < length xs → get_or xs k n ≡ n → 0 < sum_by (is n) xs
contained n [] k h e = absurd (omega arith)
contained n (x ∷ xs) zero h e = let p = is_same n x e in omega (arith, sum_by-cons (is n) x xs)
contained n (x ∷ xs) (suc k) h e = let ih = contained n xs k (omega arith) e in omega (arith, sum_by-cons (is n) x xs)

pub counts_contained : (n : ℕ) (xs : List ℕ) → Contains xs n → 0 < sum_by (is n) xs
counts_contained n xs c = contained n xs c.0 c.1 c.2

pub contains_counted : (n : ℕ) (xs : List ℕ) → 0 < sum_by (is n) xs → Contains xs n
contains_counted n [] h = absurd (omega arith)
contains_counted n (x ∷ xs) h = dite (ℕ_discrete x n)
    (λ e. (0, omega arith, e))
    (λ ne. let p = is_other n x ne in let c = contains_counted n xs (omega (arith, sum_by-cons (is n) x xs)) in let l = c.1 in (suc c.0, omega arith, c.2))

pub length_is_sum : (xs : List ℕ) → sum_by (λ _. 1) xs ≡ length xs
length_is_sum [] = refl
length_is_sum (x ∷ xs) = let ih = length_is_sum xs in omega (arith, sum_by-cons (λ (_ : ℕ). 1) x xs)

pub below_more : (h : ℕ → ℕ) (n : ℕ) → sum_by h (below (n + 1)) ≡ sum_by h (below n) + h n
below_more h n = ap (λ m. sum_by h (below m)) (add-one n) ∙ sum_by_push h (below n) n

pub same_below : (h : ℕ → ℕ) (m n : ℕ) → m ≡ n → sum_by h (below m) ≡ sum_by h (below n)
same_below h m n e = ap (λ k. sum_by h (below k)) e

pub length-below : (n : ℕ) → sum_by (λ _. 1) (below n) ≡ n
length-below zero = refl
length-below (suc n) = let ih = length-below n in omega (arith, sum_by_push (λ (_ : ℕ). 1) (below n) n)

pub counts_past : (n m : ℕ) → m ≤ n → sum_by (is n) (below m) ≡ 0
counts_past n zero h = refl
counts_past n (suc m) h =
    let ih = counts_past n m (omega arith) in
    let p = is_other n m (λ e. omega arith) in
    omega (arith, sum_by_push (is n) (below m) m)

pub counts_below : (n m : ℕ) → n < m → sum_by (is n) (below m) ≡ 1
counts_below n zero h = absurd (omega arith)
counts_below n (suc m) h = dite (ℕ_discrete m n)
    (λ e. let p = is_same n m e in let z = counts_past n m (omega arith) in omega (arith, sum_by_push (is n) (below m) m))
    (λ ne. let p = is_other n m ne in let ih = counts_below n m (omega arith) in omega (arith, sum_by_push (is n) (below m) m))

-- no number stands twice
pub counts_once : (n m : ℕ) → sum_by (is n) (below m) ≤ 1
counts_once n zero = omega arith
counts_once n (suc m) = dite (ℕ_discrete m n)
    (λ e. let p = is_same n m e in let z = counts_past n m (omega arith) in omega (arith, sum_by_push (is n) (below m) m))
    (λ ne. let p = is_other n m ne in let ih = counts_once n m in omega (arith, sum_by_push (is n) (below m) m))

-- the least is at most each number, and is one of them or the bound
pub lowest_at : (c n : ℕ) (xs : List ℕ) → Contains xs n → lowest c xs ≤ n
lowest_at c n xs t = from xs t.0 t.1 t.2
  where
    from : (xs : List ℕ) (k : ℕ) → k < length xs → get_or xs k n ≡ n → lowest c xs ≤ n
    from [] k h e = absurd (omega arith)
    from (x ∷ xs) zero h e = omega arith
    from (x ∷ xs) (suc k) h e = let ih = from xs k (omega arith) e in omega arith

pub lowest_among : (c : ℕ) (xs : List ℕ) → lowest c xs < c → Contains xs (lowest c xs)
lowest_among c [] h = absurd (omega arith)
lowest_among c (x ∷ xs) h = ⊎_elim
    (λ small. (0, omega arith, (let goal : x ≡ min x (lowest c xs) = omega arith in goal)))
    (λ big.
    let e : lowest c xs ≡ min x (lowest c xs) = omega arith in
    let t = lowest_among c xs (omega arith) in
    let l = t.1 in
    let there : Contains (x ∷ xs) (lowest c xs) = (suc t.0, omega arith, t.2) in
    subst (Contains (x ∷ xs)) e there)
    (cases_lt x (lowest c xs))
