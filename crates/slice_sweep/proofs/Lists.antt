-- Lists whose neighbours stand in a relation.
use Rattle.std.proofs.Common.{◌≡◌, ℕ, zero, suc, ◌<◌, List, [], ◌∷◌, ◌++◌, length, get_or, refl, arith}
use Rattle.std.specs.List.{AllByRecursion}
use Rattle.slice_sweep.specs.Chains.{Chain, Joins}

module _ {A : Type 0} (R : A → A → Type 0) where
  pub chain_append : (xs ys : List A) → Chain R xs → Chain R ys → Joins R xs ys → Chain R (xs ++ ys)
  chain_append [] ys a b j = b
  chain_append (x ∷ []) [] a b j = tt
  chain_append (x ∷ []) (y ∷ ys) a b j = (j, b)
  chain_append (x ∷ (z ∷ xs)) ys a b j = (a.0, chain_append (z ∷ xs) ys a.1 b j)

  pub chain_front : (xs ys : List A) → Chain R (xs ++ ys) → Chain R xs
  chain_front [] ys c = tt
  chain_front (x ∷ []) ys c = tt
  chain_front (x ∷ (z ∷ xs)) ys c = (c.0, chain_front (z ∷ xs) ys c.1)

  pub chain_back : (xs ys : List A) → Chain R (xs ++ ys) → Chain R ys
  chain_back [] ys c = c
  chain_back (x ∷ []) [] c = tt
  chain_back (x ∷ []) (y ∷ ys) c = c.1
  chain_back (x ∷ (z ∷ xs)) ys c = chain_back (z ∷ xs) ys c.1

  pub chain_joins : (xs ys : List A) → Chain R (xs ++ ys) → Joins R xs ys
  chain_joins [] ys c = tt
  chain_joins (x ∷ []) [] c = tt
  chain_joins (x ∷ []) (y ∷ ys) c = c.0
  chain_joins (x ∷ (z ∷ xs)) ys c = chain_joins (z ∷ xs) ys c.1

  pub chain_tail : (x : A) (xs : List A) → Chain R (x ∷ xs) → Chain R xs
  chain_tail x [] c = tt
  chain_tail x (y ∷ ys) c = c.1

  pub joins_nil : (xs : List A) → Joins R xs []
  joins_nil [] = tt
  joins_nil (x ∷ []) = tt
  joins_nil (x ∷ (z ∷ xs)) = joins_nil (z ∷ xs)

  -- what stands before the last of a list doesn't matter, nor what stands behind the first
  pub joins_more : (xs : List A) (x : A) (zs ys : List A) → Joins R (x ∷ zs) ys → Joins R (xs ++ (x ∷ zs)) ys
  joins_more [] x zs ys j = j
  joins_more (w ∷ []) x zs ys j = j
  joins_more (w ∷ (v ∷ xs)) x zs ys j = joins_more (v ∷ xs) x zs ys j

  pub joins_less : (xs : List A) (x : A) (zs ys : List A) → Joins R (xs ++ (x ∷ zs)) ys → Joins R (x ∷ zs) ys
  joins_less [] x zs ys j = j
  joins_less (w ∷ []) x zs ys j = j
  joins_less (w ∷ (v ∷ xs)) x zs ys j = joins_less (v ∷ xs) x zs ys j

  pub joins_first : (xs : List A) (y : A) (ys zs : List A) → Joins R xs (y ∷ ys) → Joins R xs (y ∷ zs)
  joins_first [] y ys zs j = tt
  joins_first (x ∷ []) y ys zs j = j
  joins_first (x ∷ (w ∷ xs)) y ys zs j = joins_first (w ∷ xs) y ys zs j

  -- by index
  pub chain_at : (xs : List A) (i : ℕ) (d : A) → Chain R xs → suc i < length xs
      → R (get_or xs i d) (get_or xs (suc i) d)
  chain_at [] i d c o = absurd (omega arith)
  chain_at (x ∷ []) i d c o = absurd (omega arith)
  chain_at (x ∷ (y ∷ ys)) zero d c o = c.0
  chain_at (x ∷ (y ∷ ys)) (suc i) d c o = chain_at (y ∷ ys) i d c.1 (omega arith)

  pub chain_from : (xs : List A) (d : A)
      → ((i : ℕ) → suc i < length xs → R (get_or xs i d) (get_or xs (suc i) d)) → Chain R xs
  chain_from [] d h = tt
  chain_from (x ∷ []) d h = tt
  chain_from (x ∷ (y ∷ ys)) d h = (h zero (omega arith), chain_from (y ∷ ys) d (λ i o. h (suc i) (omega arith)))

  pub joins_from : (xs ys : List A) (d : A)
      → ((i : ℕ) → suc i ≡ length xs → 0 < length ys → R (get_or xs i d) (get_or ys 0 d)) → Joins R xs ys
  joins_from [] ys d h = tt
  joins_from (x ∷ []) [] d h = tt
  joins_from (x ∷ []) (y ∷ ys) d h = h zero refl (omega arith)
  joins_from (x ∷ (z ∷ xs)) ys d h = joins_from (z ∷ xs) ys d (λ i e o. h (suc i) (omega arith) o)

module _ {A : Type 0} (P : A → Type 0) (R S : A → A → Type 0) (f : (x y : A) → P x → P y → R x y → S x y) where
  pub chain_map : (xs : List A) → AllByRecursion P xs → Chain R xs → Chain S xs
  chain_map [] a c = tt
  chain_map (x ∷ []) a c = tt
  chain_map (x ∷ (y ∷ ys)) a c = (f x y a.0 a.1.0 c.0, chain_map (y ∷ ys) a.1 c.1)

  pub joins_map : (xs ys : List A) → AllByRecursion P xs → AllByRecursion P ys → Joins R xs ys → Joins S xs ys
  joins_map [] ys a b j = tt
  joins_map (x ∷ []) [] a b j = tt
  joins_map (x ∷ []) (y ∷ ys) a b j = f x y a.0 b.0 j
  joins_map (x ∷ (z ∷ xs)) ys a b j = joins_map (z ∷ xs) ys a.1 b j

pub weaker : {A : Type 0} (P Q : A → Type 0) → ((x : A) → P x → Q x) → (xs : List A) → AllByRecursion P xs
    → AllByRecursion Q xs
weaker P Q f [] h = tt
weaker P Q f (x ∷ xs) h = (f x h.0, weaker P Q f xs h.1)

-- another first of the second list
pub joins_swap : {A : Type 0} (P : A → Type 0) (R S : A → A → Type 0) (y z : A)
    → ((x : A) → P x → R x y → S x z) → (xs ys zs : List A) → AllByRecursion P xs → Joins R xs (y ∷ ys)
    → Joins S xs (z ∷ zs)
joins_swap P R S y z f [] ys zs a j = tt
joins_swap P R S y z f (x ∷ []) ys zs a j = f x a.0 j
joins_swap P R S y z f (x ∷ (w ∷ xs)) ys zs a j = joins_swap P R S y z f (w ∷ xs) ys zs a.1 j

pub joins_all : {A : Type 0} (R : A → A → Type 0) (xs : List A) (y : A) (ys : List A)
    → AllByRecursion (λ x. R x y) xs → Joins R xs (y ∷ ys)
joins_all R [] y ys a = tt
joins_all R (x ∷ []) y ys a = a.0
joins_all R (x ∷ (w ∷ xs)) y ys a = joins_all R (w ∷ xs) y ys a.1
