-- In an ordered list the elements that tie with one stand side by side, from the first that doesn't come before it.
use Rattle.std.proofs.Common.{◌≡◌, ◌⊎◌, inl, inr, ℕ, zero, suc, ◌+◌, ◌<◌, ◌≤◌, Bool, true, false, true≢false, not, ◌&&◌, List, [], ◌∷◌, length, get_or, refl, sym, ap, ◌∙◌, subst, arith}
use Rattle.std.specs.Prelude.{count_by, cond}
use Rattle.std.specs.Ordering.{ordering_reverse, is_lt, is_eq}
use Rattle.std.specs.declared.cmp.Ordering.{Ordering}
use Rattle.std.specs.declared.cmp.Ordering.TheVariants.{Less, Equal, Greater}
use Rattle.std.specs.Cmp.{IsTotalOrder, IsStrictWeakOrder}
use Rattle.std.specs.List.Sorted.{IsSorted, IsPartitionedBy, IsPartitionPoint}
use Rattle.slice_snap.specs.EndOrder.{holds_at}
use Rattle.std.proofs.lemmas.List.Sums.{sum_by-cons}
use Rattle.std.proofs.lemmas.List.Sorted.{ranks_by, sorted_far}
use Rattle.std.proofs.lemmas.Bool.{cases_lt}

abbrev once : Bool → ℕ
once b = cond b 1 0

-- ---- a test that holds side by side, from a place on
module _ {X : Type 0} (t : X → Bool) where
  pub holds_past : (xs : List X) (k : ℕ) → length xs ≤ k → holds_at t xs k ≡ false
  holds_past [] k l = refl
  holds_past (x ∷ xs) zero l = absurd (omega arith)
  holds_past (x ∷ xs) (suc k) l = holds_past xs k (omega arith)

  pub holds_there : (xs : List X) (k : ℕ) (d : X) → k < length xs → holds_at t xs k ≡ t (get_or xs k d)
  holds_there [] k d l = absurd (omega arith)
  holds_there (x ∷ xs) zero d l = refl
  holds_there (x ∷ xs) (suc k) d l = holds_there xs k d (omega arith)

  pub holds_inside : (xs : List X) (k : ℕ) → holds_at t xs k ≡ true → k < length xs
  holds_inside [] k h = absurd (true≢false (sym h))
  holds_inside (x ∷ xs) zero h = omega arith
  holds_inside (x ∷ xs) (suc k) h = let l = holds_inside xs k h in omega arith

  -- it fails before a place, and from there on it holds before each element for which it holds
  pub record IsBlock (xs : List X) (k : ℕ) : Type 0 where
    pub before : (i : ℕ) → i < k → holds_at t xs i ≡ false
    pub from : (i j : ℕ) → k ≤ i → i ≤ j → holds_at t xs j ≡ true → holds_at t xs i ≡ true

  counted : (x : X) (xs : List X) → count_by t (x ∷ xs) ≡ once (t x) + count_by t xs
  counted x xs = sum_by-cons (λ y. once (t y)) x xs

  zero_more : (n : ℕ) → 0 + n ≡ n
  zero_more n = omega arith

  skipped : (x : X) (xs : List X) → t x ≡ false → count_by t (x ∷ xs) ≡ count_by t xs
  skipped x xs h = counted x xs ∙ ap (λ (c : Bool). once c + count_by t xs) h ∙ zero_more (count_by t xs)

  one_more : (x : X) (xs : List X) → t x ≡ true → count_by t (x ∷ xs) ≡ 1 + count_by t xs
  one_more x xs h = counted x xs ∙ ap (λ (c : Bool). once c + count_by t xs) h

  later : (x : X) (xs : List X) (k : ℕ) → IsBlock (x ∷ xs) (suc k) → IsBlock xs k
  later x xs k b = record {
    before = λ i l. b.before (suc i) (omega arith);
    from
        = λ i j l m h. b.from (suc i) (suc j) (omega arith) (omega arith) h;
  }

  rest : (x : X) (xs : List X) → IsBlock (x ∷ xs) 0 → IsBlock xs 0
  rest x xs b = record {
    before = λ i l. absurd (omega arith);
    from
        = λ i j l m h. b.from (suc i) (suc j) (omega arith) (omega arith) h;
  }

  none : (xs : List X) → IsBlock xs 0 → holds_at t xs 0 ≡ false → count_by t xs ≡ 0
  none [] b h = refl
  none (x ∷ xs) b h = skipped x xs h ∙ none xs (rest x xs b) (next (holds_at t xs 0) refl)
    where
      next : (c : Bool) → holds_at t xs 0 ≡ c → c ≡ false
      next false e = refl
      next true e = absurd (true≢false (sym (b.from 0 1 (omega arith) (omega arith) e) ∙ h))

  -- it holds once where it holds at the place and not at the next
  pub once_here : (xs : List X) (k : ℕ) → IsBlock xs k → holds_at t xs k ≡ true
      → holds_at t xs (suc k) ≡ false → count_by t xs ≡ 1
  once_here [] k b h g = absurd (true≢false (sym h))
  once_here (x ∷ xs) zero b h g = one_more x xs h ∙ ap (λ (n : ℕ). 1 + n) (none xs (rest x xs b) g)
  once_here (x ∷ xs) (suc k) b h g = skipped x xs (b.before 0 (omega arith)) ∙ once_here xs k (later x xs k b) h g

  none_once : (n : ℕ) → n ≡ 0 → n ≡ 1 → ⊥
  none_once n h k = omega arith

  two_once : (n m : ℕ) → n ≡ 1 + (1 + m) → n ≡ 1 → ⊥
  two_once n m h k = omega arith

  pub not_once : (xs : List X) (k : ℕ) → IsBlock xs k → (holds_at t xs k && not (holds_at t xs (suc k))) ≡ false
      → count_by t xs ≡ 1 → ⊥
  not_once [] k b h o = none_once 0 refl o
  not_once (x ∷ xs) (suc k) b h o = not_once xs k (later x xs k b) h
      (sym (skipped x xs (b.before 0 (omega arith))) ∙ o)
  not_once (x ∷ []) zero b h o = by_test (t x) refl
    where
      by_test : (c : Bool) → t x ≡ c → ⊥
      by_test true e = true≢false (sym (ap (λ (c : Bool). c && true) e) ∙ h)
      by_test false e = none_once _ (none (x ∷ []) b e) o
  not_once (x ∷ (y ∷ ys)) zero b h o = by_test (t x) (t y) refl refl
    where
      by_test : (c e : Bool) → t x ≡ c → t y ≡ e → ⊥
      by_test false e p q = none_once _ (none (x ∷ (y ∷ ys)) b p) o
      by_test true false p q = true≢false (sym (ap (λ (c : Bool). c && not (t y)) p ∙ ap not q) ∙ h)
      by_test true true p q =
          two_once (count_by t (x ∷ (y ∷ ys))) (count_by t ys)
          (one_more x (y ∷ ys) p ∙ ap (λ (n : ℕ). 1 + n) (one_more y ys q)) o

  pub one_here : (xs : List X) (k : ℕ) → IsBlock xs k → holds_at t xs k ≡ true
      → holds_at t xs (k + 1) ≡ false → count_by t xs ≡ 1
  one_here xs k b h g = let next : k + 1 ≡ suc k = omega arith in once_here xs k b h (subst (λ (n : ℕ). holds_at t xs n ≡ false) next g)

  pub none_here : (xs : List X) (k : ℕ) → IsBlock xs k → holds_at t xs k ≡ false → count_by t xs ≡ 1 → ⊥
  none_here xs k b h = not_once xs k b (ap (λ (c : Bool). c && not (holds_at t xs (suc k))) h)

  pub more_here : (xs : List X) (k : ℕ) → IsBlock xs k → holds_at t xs k ≡ true
      → holds_at t xs (k + 1) ≡ true → count_by t xs ≡ 1 → ⊥
  more_here xs k b h g =
      let next : k + 1 ≡ suc k = omega arith in
      not_once xs k b
      (ap (λ (c : Bool). c && not (holds_at t xs (suc k))) h
      ∙ ap not (subst (λ (n : ℕ). holds_at t xs n ≡ true) next g))

-- ---- the elements of an ordered list that tie with one
module _ {X : Type 0} (R : X → X → Ordering) (o : IsTotalOrder R) (x : X) where
  abbrev pub comes_before : X → Bool
  comes_before y = is_lt (R y x)

  abbrev pub ties : X → Bool
  ties y = is_eq (R x y)

  pub parted : (xs : List X) → IsSorted R xs → IsPartitionedBy comes_before xs
  parted xs up i j d l m h = by_test (comes_before (get_or xs i d)) refl
    where
      order : IsStrictWeakOrder (λ y z. is_lt (R y z))
      order = ranks_by o (λ y. y)

      by_test : (b : Bool) → comes_before (get_or xs i d) ≡ b → b ≡ true
      by_test true e = refl
      by_test false e = absurd (true≢false
          (sym h ∙ order.chain (get_or xs j d) (get_or xs i d) x
          (sorted_far (λ y z. is_lt (R y z)) order xs up i j d l m) e))

  before_apart : (r : Ordering) → is_lt (ordering_reverse r) ≡ true → is_eq r ≡ false
  before_apart Less h = refl
  before_apart Equal h = absurd (true≢false (sym h))
  before_apart Greater h = refl

  neither : (r : Ordering) → is_lt r ≡ false → is_lt (ordering_reverse r) ≡ false → is_eq r ≡ true
  neither Less a b = absurd (true≢false a)
  neither Equal a b = refl
  neither Greater a b = absurd (true≢false b)

  equal_by : (r : Ordering) → is_eq r ≡ true → r ≡ Equal
  equal_by Less h = absurd (true≢false (sym h))
  equal_by Equal h = refl
  equal_by Greater h = absurd (true≢false (sym h))

  apart_before : (y : X) → comes_before y ≡ true → ties y ≡ false
  apart_before y h = before_apart (R x y) (ap is_lt (sym (o.antisymm y x)) ∙ h)

  tied_too : (y z : X) → comes_before y ≡ false → is_lt (R z y) ≡ false → ties z ≡ true → ties y ≡ true
  tied_too y z h s t = neither (R x y) (ap is_lt (o.congr x z y (equal_by (R x z) t)) ∙ s)
      (ap is_lt (sym (o.antisymm y x)) ∙ h)

  pub tied_block : (xs : List X) (k : ℕ) (d : X) → IsSorted R xs
      → IsPartitionPoint (λ y. comes_before y ≡ true) (λ y. comes_before y ≡ false) xs k → IsBlock ties xs k
  tied_block xs k d up point = record {
    before = λ i l. fails i l (cases_lt i (length xs));
    from
        = λ i j l m h. holds i j l m h (cases_lt j (length xs));
  }
    where
      fails : (i : ℕ) → i < k → (i < length xs) ⊎ (length xs ≤ i) → holds_at ties xs i ≡ false
      fails i l (inl a) = holds_there ties xs i d a ∙ apart_before (get_or xs i d) (point.0 i d (omega arith) l)
      fails i l (inr a) = holds_past ties xs i a

      holds : (i j : ℕ) → k ≤ i → i ≤ j → holds_at ties xs j ≡ true
          → (j < length xs) ⊎ (length xs ≤ j) → holds_at ties xs i ≡ true
      holds i j l m h (inr a) = absurd (true≢false (sym h ∙ holds_past ties xs j a))
      holds i j l m h (inl a) =
          holds_there ties xs i d (omega arith)
          ∙ tied_too (get_or xs i d) (get_or xs j d) (point.1 i d l (omega arith))
          (sorted_far (λ y z. is_lt (R y z)) (ranks_by o (λ y. y)) xs up i j d m a)
          (sym (holds_there ties xs j d a) ∙ h)
