-- The cells of a leaf are found, one from the other.
use Rattle.std.proofs.Common.{◌⊎◌, inl, inr, ◌≡◌, ◌≢◌, ℕ, zero, suc, ◌+◌, ◌-◌, ◌<◌, ◌≤◌, Bool, List, [], ◌∷◌, ◌++◌, length, get_or, map, refl, sym, ap, ◌∙◌, subst, arith}
use Rattle.std.proofs.lemmas.List.{length-append}
use Rattle.slice_held.specs.declared.cell.Cell.{Cell}
use Rattle.slice_held.specs.Cells.{cell_at, bare, holds, AreSet}
use Rattle.slice_held.specs.Chain.{IsLast, AreChained}
use Rattle.slice_held.proofs.Sound.{leaf_at, size_is, at_front, at_end, past_end, one_longer, end_or}

-- counts don't matter
last_by : (xs ys : List Cell) → map bare ys ≡ map bare xs → (leaf place n : ℕ) → IsLast xs leaf place n
    → IsLast ys leaf place n
last_by xs ys e leaf place n h =
    record {
      within = h.within;
      own = λ i k. leaf_at xs ys e i ∙ h.own i k;
      none_after = λ i l k. h.none_after i l (sym (leaf_at xs ys e i) ∙ k);
    }

pub chained_by : (xs ys : List Cell) (lasts earlier : List ℕ) → map bare ys ≡ map bare xs → AreChained xs lasts earlier
    → AreChained ys lasts earlier
chained_by xs ys lasts earlier e h =
    record {
      size = h.size ∙ sym (size_is xs ys e);
      begin = λ leaf l. last_by xs ys e leaf (length ys) (get_or lasts leaf 0)
          (subst (λ (n : ℕ). IsLast xs leaf n (get_or lasts leaf 0)) (sym (size_is xs ys e)) (h.begin leaf l));
      go_on = λ i leaf l m k. last_by xs ys e leaf i (get_or earlier i 0)
          (h.go_on i leaf (subst (λ (n : ℕ). i < n) (size_is xs ys e) l) m (sym (leaf_at xs ys e i) ∙ k));
    }

-- ---- a cell added
number_front : (xs ys : List ℕ) (j : ℕ) → j < length xs → get_or (xs ++ ys) j 0 ≡ get_or xs j 0
number_front [] ys j l = absurd (omega arith)
number_front (x ∷ xs) ys zero l = refl
number_front (x ∷ xs) ys (suc j) l = number_front xs ys j (omega arith)

number_end : (xs : List ℕ) (n : ℕ) → get_or (xs ++ (n ∷ [])) (length xs) 0 ≡ n
number_end [] n = refl
number_end (x ∷ xs) n = number_end xs n

eq_or : (m n : ℕ) → (m ≡ n) ⊎ (m ≢ n)
eq_or m n = grind arith

module _ (xs : List Cell) (c : Cell) (lasts news earlier : List ℕ) (before : ℕ) (h : AreChained xs lasts earlier)
    (size : length news ≡ length lasts)
    (this : (leaf : ℕ) → leaf < length lasts → c.leaf ≡ leaf + 1 → (get_or news leaf 0 ≡ length xs + 1) ×
    (before ≡ get_or lasts leaf 0))
    (others : (leaf : ℕ) → leaf < length lasts → c.leaf ≢ leaf + 1 → get_or news leaf 0 ≡ get_or lasts leaf 0) where
  abbrev all : List Cell
  all = xs ++ (c ∷ [])

  abbrev links : List ℕ
  links = earlier ++ (before ∷ [])

  last_is : (i : ℕ) → i ≡ length xs → cell_at all i ≡ c
  last_is i e = ap (cell_at all) e ∙ at_end xs c

  last_front : (leaf place n : ℕ) → place ≤ length xs → IsLast xs leaf place n → IsLast all leaf place n
  last_front leaf place n l p =
      record {
        within = p.within;
        own = λ i k. ap (λ (d : Cell). d.leaf) (at_front xs (c ∷ []) i (own_place i n place
            (length xs) k p.within l)) ∙ p.own i k;
        none_after = λ i m k. p.none_after i m
            (sym (ap (λ (d : Cell). d.leaf) (at_front xs (c ∷ []) i (in_place i place (length xs) m l))) ∙ k);
      }
    where
      own_place : (i n place m : ℕ) → n ≡ i + 1 → n ≤ place → place ≤ m → i < m
      own_place i n place m k l h = omega arith

      in_place : (i place m : ℕ) → i < place → place ≤ m → i < m
      in_place i place m k l = omega arith

  old_or : (i : ℕ) → i < length all → (i < length xs) ⊎ (i ≡ length xs)
  old_or i l = end_or i (length xs) (subst (λ (n : ℕ). i < n) (one_longer xs c) l)

  itself : (n : ℕ) → n ≤ n
  itself n = omega arith

  begin_more : (leaf : ℕ) → leaf < length lasts → IsLast all leaf (length all) (get_or news leaf 0)
  begin_more leaf l = by_leaf (eq_or c.leaf (leaf + 1))
    where
      own_last : (i n : ℕ) → n + 1 ≡ i + 1 → i ≡ n
      own_last i n k = omega arith

      up_one : (m n k : ℕ) → m ≤ n → k ≡ n + 1 → m ≤ k
      up_one m n k l e = omega arith

      not_this : {A : Type 0} (i : ℕ) → c.leaf ≢ leaf + 1 → i ≡ length xs → (cell_at all i).leaf ≡ leaf + 1 → A
      not_this i n e k = absurd (n (sym (ap (λ (d : Cell). d.leaf) (last_is i e)) ∙ k))

      by_place : (old : IsLast xs leaf (length xs) (get_or lasts leaf 0)) → c.leaf ≢ leaf + 1 → (i : ℕ)
          → (i < length xs) ⊎ (i ≡ length xs) → (cell_at all i).leaf ≡ leaf + 1 → i < get_or lasts leaf 0
      by_place old n i (inl b) k = old.none_after i b (sym (ap (λ (d : Cell). d.leaf) (at_front xs (c ∷ []) i b)) ∙ k)
      by_place old n i (inr e) k = not_this i n e k

      by_leaf : (c.leaf ≡ leaf + 1) ⊎ (c.leaf ≢ leaf + 1) → IsLast all leaf (length all) (get_or news leaf 0)
      by_leaf (inl e) =
          subst (IsLast all leaf (length all)) (sym ((this leaf l e).0))
          (record {
            within = subst (λ (n : ℕ). length xs + 1 ≤ n) (sym (one_longer xs c)) (itself (length xs + 1));
            own = λ i k. ap (λ (d : Cell). d.leaf) (last_is i (own_last i (length xs) k)) ∙ e;
            none_after = λ i m k. subst (λ (n : ℕ). i < n) (one_longer xs c) m;
          })
      by_leaf (inr n) =
          let old : IsLast xs leaf (length xs) (get_or lasts leaf 0) = h.begin leaf l in
          let front : IsLast all leaf (length xs) (get_or lasts leaf 0) =
          last_front leaf (length xs) (get_or lasts leaf 0) (itself (length xs)) old in
          subst (IsLast all leaf (length all)) (sym (others leaf l n))
          (record {
            within = up_one (get_or lasts leaf 0) (length xs) (length all) old.within (one_longer xs c);
            own = front.own;
            none_after = λ i m k. by_place old n i (old_or i m) k;
          })

  go_on_more : (i leaf : ℕ) → i < length all → leaf < length lasts → (cell_at all i).leaf ≡ leaf + 1
      → IsLast all leaf i (get_or links i 0)
  go_on_more i leaf l m k = by_place (old_or i l)
    where
      less : (i n : ℕ) → i < n → i ≤ n
      less i n l = omega arith

      by_place : (i < length xs) ⊎ (i ≡ length xs) → IsLast all leaf i (get_or links i 0)
      by_place (inl b) =
          subst (IsLast all leaf i) (sym (number_front earlier (before ∷ []) i (subst (λ (n : ℕ). i < n)
          (sym h.size) b)))
          (last_front leaf i (get_or earlier i 0) (less i (length xs) b)
          (h.go_on i leaf b m (sym (ap (λ (d : Cell). d.leaf) (at_front xs (c ∷ []) i b)) ∙ k)))
      by_place (inr e) =
          let own : c.leaf ≡ leaf + 1 = sym (ap (λ (d : Cell). d.leaf) (last_is i e)) ∙ k in
          subst (λ (j : ℕ). IsLast all leaf j (get_or links j 0)) (sym e)
          (subst (IsLast all leaf (length xs)) (sym (ap (λ (j : ℕ). get_or links j 0) (sym h.size)
          ∙ number_end earlier before ∙ (this leaf m own).1))
          (last_front leaf (length xs) (get_or lasts leaf 0) (itself (length xs)) (h.begin leaf m)))

  pub chained_more : AreChained all news links
  chained_more =
      record {
        size = length-append earlier (before ∷ []) ∙ ap (λ (n : ℕ). n + 1) h.size ∙ sym (one_longer xs c);
        begin = λ leaf l. begin_more leaf (subst (λ (n : ℕ). leaf < n) size l);
        go_on = λ i leaf l m k. go_on_more i leaf l (subst (λ (n : ℕ). leaf < n) size m) k;
      }

-- ---- a leaf set, from its last cell to its first
pub record IsSetFrom (leaf : ℕ) (inside : Bool) (place : ℕ) (xs ys : List Cell) : Type 0 where
  pub done : (i : ℕ) → (cell_at xs i).leaf ≡ leaf + 1 → place ≤ i → holds (cell_at ys i) ≡ inside
  pub kept : (i : ℕ) → (cell_at xs i).leaf ≢ leaf + 1 → (cell_at xs i).leaf ≢ 0 → cell_at ys i ≡ cell_at xs i

pub record IsOn (xs : List Cell) (leaf place : ℕ) : Type 0 where
  pub within : place ≤ length xs
  pub own : (i : ℕ) → place ≡ i + 1 → (cell_at xs i).leaf ≡ leaf + 1

not_none : {A : Type 0} (n : ℕ) → 0 ≡ n + 1 → A
not_none n e = absurd (omega (arith, e))

pub on_begin : (xs : List Cell) (lasts earlier : List ℕ) (leaf : ℕ) → AreChained xs lasts earlier → leaf < length lasts
    → IsOn xs leaf (get_or lasts leaf 0)
on_begin xs lasts earlier leaf h l = record { within = (h.begin leaf l).within; own = (h.begin leaf l).own }

pub set_begin : (xs : List Cell) (lasts earlier : List ℕ) (leaf : ℕ) (inside : Bool) → AreChained xs lasts earlier
    → leaf < length lasts → IsSetFrom leaf inside (get_or lasts leaf 0) xs xs
set_begin xs lasts earlier leaf inside h l =
    record { done = λ i k m. by_place i k m (below_or i (length xs)); kept = λ i n m. refl }
  where
    below_or : (i n : ℕ) → (i < n) ⊎ (n ≤ i)
    below_or i n = grind arith

    both : {A : Type 0} (i n : ℕ) → i < n → n ≤ i → A
    both i n l m = absurd (omega (arith, l, m))

    by_place : (i : ℕ) → (cell_at xs i).leaf ≡ leaf + 1 → get_or lasts leaf 0 ≤ i → (i < length xs) ⊎ (length xs ≤ i)
        → holds (cell_at xs i) ≡ inside
    by_place i k m (inl b) = both i (get_or lasts leaf 0) ((h.begin leaf l).none_after i b k) m
    by_place i k m (inr b) = not_none leaf (sym (ap (λ (d : Cell). d.leaf) (past_end xs i b)) ∙ k)

module _ (xs ys zs : List Cell) (lasts earlier : List ℕ) (leaf : ℕ) (inside : Bool) (place k : ℕ)
    (h : AreChained xs lasts earlier) (l : leaf < length lasts) (bares : map bare ys ≡ map bare xs)
    (on : IsOn xs leaf place) (is : place ≡ k + 1) where
  reach : k < length xs
  reach = by_size k place (length xs) is on.within
    where
      by_size : (k p n : ℕ) → p ≡ k + 1 → p ≤ n → k < n
      by_size k p n e l = omega arith

  before : IsLast xs leaf k (get_or earlier k 0)
  before = h.go_on k leaf reach l (on.own k is)

  pub on_more : IsOn xs leaf (get_or earlier k 0)
  on_more = record { within = within (get_or earlier k 0) k (length xs) before.within reach; own = before.own }
    where
      within : (n k m : ℕ) → n ≤ k → k < m → n ≤ m
      within n k m l h = omega arith

  pub goes_down : get_or earlier k 0 < place
  goes_down = less (get_or earlier k 0) k place before.within is
    where
      less : (n k p : ℕ) → n ≤ k → p ≡ k + 1 → n < p
      less n k p l e = omega arith

  pub links_reach : k < length earlier
  links_reach = subst (λ (n : ℕ). k < n) (sym h.size) reach

  pub cells_reach : k < length ys
  cells_reach = subst (λ (n : ℕ). k < n) (sym (size_is xs ys bares)) reach

  pub is_leaf : (cell_at ys k).leaf ≢ 0
  is_leaf e = not_none leaf (sym e ∙ leaf_at xs ys bares k ∙ on.own k is)

  pub set_more : IsSetFrom leaf inside place xs ys → holds (cell_at zs k) ≡ inside
      → ((i : ℕ) → i ≢ k → (cell_at ys i).leaf ≢ 0 → cell_at zs i ≡ cell_at ys i)
      → IsSetFrom leaf inside (get_or earlier k 0) xs zs
  set_more s own others =
      record {
        done = λ i e m. by_place i e m (three i k);
        kept = λ i n m. others i (λ e. n (ap (λ (j : ℕ). (cell_at xs j).leaf) e ∙ on.own k is))
            (λ z. m (sym (leaf_at xs ys bares i) ∙ z)) ∙ s.kept i n m;
      }
    where
      three : (i k : ℕ) → (i < k) ⊎ ((i ≡ k) ⊎ (k < i))
      three i k = grind arith

      both : {A : Type 0} (i n : ℕ) → i < n → n ≤ i → A
      both i n l m = absurd (omega (arith, l, m))

      apart : (i k : ℕ) → k < i → i ≢ k
      apart i k l e = omega arith

      after : (i k p : ℕ) → p ≡ k + 1 → k < i → p ≤ i
      after i k p e l = omega arith

      by_place : (i : ℕ) → (cell_at xs i).leaf ≡ leaf + 1 → get_or earlier k 0 ≤ i → (i < k) ⊎ ((i ≡ k) ⊎ (k < i))
          → holds (cell_at zs i) ≡ inside
      by_place i e m (inl b) = both i (get_or earlier k 0) (before.none_after i b e) m
      by_place i e m (inr (inl q)) = ap (λ (j : ℕ). holds (cell_at zs j)) q ∙ own
      by_place i e m (inr (inr b)) =
          ap holds (others i (apart i k b) (λ z. not_none leaf (sym z ∙ leaf_at xs ys bares i ∙ e)))
          ∙ s.done i e (after i k place is b)

pub set_end : (xs ys : List Cell) (leaf place : ℕ) (inside : Bool) → place ≤ 0 → IsSetFrom leaf inside place xs ys
    → AreSet leaf inside xs ys
set_end xs ys leaf place inside l s i = (λ e. s.done i e (least place i l), s.kept i)
  where
    least : (p i : ℕ) → p ≤ 0 → p ≤ i
    least p i l = omega arith

pub one_before : (p : ℕ) → 0 < p → p ≡ (p - 1) + 1
one_before p l = omega arith
