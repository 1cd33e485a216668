-- What operations are told where one cell changes.
use Rattle.std.proofs.Common.{◌⊎◌, inl, inr, ◌≡◌, ◌≢◌, ℕ, zero, suc, ◌+◌, ◌-◌, ◌<◌, ◌≤◌, ◌^◌, Bool, true, false, cond, ◌&&◌, List, [], ◌∷◌, length, set, get_or, map, refl, sym, ap, ap₂, ◌∙◌, subst, arith}
use Rattle.std.specs.Prelude.{count_by, ◌==◌}
use Rattle.std.proofs.lemmas.List.Sums.{sum_by-set, count_by-le-length}
use Rattle.std.proofs.lemmas.List.{get_or-set_same, get_or-set_other, length-set}
use Rattle.slice_held.specs.declared.cell.Cell.{Cell}
use Rattle.slice_held.specs.Cells.{no_cell, cell_at, bare, differ, is_told, tells, told, moved, ParentsComeFirst, ParentsAreOperations, IsCounted, AreCounted, IsRightFor, Recounts}

-- once, where a test holds
abbrev pub once : Bool → ℕ
once b = cond b 1 0

-- what a new cell in a place changes in what an operation is told
told_set : (cells : List Cell) (at : ℕ) (c : Cell) (i : ℕ) → at < length cells
    → told (set cells at c) i + once (tells i (cell_at cells at)) ≡ told cells i + once (tells i c)
told_set cells at c i l = sum_by-set (λ x. once (tells i x)) cells at c no_cell l

same_left : (a b m : ℕ) → a + m ≡ b + m → a ≡ b
same_left a b m h = omega arith

no_parent : (p i : ℕ) → p ≢ i + 1 → (p == i + 1) ≡ false
no_parent p i h = grind arith

pub none_told : (c : Cell) (i : ℕ) → c.parent ≢ i + 1 → once (tells i c) ≡ 0
none_told c i h = ap (λ (b : Bool). once (b && is_told c)) (no_parent c.parent i h)

not_lost : (a b m n : ℕ) → a + m ≡ b + n → m ≡ 0 → n ≡ 0 → a ≡ b
not_lost a b m n h k l = omega arith

one_more : (a b : ℕ) → a + 0 ≡ b + 1 → b + 1 ≡ a
one_more a b h = omega arith

one_less : (a b : ℕ) → a + 1 ≡ b + 0 → b ≡ a + 1
one_less a b h = omega arith

here_is : (p : ℕ) → (p == p) ≡ true
here_is p = grind arith

-- what the parent is told of a cell
pub told_parent : (c : Cell) (p : ℕ) → c.parent ≡ p + 1 → once (tells p c) ≡ once (is_told c)
told_parent c p h = ap (λ (n : ℕ). once ((n == p + 1) && is_told c)) h
    ∙ ap (λ (b : Bool). once (b && is_told c)) (here_is (p + 1))

eq_or : (m n : ℕ) → (m ≡ n) ⊎ (m ≢ n)
eq_or m n = grind arith

is_other : (c d : Bool) → differ c d ≡ true → d ≡ true → c ≡ false
is_other c d h e = grind arith

is_this : (c d : Bool) → differ c d ≡ true → d ≡ false → c ≡ true
is_this c d h e = grind arith

alike_or : (a b : Bool) → differ a b ≡ false → a ≡ b
alike_or a b h = grind arith

too_great : (p at : ℕ) → p ≡ at + 1 → p ≤ at → ⊥
too_great p at h l = omega arith

no_such : (p i : ℕ) → p ≡ 0 → p ≢ i + 1
no_such p i h k = omega arith

one_parent : (c p i : ℕ) → c ≡ p + 1 → c ≡ i + 1 → i ≡ p
one_parent c p i h k = omega arith

one_below : (p : ℕ) → 0 < p → p ≡ (p - 1) + 1
one_below p h = omega arith

by_size : (p at : ℕ) → 0 < p → p ≤ at → p - 1 < at
by_size p at l m = omega arith

nearer : (p at n : ℕ) → p < at → at < n → p < n
nearer p at n l m = omega arith

not_itself : (p at : ℕ) → p < at → p ≢ at
not_itself p at l e = omega arith

module _ (cells : List Cell) (at : ℕ) (next : Cell) (there : at < length cells) (parents : ParentsComeFirst cells)
    (operations : ParentsAreOperations cells) (right : IsRightFor cells at next) where
  abbrev cell : Cell
  cell = cell_at cells at

  abbrev after : List Cell
  after = set cells at next

  away : (i : ℕ) → i ≢ at → cell_at after i ≡ cell_at cells i
  away i h = get_or-set_other cells at i next no_cell h

  here : cell_at after at ≡ next
  here = get_or-set_same cells at next no_cell there

  one_of : next.parent ≡ cell.parent
  one_of = ap (λ (c : Cell). c.parent) right.same

  shorter : {i : ℕ} → i < length after → i < length cells
  shorter {i} l = subst (λ (n : ℕ). i < n) (length-set cells at next) l

  -- an operation that isn't the parent is told the same
  told_other : (i : ℕ) → cell.parent ≢ i + 1 → told after i ≡ told cells i
  told_other i h =
      not_lost (told after i) (told cells i) (once (tells i cell)) (once (tells i next))
      (told_set cells at next i there)
      (none_told cell i h) (none_told next i (λ e. h (sym one_of ∙ e)))

  -- nor is any told otherwise where the cell is told as before
  told_same : (i : ℕ) → is_told cell ≡ is_told next → told after i ≡ told cells i
  told_same i h =
      same_left (told after i) (told cells i) (once (tells i cell))
      (told_set cells at next i there ∙ ap₂ (λ (p : ℕ) (b : Bool). told cells i + once ((p == i + 1) && b)) one_of
      (sym h))

  not_own : cell.parent ≢ at + 1
  not_own h = too_great cell.parent at h (parents at there)

  own_count : IsCounted after at
  own_count leaf = ap (λ (c : Cell). c.count) here ∙ right.count (sym (ap (λ (c : Cell). c.leaf) here) ∙ leaf)
      ∙ sym (told_other at not_own)

  other_count : (i : ℕ) → i < length cells → i ≢ at → told after i ≡ told cells i → IsCounted after i
  other_count i l h e leaf =
      ap (λ (c : Cell). c.count) (away i h) ∙ right.others i l h (sym (ap (λ (c : Cell). c.leaf) (away i h)) ∙ leaf)
      ∙ sym e

  all_but : (i : ℕ) → i < length cells → (i ≢ at → told after i ≡ told cells i) → IsCounted after i
  all_but i l h = by_place (eq_or i at)
    where
      by_place : (i ≡ at) ⊎ (i ≢ at) → IsCounted after i
      by_place (inl e) = subst (IsCounted after) (sym e) own_count
      by_place (inr n) = other_count i l n (h n)

  -- where the cell is told as before, or has no parent, all are right
  pub settled : (differ (is_told cell) (is_told next) ≡ false) ⊎ (cell.parent ≡ 0) → AreCounted after
  settled (inl e) i l = all_but i (shorter l) (λ n. told_same i (alike_or (is_told cell) (is_told next) e))
  settled (inr e) i l = all_but i (shorter l) (λ n. told_other i (no_such cell.parent i e))

  -- else its parent alone lags, by one
  module _ (changes : differ (is_told cell) (is_told next) ≡ true) (p : ℕ) (is_parent : cell.parent ≡ p + 1)
      (below : p < at) where
    before : (cell_at after p).count ≡ told cells p
    before = ap (λ (c : Cell). c.count) (away p (not_itself p at below))
        ∙ right.others p (nearer p at (length cells) below there) (not_itself p at below)
        (operations at p there is_parent)

    of_next : once (tells p next) ≡ once (is_told next)
    of_next = told_parent next p (one_of ∙ is_parent)

    more : is_told next ≡ true → told cells p + 1 ≡ told after p
    more f =
        one_more (told after p) (told cells p)
        (ap (λ (n : ℕ). told after p + n)
        (sym (told_parent cell p is_parent ∙ ap once (is_other (is_told cell) (is_told next) changes f)))
        ∙ told_set cells at next p there ∙ ap (λ (n : ℕ). told cells p + n) (of_next ∙ ap once f))

    less : is_told next ≡ false → told cells p ≡ told after p + 1
    less f =
        one_less (told after p) (told cells p)
        (ap (λ (n : ℕ). told after p + n)
        (sym (told_parent cell p is_parent ∙ ap once (is_this (is_told cell) (is_told next) changes f)))
        ∙ told_set cells at next p there ∙ ap (λ (n : ℕ). told cells p + n) (of_next ∙ ap once f))

    pub parent_few : length cells < 2 ^ 63 → (cell_at after p).count + 1 < 2 ^ 64
    parent_few few = small (cell_at after p).count (told cells p) (length cells) before (count_by-le-length
        (tells p) cells) few
      where
        small : (c t n : ℕ) → c ≡ t → t ≤ n → n < 2 ^ 63 → c + 1 < 2 ^ 64
        small c t n e l m = omega arith

    pub parent_some : is_told next ≡ false → 0 < (cell_at after p).count
    parent_some f = some (cell_at after p).count (told after p) (before ∙ less f)
      where
        some : (c t : ℕ) → c ≡ t + 1 → 0 < c
        some c t e = omega arith

    pub passed_on : IsRightFor after p (moved (is_told next) (cell_at after p))
    passed_on =
        record {
          same = refl;
          count = λ e. by_way (is_told next) refl;
          others = λ i l n leaf. all_but i (shorter l)
              (λ m. told_other i (λ k. n (one_parent cell.parent p i is_parent k))) leaf;
        }
      where
        down : (n t : ℕ) → n ≡ t + 1 → n - 1 ≡ t
        down n t h = omega arith

        by_way : (b : Bool) → is_told next ≡ b → (moved (is_told next) (cell_at after p)).count ≡ told after p
        by_way true f = ap (λ (b : Bool). (moved b (cell_at after p)).count) f ∙ ap (λ (n : ℕ). n + 1) before ∙ more f
        by_way false f = ap (λ (b : Bool). (moved b (cell_at after p)).count) f
            ∙ down (cell_at after p).count (told after p) (before ∙ less f)

  -- what doesn't read the count is the same in every place
  alike : {A : Type 0} (f : Cell → A) → f next ≡ f cell → (i : ℕ) → f (cell_at after i) ≡ f (cell_at cells i)
  alike f e i = kept_at (eq_or i at)
    where
      kept_at : (i ≡ at) ⊎ (i ≢ at) → f (cell_at after i) ≡ f (cell_at cells i)
      kept_at (inl h) = ap (λ (j : ℕ). f (cell_at after j)) h ∙ ap f here ∙ e ∙ sym (ap (λ (j : ℕ). f
          (cell_at cells j)) h)
      kept_at (inr n) = ap f (away i n)

  pub parents_kept : ParentsComeFirst after
  parents_kept i l = subst (λ (n : ℕ). n ≤ i) (sym (alike (λ c. c.parent) one_of i)) (parents i (shorter l))

  pub operations_kept : ParentsAreOperations after
  operations_kept i p l h =
      alike (λ c. c.leaf) (ap (λ (c : Cell). c.leaf) right.same) p
      ∙ operations i p (shorter l) (sym (alike (λ c. c.parent) one_of i) ∙ h)

  pub recounted : Recounts at next cells after
  recounted = record { same = same_set cells at there right.same; own = λ h. here; leaves = λ i h l. away i h }
    where
      same_set : (xs : List Cell) (i : ℕ) → i < length xs → bare next ≡ bare (cell_at xs i) → map bare
          (set xs i next) ≡ map bare xs
      same_set [] i l e = absurd (omega arith)
      same_set (x ∷ xs) zero l e = ap (λ (c : Cell). c ∷ map bare xs) e
      same_set (x ∷ xs) (suc i) l e = ap (λ (cs : List Cell). bare x ∷ cs) (same_set xs i (omega arith) e)

  pub recounted_above : (p : ℕ) (above : Cell) (news : List Cell) → cell.parent ≡ p + 1 → p < at
      → Recounts p above after news
      → Recounts at next cells news
  recounted_above p above news h below r =
      record {
        same = r.same ∙ recounted.same;
        own = λ l. r.leaves at (λ e. not_itself p at below (sym e)) (λ e. l (sym (ap (λ (c : Cell). c.leaf) here)
            ∙ e)) ∙ here;
        leaves = λ i n l. r.leaves i (λ e. l (ap (λ (j : ℕ). (cell_at cells j).leaf) e ∙ operations at p there h))
            (λ e. l (sym (ap (λ (c : Cell). c.leaf) (away i n)) ∙ e)) ∙ away i n;
      }

  pub parent_below : 0 < cell.parent → cell.parent - 1 < at
  parent_below l = by_size cell.parent at l (parents at there)

  pub in_reach : (p : ℕ) → p < at → p < length after
  in_reach p below = subst (λ (n : ℕ). p < n) (sym (length-set cells at next)) (nearer p at (length cells) below there)

pub parent_is : (c : Cell) → 0 < c.parent → c.parent ≡ (c.parent - 1) + 1
parent_is c l = one_below c.parent l

-- ---- the ways through the code, over plain variables
module _ (cells : List Cell) (at : ℕ) (cell next : Cell) (there : at < length cells) (parents : ParentsComeFirst cells)
    (operations : ParentsAreOperations cells) (right : IsRightFor cells at next)
    (is_cell : cell ≡ cell_at cells at) where
  of_cell : {A : Type 0} (f : Cell → A) → f cell ≡ f (cell_at cells at)
  of_cell f = ap f is_cell

  pub ends : (changed : Bool) → changed ≡ differ (is_told cell) (is_told next)
      → ((changed ≡ true) × (cell.parent ≤ 0)) ⊎ (changed ≡ false) → AreCounted (set cells at next)
  ends changed e (inl h) = settled cells at next there parents operations right (inr (sym (of_cell (λ c. c.parent))
      ∙ none cell.parent h.1))
    where
      none : (p : ℕ) → p ≤ 0 → p ≡ 0
      none p l = omega arith
  ends changed e (inr h) =
      settled cells at next there parents operations right
      (inl (sym (of_cell (λ c. differ (is_told c) (is_told next))) ∙ sym e ∙ h))

  module _ (changes : differ (is_told cell) (is_told next) ≡ true) (some : 0 < cell.parent) where
    changed : differ (is_told (cell_at cells at)) (is_told next) ≡ true
    changed = sym (of_cell (λ c. differ (is_told c) (is_told next))) ∙ changes

    is_parent : (cell_at cells at).parent ≡ (cell.parent - 1) + 1
    is_parent = sym (of_cell (λ c. c.parent)) ∙ parent_is cell some

    pub below : cell.parent - 1 < at
    below = subst (λ (c : Cell). c.parent - 1 < at) (sym is_cell)
        (parent_below cells at next there parents operations right (subst (λ (c : Cell). 0 < c.parent) is_cell some))

    pub near : cell.parent - 1 < length (set cells at next)
    near = in_reach cells at next there parents operations right (cell.parent - 1) below

    module _ (above : Cell) (is_above : above ≡ cell_at (set cells at next) (cell.parent - 1)) where
      pub few_above : length cells < 2 ^ 63 → above.count + 1 < 2 ^ 64
      few_above few = subst (λ (c : Cell). c.count + 1 < 2 ^ 64) (sym is_above)
          (parent_few cells at next there parents operations right changed (cell.parent - 1) is_parent below few)

      pub some_above : is_told next ≡ false → 0 < above.count
      some_above f = subst (λ (c : Cell). 0 < c.count) (sym is_above)
          (parent_some cells at next there parents operations right changed (cell.parent - 1) is_parent below f)

      pub goes_on : (b : Bool) (c : Cell) → b ≡ is_told next → c ≡ moved b above
          → IsRightFor (set cells at next) (cell.parent - 1) c
      goes_on b c e f =
          subst (IsRightFor (set cells at next) (cell.parent - 1))
          (ap (moved (is_told next)) (sym is_above) ∙ ap (λ (d : Bool). moved d above) (sym e) ∙ sym f)
          (passed_on cells at next there parents operations right changed (cell.parent - 1) is_parent below)

      pub goes_on_rest : (c : Cell) (news : List Cell) → Recounts (cell.parent - 1) c (set cells at next) news
          → Recounts at next cells news
      goes_on_rest c news r = recounted_above cells at next there parents operations right
          (cell.parent - 1) c news is_parent below r
