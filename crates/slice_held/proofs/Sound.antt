-- Sound cells stay sound where a leaf is put in or out, or a cell is added.
use Rattle.std.proofs.Common.{rules, ◌⊎◌, inl, inr, ◌≡◌, ◌≢◌, ℕ, zero, suc, ◌+◌, ◌-◌, ◌<◌, ◌≤◌, ◌^◌, Bool, true, false, ◌&&◌, List, [], ◌∷◌, ◌++◌, length, map, refl, sym, ap, ◌∙◌, subst, arith}
use Rattle.std.specs.Prelude.{count_by, ◌==◌}
use Rattle.std.proofs.lemmas.List.{length-append, length-map, map-append}
use Rattle.std.proofs.lemmas.List.Sums.{count_by-le-length}
use Rattle.slice_held.specs.declared.cell.Cell.{Cell}
use Rattle.slice_held.specs.Cells.{no_cell, cell_at, bare, is_told, tells, told, moved, ParentsComeFirst, ParentsAreOperations, IsCounted, AreCounted, IsRightFor, Recounts, AreSound, AreOut, HasPlaceUnder}
use Rattle.slice_held.proofs.Counting.{once, none_told, told_parent}
use Rattle.slice_held.proofs.Layouts.{count-append}

pub bare_in : (xs : List Cell) (i : ℕ) → cell_at (map bare xs) i ≡ bare (cell_at xs i)
bare_in [] i = refl
bare_in (x ∷ xs) zero = refl
bare_in (x ∷ xs) (suc i) = bare_in xs i

-- what doesn't read the count
pub bare_at : (xs ys : List Cell) → map bare ys ≡ map bare xs → (i : ℕ) → bare (cell_at ys i) ≡ bare (cell_at xs i)
bare_at xs ys e i = sym (bare_in ys i) ∙ ap (λ (cs : List Cell). cell_at cs i) e ∙ bare_in xs i

pub leaf_at : (xs ys : List Cell) → map bare ys ≡ map bare xs → (i : ℕ) → (cell_at ys i).leaf ≡ (cell_at xs i).leaf
leaf_at xs ys e i = ap (λ (c : Cell). c.leaf) (bare_at xs ys e i)

pub size_is : (xs ys : List Cell) → map bare ys ≡ map bare xs → length ys ≡ length xs
size_is xs ys e = sym (length-map ys bare) ∙ ap length e ∙ length-map xs bare

pub sound_by : (xs ys : List Cell) → map bare ys ≡ map bare xs → ParentsComeFirst xs → ParentsAreOperations xs
    → AreCounted ys → AreSound ys
sound_by xs ys e parents operations counted =
    record {
      parents = λ i l. subst (λ (n : ℕ). n ≤ i) (sym (parent i)) (parents i (old i l));
      operations = λ i p l h. leaf_at xs ys e p ∙ operations i p (old i l) (sym (parent i) ∙ h);
      counted = counted;
    }
  where
    parent : (i : ℕ) → (cell_at ys i).parent ≡ (cell_at xs i).parent
    parent i = ap (λ (c : Cell). c.parent) (bare_at xs ys e i)

    old : (i : ℕ) → i < length ys → i < length xs
    old i l = subst (λ (n : ℕ). i < n) (size_is xs ys e) l

-- ---- a leaf put in or out
pub right_leaf : (xs : List Cell) (at : ℕ) (c next : Cell) → AreSound xs → (cell_at xs at).leaf ≢ 0 → c ≡ cell_at xs at
    → bare next ≡ bare c → IsRightFor xs at next
right_leaf xs at c next s n e b =
    record {
      same = b ∙ ap bare e;
      count = λ z. absurd (n (sym (ap (λ (d : Cell). d.leaf) (b ∙ ap bare e)) ∙ z));
      others = λ i l m. s.counted i l;
    }

pub leaf_stays : (xs : List Cell) (at : ℕ) (c next : Cell) → (cell_at xs at).leaf ≢ 0 → c ≡ cell_at xs at
    → bare next ≡ bare c → next.leaf ≢ 0
leaf_stays xs at c next n e b z = n (sym (ap (λ (d : Cell). d.leaf) (b ∙ ap bare e)) ∙ z)

-- ---- a cell added
pub at_front : (xs ys : List Cell) (j : ℕ) → j < length xs → cell_at (xs ++ ys) j ≡ cell_at xs j
at_front [] ys j l = absurd (omega arith)
at_front (x ∷ xs) ys zero l = refl
at_front (x ∷ xs) ys (suc j) l = at_front xs ys j (omega arith)

pub at_end : (xs : List Cell) (c : Cell) → cell_at (xs ++ (c ∷ [])) (length xs) ≡ c
at_end [] c = refl
at_end (x ∷ xs) c = at_end xs c

pub past_end : (xs : List Cell) (j : ℕ) → length xs ≤ j → cell_at xs j ≡ no_cell
past_end [] j l = refl
past_end (x ∷ xs) zero l = absurd (omega arith)
past_end (x ∷ xs) (suc j) l = past_end xs j (omega arith)

pub one_longer : (xs : List Cell) (c : Cell) → length (xs ++ (c ∷ [])) ≡ length xs + 1
one_longer xs c = length-append xs (c ∷ [])

below_or : (i n : ℕ) → (i < n) ⊎ (n ≤ i)
below_or i n = grind arith

pub end_or : (i n : ℕ) → i < n + 1 → (i < n) ⊎ (i ≡ n)
end_or i n l = grind arith

count_one : (i : ℕ) (c : Cell) → count_by (tells i) (c ∷ []) ≡ once (tells i c)
count_one i c = search (rules)

none_here : (i : ℕ) (xs : List Cell) → ((j : ℕ) → j < length xs → (cell_at xs j).parent ≢ i + 1) → count_by
    (tells i) xs ≡ 0
none_here i [] h = refl
none_here i (x ∷ xs) h =
    count-append i (x ∷ []) xs
    ∙ both_zero (count_by (tells i) (x ∷ [])) (count_by (tells i) xs)
    (count_one i x ∙ none_told x i (h 0 (omega arith))) (none_here i xs (λ j l. h (suc j) (omega arith)))
  where
    both_zero : (m n : ℕ) → m ≡ 0 → n ≡ 0 → m + n ≡ 0
    both_zero m n h k = omega arith

and_no : (a b : Bool) → b ≡ false → once (a && b) ≡ 0
and_no true b e = ap once e
and_no false b e = refl

plus_none : (a b m n : ℕ) → a ≡ m + n → n ≡ 0 → m ≡ b → b ≡ a
plus_none a b m n e h k = omega arith

plus_one : (a b m n : ℕ) → a ≡ m + n → n ≡ 1 → b ≡ m → b + 1 ≡ a
plus_one a b m n e h k = omega arith

below_end : (p n q : ℕ) → q ≡ p + 1 → q ≤ n → p < n
below_end p n q e l = omega arith

pub out_recounted : (xs ys : List Cell) (p : ℕ) (next : Cell) → (cell_at xs p).leaf ≡ 0 → AreOut xs
    → Recounts p next xs ys → AreOut ys
out_recounted xs ys p next leaf out r i n = by_place (eq_or i p)
  where
    eq_or : (m n : ℕ) → (m ≡ n) ⊎ (m ≢ n)
    eq_or m n = grind arith

    was : (cell_at xs i).leaf ≢ 0
    was e = n (leaf_at xs ys r.same i ∙ e)

    by_place : (i ≡ p) ⊎ (i ≢ p) → (cell_at ys i).count ≡ 0
    by_place (inl e) = absurd (was (ap (λ (j : ℕ). (cell_at xs j).leaf) e ∙ leaf))
    by_place (inr m) = ap (λ (d : Cell). d.count) (r.leaves i m was) ∙ out i was

module _ (xs : List Cell) (c : Cell) (s : AreSound xs) (place : HasPlaceUnder xs c.parent) (blank : c.count ≡ 0) where
  abbrev all : List Cell
  all = xs ++ (c ∷ [])

  old_or : (i : ℕ) → i < length all → (i < length xs) ⊎ (i ≡ length xs)
  old_or i l = end_or i (length xs) (subst (λ (n : ℕ). i < n) (one_longer xs c) l)

  last_is : (i : ℕ) → i ≡ length xs → cell_at all i ≡ c
  last_is i e = ap (cell_at all) e ∙ at_end xs c

  pub parents_more : ParentsComeFirst all
  parents_more i l = by_place (old_or i l)
    where
      by_place : (i < length xs) ⊎ (i ≡ length xs) → (cell_at all i).parent ≤ i
      by_place (inl b) = subst (λ (d : Cell). d.parent ≤ i) (sym (at_front xs (c ∷ []) i b)) (s.parents i b)
      by_place (inr e) = subst (λ (d : Cell). d.parent ≤ i) (sym (last_is i e)) (subst (λ (n : ℕ). c.parent ≤ n)
          (sym e) (place.0))

  pub operations_more : ParentsAreOperations all
  operations_more i p l h = by_place (old_or i l)
    where
      before : (i p n q : ℕ) → q ≡ p + 1 → q ≤ i → i < n → p < n
      before i p n q e l b = omega arith

      by_place : (i < length xs) ⊎ (i ≡ length xs) → (cell_at all p).leaf ≡ 0
      by_place (inl b) =
          let parent : (cell_at xs i).parent ≡ p + 1 = sym (ap (λ (d : Cell). d.parent) (at_front xs (c ∷ []) i b))
          ∙ h in
          ap (λ (d : Cell). d.leaf) (at_front xs (c ∷ []) p (before i p (length xs) (cell_at xs i).parent parent
          (s.parents i b) b))
          ∙ s.operations i p b parent
      by_place (inr e) =
          let parent : c.parent ≡ p + 1 = sym (ap (λ (d : Cell). d.parent) (last_is i e)) ∙ h in
          ap (λ (d : Cell). d.leaf) (at_front xs (c ∷ []) p (below_end p (length xs) c.parent parent (place.0)))
          ∙ place.1 p parent

  told_more : (i : ℕ) → told all i ≡ told xs i + once (tells i c)
  told_more i = count-append i xs (c ∷ []) ∙ ap (λ (n : ℕ). told xs i + n) (count_one i c)

  counted_if : (i : ℕ) → i < length all → once (tells i c) ≡ 0 → IsCounted all i
  counted_if i l z leaf = by_place (old_or i l)
    where
      none : (j n p : ℕ) → j < n → p ≤ j → p ≢ n + 1
      none j n p b l e = omega arith

      by_place : (i < length xs) ⊎ (i ≡ length xs) → (cell_at all i).count ≡ told all i
      by_place (inl b) =
          ap (λ (d : Cell). d.count) (at_front xs (c ∷ []) i b)
          ∙ plus_none (told all i) (cell_at xs i).count (told xs i) (once (tells i c)) (told_more i) z
          (sym (s.counted i b (sym (ap (λ (d : Cell). d.leaf) (at_front xs (c ∷ []) i b)) ∙ leaf)))
      by_place (inr e) =
          ap (λ (d : Cell). d.count) (last_is i e) ∙ blank
          ∙ plus_none (told all i) 0 (told xs i) (once (tells i c)) (told_more i) z
          (none_here i xs (λ j k. subst (λ (n : ℕ). (cell_at xs j).parent ≢ n + 1) (sym e) (none j (length xs)
          (cell_at xs j).parent k (s.parents j k))))

  pub counted_more : (c.parent ≡ 0) ⊎ (is_told c ≡ false) → AreCounted all
  counted_more (inl e) i l = counted_if i l (none_told c i (no_such c.parent i e))
    where
      no_such : (p i : ℕ) → p ≡ 0 → p ≢ i + 1
      no_such p i h k = omega arith
  counted_more (inr e) i l = counted_if i l (and_no (c.parent == i + 1) (is_told c) e)

  pub owed_more : (p : ℕ) → c.parent ≡ p + 1 → is_told c ≡ true → IsRightFor all p (moved true (cell_at all p))
  owed_more p h t =
      record {
        same = refl;
        count = λ leaf.
            let b : p < length xs = below_end p (length xs) c.parent h (place.0) in
            plus_one (told all p) (cell_at all p).count (told xs p) (once (tells p c)) (told_more p)
            (told_parent c p h ∙ ap once t)
            (ap (λ (d : Cell). d.count) (at_front xs (c ∷ []) p b)
            ∙ s.counted p b (sym (ap (λ (d : Cell). d.leaf) (at_front xs (c ∷ []) p b)) ∙ leaf));
        others = λ i l n. counted_if i l (none_told c i (λ k. n (one_parent c.parent p i h k)));
      }
    where
      one_parent : (c p i : ℕ) → c ≡ p + 1 → c ≡ i + 1 → i ≡ p
      one_parent c p i h k = omega arith

  pub few_more : (p : ℕ) → c.parent ≡ p + 1 → length all < 2 ^ 63 → (cell_at all p).count + 1 < 2 ^ 64
  few_more p h few =
      let b : p < length xs = below_end p (length xs) c.parent h (place.0) in
      let leaf : (cell_at xs p).leaf ≡ 0 = place.1 p h in
      small (cell_at all p).count (told xs p) (length xs) (length all)
      (ap (λ (d : Cell). d.count) (at_front xs (c ∷ []) p b) ∙ s.counted p b leaf) (count_by-le-length (tells p) xs)
      (one_longer xs c) few
    where
      small : (k t m n : ℕ) → k ≡ t → t ≤ m → n ≡ m + 1 → n < 2 ^ 63 → k + 1 < 2 ^ 64
      small k t m n e l h f = omega arith

  pub reach_more : (p : ℕ) → c.parent ≡ p + 1 → p < length all
  reach_more p h = nearer p (length xs) (length all) (below_end p (length xs) c.parent h (place.0)) (one_longer xs c)
    where
      nearer : (p m n : ℕ) → p < m → n ≡ m + 1 → p < n
      nearer p m n l e = omega arith

  pub bare_more : map bare all ≡ map bare xs ++ (c ∷ [])
  bare_more = map-append bare xs (c ∷ []) ∙ ap (λ (d : Cell). map bare xs ++ (d ∷ [])) (bare_self c blank)
    where
      bare_self : (d : Cell) → d.count ≡ 0 → bare d ≡ d
      bare_self d e = ap (λ (n : ℕ). record d { count = n }) (sym e)

  pub out_more : AreOut xs → AreOut all
  out_more out i n = by_place (below_or i (length all))
    where
      old : (i < length xs) ⊎ (i ≡ length xs) → (cell_at all i).count ≡ 0
      old (inl b) = ap (λ (d : Cell). d.count) (at_front xs (c ∷ []) i b)
          ∙ out i (λ e. n (ap (λ (d : Cell). d.leaf) (at_front xs (c ∷ []) i b) ∙ e))
      old (inr e) = ap (λ (d : Cell). d.count) (last_is i e) ∙ blank

      by_place : (i < length all) ⊎ (length all ≤ i) → (cell_at all i).count ≡ 0
      by_place (inl l) = old (old_or i l)
      by_place (inr l) = ap (λ (d : Cell). d.count) (past_end all i l)

  -- the same of the cells that the code sees
  module _ (news : List Cell) (items : news ≡ all) where
    pub parents_in : ParentsComeFirst news
    parents_in = subst ParentsComeFirst (sym items) parents_more

    pub operations_in : ParentsAreOperations news
    operations_in = subst ParentsAreOperations (sym items) operations_more

    pub bare_in_all : map bare news ≡ map bare xs ++ (c ∷ [])
    bare_in_all = ap (map bare) items ∙ bare_more

    pub all_out : AreOut xs → AreOut news
    all_out out = subst AreOut (sym items) (out_more out)

    pub reach_in : (p : ℕ) → c.parent ≡ p + 1 → p < length news
    reach_in p parent = subst (λ (cs : List Cell). p < length cs) (sym items) (reach_more p parent)

    pub few_in : (p : ℕ) → c.parent ≡ p + 1 → length news < 2 ^ 63 → (above : Cell) → above ≡ cell_at news p
        → above.count + 1 < 2 ^ 64
    few_in p parent few above e =
        subst (λ (d : Cell). d.count + 1 < 2 ^ 64) (sym (e ∙ ap (λ (cs : List Cell). cell_at cs p) items))
        (few_more p parent (subst (λ (cs : List Cell). length cs < 2 ^ 63) items few))

    pub settled_in : (c.parent ≡ 0) ⊎ (is_told c ≡ false) → AreSound news
    settled_in h = sound_by all news (ap (map bare) items) parents_more operations_more
        (subst AreCounted (sym items) (counted_more h))

    module _ (p : ℕ) (parent : c.parent ≡ p + 1) (d : Cell) where
      pub owed_in : is_told c ≡ true → (above : Cell) → above ≡ cell_at news p → d ≡ moved true above
          → IsRightFor news p d
      owed_in t above e f =
          subst (λ (cs : List Cell). IsRightFor cs p d) (sym items)
          (subst (IsRightFor all p) (sym (f ∙ ap (moved true) (e ∙ ap (λ (cs : List Cell). cell_at cs p) items)))
          (owed_more p parent t))

      pub sound_in : (last : List Cell) → AreCounted last → Recounts p d news last → AreSound last
      sound_in last counted r = sound_by all last (r.same ∙ ap (map bare) items) parents_more operations_more counted

      pub out_in : AreOut xs → (last : List Cell) → Recounts p d news last → AreOut last
      out_in out last r =
          out_recounted news last p d
          (ap (λ (cs : List Cell). (cell_at cs p).leaf) items
          ∙ ap (λ (e : Cell). e.leaf) (at_front xs (c ∷ []) p (below_end p (length xs) c.parent parent (place.0)))
          ∙ place.1 p parent)
          (subst AreOut (sym items) (out_more out)) r
