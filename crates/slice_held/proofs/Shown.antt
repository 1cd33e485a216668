-- What cells show of a shape.
use Rattle.std.proofs.Common.{◌≡◌, ◌≢◌, ℕ, zero, suc, ◌+◌, ◌<◌, Bool, true, false, not, List, [], ◌∷◌, ◌++◌, length, map, drop, refl, sym, ap, ap₂, ◌∙◌, subst, arith}
use Rattle.std.specs.Prelude.{◌==◌, if◌then◌else◌}
use Rattle.std.specs.List.{AllByRecursion}
use Rattle.scad_geom.specs.declared.shape.Shape.{Shape, Empty, Leaf, Union', Inter', Diff', Row_of-Shape, end_of-Shape, more_of-Shape}
use Rattle.scad_geom.specs.Shape.{shape_holds}
use Rattle.slice_held.specs.declared.cell.Cell.{Cell}
use Rattle.slice_held.specs.declared.kept_shape.Held.{Held}
use Rattle.slice_held.specs.Cells.{cell_at, bare, holds, AreSet}
use Rattle.slice_held.specs.Layout.{cells_of, cells_of_row}
use Rattle.slice_held.specs.Held.{IsReady, Shows, Adds, with_leaf}
use Rattle.slice_held.proofs.Layouts.{IsLeafBy, holds_whole, cells_more, all_append}
use Rattle.slice_held.proofs.Sound.{leaf_at, size_is}

-- ---- a leaf's cell holds where its count isn't 0
abbrev IsAnyLeaf : Cell → Type 0
IsAnyLeaf c = c.leaf ≢ 0 → c.any ≡ true

mutual
  leaves_any : (p : ℕ) (r : Bool) (at : ℕ) (s : Shape) → AllByRecursion IsAnyLeaf (cells_of p r at s)
  leaves_any p r at Empty = ((λ n. refl), tt)
  leaves_any p r at (Leaf leaf) = ((λ n. refl), tt)
  leaves_any p r at (Union' list members) = ((λ n. refl), row_any (at + 1) true (at + 1) members)
  leaves_any p r at (Inter' list members) = ((λ n. absurd (n refl)), row_any (at + 1) false (at + 1) members)
  leaves_any p r at (Diff' box first list rest) = (
    (λ n. absurd (n refl)),
    all_append IsAnyLeaf (cells_of (at + 1) false (at + 1) first)
        (cells_of_row (at + 1) true (at + 1 + length (cells_of (at + 1) false (at + 1) first)) rest)
        (leaves_any (at + 1) false (at + 1) first)
        (row_any (at + 1) true (at + 1 + length (cells_of (at + 1) false (at + 1) first)) rest),
  )

  row_any : (p : ℕ) (r : Bool) (at : ℕ) {m : _} (members : Row_of-Shape m)
      → AllByRecursion IsAnyLeaf (cells_of_row p r at members)
  row_any p r at end_of-Shape = tt
  row_any p r at (more_of-Shape member rest) =
      all_append IsAnyLeaf (cells_of p r at member) (cells_of_row p r (at + length (cells_of p r at member)) rest)
      (leaves_any p r at member) (row_any p r (at + length (cells_of p r at member)) rest)

any_at : (xs : List Cell) → AllByRecursion IsAnyLeaf (map bare xs) → (i : ℕ) → (cell_at xs i).leaf ≢ 0 →
    (cell_at xs i).any ≡ true
any_at [] h i n = absurd (n refl)
any_at (x ∷ xs) h zero n = h.0 n
any_at (x ∷ xs) h (suc i) n = any_at xs h.1 i n

out_holds : (c : Cell) → c.any ≡ true → c.count ≡ 0 → holds c ≡ false
out_holds c e f = ap₂ (λ (a : Bool) (n : ℕ). if a then not (n == 0) else (n == 0)) e f

-- ---- a shape with all leaves out
nothing_before : (xs more : List Cell) → length xs ≡ 0 → map bare xs ++ more ≡ more
nothing_before [] more e = refl
nothing_before (x ∷ xs) more e = absurd (omega (arith, e))

not_none : {A : Type 0} (n : ℕ) → 0 ≡ n + 1 → A
not_none n e = absurd (omega (arith, e))

pub shown_first : (shape : Shape) (h g : Held) → length h.cells.items ≡ 0
    → Adds (cells_of 0 true (length h.cells.items) shape) h g → Shows shape (λ leaf. false) g
shown_first shape h g e a =
    record {
      cells = cells;
      leaves = λ i leaf k. out_holds (cell_at g.cells.items i)
          (any_at g.cells.items (subst (AllByRecursion IsAnyLeaf) (sym cells) (leaves_any 0 true 0 shape)) i
          (λ z. not_none leaf (sym z ∙ k)))
          (a.blank.out i (λ z. not_none leaf (sym z ∙ k)));
    }
  where
    cells : map bare g.cells.items ≡ cells_of 0 true 0 shape
    cells = a.cells ∙ nothing_before h.cells.items (cells_of 0 true (length h.cells.items) shape) e
        ∙ ap (λ (n : ℕ). cells_of 0 true n shape) e

no_cells : (xs : List Cell) (c : Cell) (cs : List Cell) → map bare xs ≡ c ∷ cs → 0 < length xs
no_cells [] c cs e = let n : 0 ≡ suc (length cs) = ap length e in absurd (omega (arith, n))
no_cells (x ∷ xs) c cs e = omega arith

pub ready_first : (shape : Shape) (h g : Held) → length h.cells.items ≡ 0
    → Adds (cells_of 0 true (length h.cells.items) shape) h g → IsReady g
ready_first shape h g e a =
    record {
      some = no_cells g.cells.items (cell_at (cells_of 0 true 0 shape) 0) (drop 1 (cells_of 0 true 0 shape))
          ((shown_first shape h g e a).cells ∙ cells_more 0 true 0 shape);
      sound = a.blank.sound;
      chained = a.blank.chained;
    }

-- ---- the value
all_by_leaves : (f : ℕ → Bool) (xs : List Cell) → ((i leaf : ℕ) → (cell_at xs i).leaf ≡ leaf + 1 → holds
    (cell_at xs i) ≡ f leaf)
    → AllByRecursion (IsLeafBy f) xs
all_by_leaves f [] h = tt
all_by_leaves f (x ∷ xs) h = ((λ leaf e. h 0 leaf e), all_by_leaves f xs (λ i leaf e. h (suc i) leaf e))

pub value_shown : (shape : Shape) (f : ℕ → Bool) (h : Held) → IsReady h → Shows shape f h
    → holds (cell_at h.cells.items 0) ≡ shape_holds f shape
value_shown shape f h r s =
    holds_whole f shape h.cells.items s.cells r.sound.counted (all_by_leaves f h.cells.items s.leaves)

-- ---- a leaf set
same_leaf : (m n : ℕ) → (m == n) ≡ true → m ≡ n
same_leaf m n e = grind arith

other_leaf : (i m n : ℕ) → (m == n) ≡ false → i ≡ n + 1 → i ≢ m + 1
other_leaf i m n e h k = absurd (no m n e (omega (arith, h, k)))
  where
    no : (m n : ℕ) → (m == n) ≡ false → m ≡ n → ⊥
    no m n e h = grind arith

pub set_shown : (xs ys : List Cell) (leaf : ℕ) (b : Bool) (f : ℕ → Bool) → map bare ys ≡ map bare xs
    → AreSet leaf b xs ys
    → ((i k : ℕ) → (cell_at xs i).leaf ≡ k + 1 → holds (cell_at xs i) ≡ f k) → (i k : ℕ) → (cell_at ys i).leaf ≡ k + 1
    → holds (cell_at ys i) ≡ with_leaf leaf b f k
set_shown xs ys leaf b f e s h i k l = by_test (leaf == k) refl
  where
    was : (cell_at xs i).leaf ≡ k + 1
    was = sym (leaf_at xs ys e i) ∙ l

    by_test : (t : Bool) → (leaf == k) ≡ t → holds (cell_at ys i) ≡ (if t then b else f k)
    by_test true q = (s i).0 (was ∙ ap (λ (n : ℕ). n + 1) (sym (same_leaf leaf k q)))
    by_test false q =
        ap holds ((s i).1 (other_leaf (cell_at xs i).leaf leaf k q was) (λ z. not_none k (sym z ∙ was))) ∙ h i k was

pub some_stay : (xs ys : List Cell) → map bare ys ≡ map bare xs → 0 < length xs → 0 < length ys
some_stay xs ys e l = subst (λ (n : ℕ). 0 < n) (sym (size_is xs ys e)) l
