-- The cells of members, which code sees as a slice, and cells added one after another.
use Rattle.std.proofs.Common.{◌≡◌, ℕ, ◌+◌, ◌<◌, ◌≤◌, Bool, true, false, not, List, [], ◌∷◌, ◌++◌, length, map, refl, sym, ap, ◌∙◌, subst, arith, rules}
use Rattle.scad_geom.specs.declared.shape.Shape.{Shape, Union, Inter, Diff, items-the_row-Shape, Row_of-Shape, end_of-Shape, more_of-Shape}
use Rattle.scad_geom.specs.declared.shape.Shape.{the_lemmas}
use Rattle.std.specs.Prelude.{Vec}
use Rattle.std.specs.declared.boxed.Box.{Box}
use Rattle.std.specs.Global.{Global}
use Rattle.std.proofs.lemmas.List.{length-append, length-map}
use Rattle.scad_geom.specs.Shape.{has_items}
use Rattle.scad_geom.proofs.Shapes.{has_row}
use Rattle.slice_held.specs.declared.cell.Cell.{Cell}
use Rattle.slice_held.specs.Cells.{cell_at, bare, HasPlaceUnder}
use Rattle.slice_held.specs.Layout.{blank, cells_of, cells_of_row, cells_of_all}
use Rattle.slice_held.proofs.Sound.{bare_in, at_front}

pub row_cells : (p : ℕ) (r : Bool) (at : ℕ) (m : _) (row : Row_of-Shape m)
    → cells_of_row p r at row ≡ cells_of_all p r at (items-the_row-Shape m row)
row_cells p r at m end_of-Shape = refl
row_cells p r at m (more_of-Shape member rest) = ap (λ (cs : List Cell). cells_of p r at member ++ cs)
    (row_cells p r (at + length (cells_of p r at member)) _ rest)

pub cells_union : (p : ℕ) (r : Bool) (at : ℕ) (v : Vec Shape Global)
    → cells_of p r at (Union v) ≡ blank p r true 0 ∷ cells_of_all (at + 1) true (at + 1) v.items
cells_union p r at v = search (rules, the_lemmas, row_cells)

pub cells_inter : (p : ℕ) (r : Bool) (at : ℕ) (v : Vec Shape Global)
    → cells_of p r at (Inter v) ≡ blank p r (not (has_items v.items)) 0 ∷ cells_of_all (at + 1) false (at + 1) v.items
cells_inter p r at v = search (rules, the_lemmas, row_cells, has_row)

pub cells_diff : (p : ℕ) (r : Bool) (at : ℕ) (b : Box Shape Global) (v : Vec Shape Global)
    → cells_of p r at (Diff b v) ≡ blank p r false 0
    ∷ (cells_of (at + 1) false (at + 1) b.value
    ++ cells_of_all (at + 1) true (at + 1 + length (cells_of (at + 1) false (at + 1) b.value)) v.items)
cells_diff p r at b v = search (rules, the_lemmas, row_cells)

-- ---- what was there stays in front
more_cells : (xs ys more : List Cell) → map bare ys ≡ map bare xs ++ more → length ys ≡ length xs + length more
more_cells xs ys more e = sym (length-map ys bare) ∙ ap length e ∙ length-append (map bare xs) more
    ∙ ap (λ (n : ℕ). n + length more) (length-map xs bare)

pub size_more : (xs ys more : List Cell) → map bare ys ≡ map bare xs ++ more → length ys ≡ length xs + length more
size_more xs ys more e = more_cells xs ys more e

leaf_front : (xs ys more : List Cell) (i : ℕ) → map bare ys ≡ map bare xs ++ more → i < length xs
    → (cell_at ys i).leaf ≡ (cell_at xs i).leaf
leaf_front xs ys more i e l =
    ap (λ (c : Cell). c.leaf)
    (sym (bare_in ys i) ∙ ap (λ (cs : List Cell). cell_at cs i) e
    ∙ at_front (map bare xs) more i (subst (λ (n : ℕ). i < n) (sym (length-map xs bare)) l) ∙ bare_in xs i)

pub place_stays : (xs ys more : List Cell) (p : ℕ) → map bare ys ≡ map bare xs ++ more → HasPlaceUnder xs p
    → HasPlaceUnder ys p
place_stays xs ys more p e h = (
  further p (length xs) (length more) (length ys) (more_cells xs ys more e) h.0,
  λ q k. leaf_front xs ys more q e (below q p (length xs) k h.0) ∙ h.1 q k,
)
  where
    further : (p m n k : ℕ) → k ≡ m + n → p ≤ m → p ≤ k
    further p m n k e l = omega arith

    below : (q p m : ℕ) → p ≡ q + 1 → p ≤ m → q < m
    below q p m e l = omega arith

-- the operation that was added last
pub place_of_last : (xs ys : List Cell) (c : Cell) (n : ℕ) → map bare ys ≡ map bare xs ++ (c ∷ []) → c.leaf ≡ 0
    → n ≡ length xs + 1 → HasPlaceUnder ys n
place_of_last xs ys c n e leaf k = (
  same n (length ys) (length xs) k (more_cells xs ys (c ∷ []) e),
  λ q h. ap (λ (d : Cell). d.leaf) (sym (bare_in ys q) ∙ ap (λ (cs : List Cell). cell_at cs q) e
      ∙ ap (cell_at (map bare xs ++ (c ∷ []))) (own q n (length xs) (length (map bare xs)) h k (length-map xs bare))
      ∙ last (map bare xs)) ∙ leaf,
)
  where
    same : (n m k : ℕ) → n ≡ k + 1 → m ≡ k + 1 → n ≤ m
    same n m k e f = omega arith

    own : (q n m k : ℕ) → n ≡ q + 1 → n ≡ m + 1 → k ≡ m → q ≡ k
    own q n m k e f g = omega arith

    last : (cs : List Cell) → cell_at (cs ++ (c ∷ [])) (length cs) ≡ c
    last [] = refl
    last (d ∷ cs) = last cs
