-- A shape and which of its leaves are in.
use Rattle.std.specs.Prelude.{Bool, true, ◌≡◌, ◌==◌, ◌<◌, if◌then◌else◌, List, map, ℕ, ◌+◌, ◌++◌, length}
use Rattle.scad_geom.specs.declared.shape.Shape.{Shape}
use Rattle.slice_held.specs.declared.cell.Cell.{Cell}
use Rattle.slice_held.specs.declared.kept_shape.Held.{Held}
use Rattle.slice_held.specs.Cells.{cell_at, bare, holds, AreSound, AreOut}
use Rattle.slice_held.specs.Layout.{cells_of}
use Rattle.slice_held.specs.Chain.{AreChained}

-- the leaves from this number on can't be put in
abbrev pub leaf_count : Held → ℕ
leaf_count h = length h.lasts.items

-- it has cells, counts are right, and the cells of each leaf are found
pub record IsReady (h : Held) : Type 0 where
  pub some : 0 < length h.cells.items
  pub sound : AreSound h.cells.items
  pub chained : AreChained h.cells.items h.lasts.items h.earlier.items

-- its cells are those of a shape, and its leaves are in by a test
pub record Shows (shape : Shape) (inside : ℕ → Bool) (h : Held) : Type 0 where
  pub cells : map bare h.cells.items ≡ cells_of 0 true 0 shape
  pub leaves : (i leaf : ℕ) → (cell_at h.cells.items i).leaf ≡ leaf + 1 → holds (cell_at h.cells.items i) ≡ inside leaf

-- a test with the answer for one leaf
abbrev pub with_leaf : ℕ → Bool → (ℕ → Bool) → ℕ → Bool
with_leaf leaf answer inside k = if leaf == k then answer else inside k

-- whatever it shows, it shows with the answer for one leaf
abbrev pub SetsLeaf : ℕ → Bool → Held → Held → Type 0
SetsLeaf leaf answer h g = (shape : Shape) (inside : ℕ → Bool) → Shows shape inside h → Shows shape
    (with_leaf leaf answer inside) g

-- the same of perhaps no cells, with all leaves out
pub record IsBlank (h : Held) : Type 0 where
  pub sound : AreSound h.cells.items
  pub chained : AreChained h.cells.items h.lasts.items h.earlier.items
  pub out : AreOut h.cells.items

-- it has further cells, and all leaves are out
pub record Adds (more : List Cell) (h g : Held) : Type 0 where
  pub blank : IsBlank g
  pub leaves : leaf_count g ≡ leaf_count h
  pub cells : map bare g.cells.items ≡ map bare h.cells.items ++ more
