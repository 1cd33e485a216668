-- How the cells of a leaf are found.
use Rattle.std.specs.Prelude.{◌≡◌, ◌≢◌, ◌<◌, ◌≤◌, List, ℕ, ◌+◌, length, slice_index_or}
use Rattle.slice_held.specs.declared.cell.Cell.{Cell}
use Rattle.slice_held.specs.Cells.{cell_at}

-- a number is that of the last cell of a leaf before a place, plus one; 0 where there is none
pub record IsLast (cells : List Cell) (leaf place last : ℕ) : Type 0 where
  pub within : last ≤ place
  pub own : (i : ℕ) → last ≡ i + 1 → (cell_at cells i).leaf ≡ leaf + 1
  pub none_after : (i : ℕ) → i < place → (cell_at cells i).leaf ≡ leaf + 1 → i < last

-- the last cell of each leaf, and from each cell of a leaf the one before
pub record AreChained (cells : List Cell) (lasts earlier : List ℕ) : Type 0 where
  pub size : length earlier ≡ length cells
  pub begin : (leaf : ℕ) → leaf < length lasts → IsLast cells leaf (length cells) (slice_index_or lasts leaf 0)
  pub go_on : (i leaf : ℕ) → i < length cells → leaf < length lasts → (cell_at cells i).leaf ≡ leaf + 1
      → IsLast cells leaf i (slice_index_or earlier i 0)

-- the number of a further cell, plus one, is entered for its leaf, and that of the leaf's last cell is before it
pub record Enters (own number before : ℕ) (lasts news : List ℕ) : Type 0 where
  pub size : length news ≡ length lasts
  pub this : (leaf : ℕ) → leaf < length lasts → own ≡ leaf + 1
      → (slice_index_or news leaf 0 ≡ number) × (before ≡ slice_index_or lasts leaf 0)
  pub others : (leaf : ℕ) → leaf < length lasts → own ≢ leaf + 1
      → slice_index_or news leaf 0 ≡ slice_index_or lasts leaf 0
