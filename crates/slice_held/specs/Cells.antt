-- Cells for the leaves and operations of a shape, where an operation counts those of its members that are told to it.
use Rattle.std.specs.Prelude.{Bool, true, false, not, ◌&&◌, ◌==◌, ◌≡◌, ◌≢◌, ◌<◌, ◌≤◌, if◌then◌else◌, List, map, ℕ, ◌+◌, ◌-◌, length, count_by, slice_index_or}
use Rattle.slice_held.specs.declared.cell.Cell.{Cell}

abbrev pub no_cell : Cell
no_cell = record { parent = 0; leaf = 0; raises = false; any = false; count = 0 }

abbrev pub cell_at : List Cell → ℕ → Cell
cell_at cells i = slice_index_or cells i no_cell

abbrev pub holds : Cell → Bool
holds c = if c.any then not (c.count == 0) else (c.count == 0)

-- whether its operation counts it
abbrev pub is_told : Cell → Bool
is_told c = if c.raises then holds c else not (holds c)

-- whether the operation of a number counts it
abbrev pub tells : ℕ → Cell → Bool
tells i c = (c.parent == i + 1) && is_told c

abbrev pub told : List Cell → ℕ → ℕ
told cells i = count_by (tells i) cells

-- all of a cell but its count
abbrev pub bare : Cell → Cell
bare c = record c { count = 0 }

-- a cell with another count
abbrev pub counting : ℕ → Cell → Cell
counting n c = record c { count = n }

abbrev pub moved : Bool → Cell → Cell
moved up c = record c { count = if up then c.count + 1 else c.count - 1 }

-- each operation has a lesser number than its members
abbrev pub ParentsComeFirst : List Cell → Type 0
ParentsComeFirst cells = (i : ℕ) → i < length cells → (cell_at cells i).parent ≤ i

-- and is no leaf
abbrev pub ParentsAreOperations : List Cell → Type 0
ParentsAreOperations cells = (i p : ℕ) → i < length cells → (cell_at cells i).parent ≡ p + 1 →
    (cell_at cells p).leaf ≡ 0

-- an operation's count is how many are told to it
abbrev pub IsCounted : List Cell → ℕ → Type 0
IsCounted cells i = (cell_at cells i).leaf ≡ 0 → (cell_at cells i).count ≡ told cells i

abbrev pub AreCounted : List Cell → Type 0
AreCounted cells = (i : ℕ) → i < length cells → IsCounted cells i

-- all counts are right but that of one cell, which this one has right
pub record IsRightFor (cells : List Cell) (at : ℕ) (next : Cell) : Type 0 where
  pub same : bare next ≡ bare (cell_at cells at)
  pub count : next.leaf ≡ 0 → next.count ≡ told cells at
  pub others : (i : ℕ) → i < length cells → i ≢ at → IsCounted cells i

-- the cells but for the counts of operations, and with one leaf or operation in a place
pub record Recounts (at : ℕ) (next : Cell) (cells news : List Cell) : Type 0 where
  pub same : map bare news ≡ map bare cells
  pub own : next.leaf ≢ 0 → cell_at news at ≡ next
  pub leaves : (i : ℕ) → i ≢ at → (cell_at cells i).leaf ≢ 0 → cell_at news i ≡ cell_at cells i

-- whether two tests differ
abbrev pub differ : Bool → Bool → Bool
differ true b = not b
differ false b = b

-- operations come before their members, and their counts are right
pub record AreSound (cells : List Cell) : Type 0 where
  pub parents : ParentsComeFirst cells
  pub operations : ParentsAreOperations cells
  pub counted : AreCounted cells

-- a further cell may be a member of the operation of this number, less one
abbrev pub HasPlaceUnder : List Cell → ℕ → Type 0
HasPlaceUnder cells parent = (parent ≤ length cells) × ((p : ℕ) → parent ≡ p + 1 → (cell_at cells p).leaf ≡ 0)

-- no leaf is in
abbrev pub AreOut : List Cell → Type 0
AreOut cells = (i : ℕ) → (cell_at cells i).leaf ≢ 0 → (cell_at cells i).count ≡ 0

-- leaves but for that in one place are as they were
abbrev pub IsUnchangedBut : ℕ → List Cell → List Cell → Type 0
IsUnchangedBut at cells news = (i : ℕ) → i ≢ at → (cell_at cells i).leaf ≢ 0 → cell_at news i ≡ cell_at cells i

-- the leaf's cells hold as it does, and all other leaves' as before
abbrev pub AreSet : ℕ → Bool → List Cell → List Cell → Type 0
AreSet leaf inside cells news =
    (i : ℕ) → ((cell_at cells i).leaf ≡ leaf + 1 → holds (cell_at news i) ≡ inside)
    × ((cell_at cells i).leaf ≢ leaf + 1 → (cell_at cells i).leaf ≢ 0 → cell_at news i ≡ cell_at cells i)
