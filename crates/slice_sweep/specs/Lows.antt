-- Blocks of strands with a key below which none of theirs lies.
use Rattle.std.specs.Prelude.{List, ℕ, ℤ, ◌<◌, ◌≤◌, ◌/◌, ◌≡◌, ◌⊎◌, ◌≤ℤ◌, length, slice_index_or}
use Rattle.slice_sweep.specs.declared.strand.Strand.{Strand}
use Rattle.slice_sweep.specs.Keys.{stale}
use Rattle.slice_sweep.specs.Strands.{strand_at}

-- how many strands a block has
abbrev pub block : ℕ
block = 32

-- nothing is known of a block, or no strand of it has a lower key
abbrev pub IsLow : List Strand → ℕ → ℤ → Type 0
IsLow strands b low = (i : ℕ) → i / block ≡ b → i < length strands
    → (low ≤ℤ stale) ⊎ (low ≤ℤ (strand_at strands i).wake)

-- so for the first so many blocks
abbrev pub AreLow : List ℤ → List Strand → Type 0
AreLow lows strands = (b : ℕ) → b < length lows → IsLow strands b (slice_index_or lows b stale)

-- the strands before one place and from another on keep their keys
abbrev pub KeysStay : ℕ → ℕ → List Strand → List Strand → Type 0
KeysStay from to old new = (i : ℕ) → i < length new → (i < from) ⊎ (to ≤ i)
    → (i < length old) × ((strand_at new i).wake ≡ (strand_at old i).wake)
