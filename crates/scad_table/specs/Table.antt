-- Tables of names, each with its id, in byte order of the names.
use Rattle.std.specs.Prelude.{◌≡◌, ℕ, ◌<◌, Bool, true, ◌&&◌, List, [], ◌∷◌, length, slice_index_or, Option, Some, None, if◌then◌else◌, bytes_eq}
use Rattle.std.specs.Ordering.{is_lt, nat_cmp}
use Rattle.std.specs.declared.cmp.Ordering.TheVariants.{Less}
use Rattle.std.specs.Cmp.Lexicographic.{slice_cmp}
use Rattle.scad_table.specs.declared.row.Row.{Row}

-- names as bytes, each with its id
abbrev pub Table : Type 0
Table = List (List ℕ × ℕ)

-- what the rows hold
abbrev pub entries : List Row → Table
entries [] = []
entries (row ∷ rows) = (row.name.now, row.id) ∷ entries rows

-- the id of the first entry that has the name
abbrev pub id_of : Table → List ℕ → Option ℕ
id_of [] name = None
id_of (entry ∷ rest) name = if bytes_eq entry.0 name then Some entry.1 else id_of rest name

-- the name of each row is below that of every later row, in byte order
abbrev pub Ascends : List Row → Type 0
Ascends rows =
    (i j : ℕ) (d : Row) → i < j → j < length rows → slice_cmp nat_cmp (slice_index_or rows i d).name.now (slice_index_or rows j d).name.now ≡ Less

-- whether this name is below the table's first name, and each name of the table below the next
abbrev pub ascends_from : List ℕ → Table → Bool
ascends_from name [] = true
ascends_from name (entry ∷ rest) = is_lt (slice_cmp nat_cmp name entry.0) && ascends_from entry.0 rest

-- whether each name of the table is below the next: a test that computes, and that gives `Ascends`
abbrev pub ascends : Table → Bool
ascends [] = true
ascends (entry ∷ rest) = ascends_from entry.0 rest
