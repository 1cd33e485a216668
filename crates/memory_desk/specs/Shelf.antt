-- The files of a desk in memory, and how far one of them was read.
use Rattle.std.specs.Prelude.{ℕ, Bool, List, [], drop, Option, None, Some, unwrap_or, option_map, slice_get}
use Rattle.std.specs.List.{find}
use Rattle.std.specs.Str.{bytes_eq}
use Rattle.memory_desk.specs.declared.shelf.Cursor.{Cursor}

-- the file has this name
abbrev pub has_name : List ℕ → List ℕ × List ℕ → Bool
has_name name file = bytes_eq file.0 name

-- what the first file of this name contains
abbrev pub contents_of : List (List ℕ × List ℕ) → List ℕ → Option (List ℕ)
contents_of files name = option_map (λ file. file.1) (find (has_name name) files)

-- what the file at this index contains
abbrev pub text_at : List (List ℕ × List ℕ) → ℕ → List ℕ
text_at files i = unwrap_or (option_map (λ file. file.1) (slice_get files i)) []

-- what is left to read, where a file is open
abbrev pub rest_at : List (List ℕ × List ℕ) → Option Cursor → List ℕ
rest_at files None = []
rest_at files (Some c) = drop c.at (text_at files c.file)
