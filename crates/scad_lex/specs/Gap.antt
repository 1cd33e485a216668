-- Blanks and comments (OpenSCAD User Manual, "Comments").
use Prim.Native.Char.{code}
use Rattle.std.specs.Prelude.{ℕ, suc, ◌+◌, Bool, not, ◌&&◌, ◌||◌, List, [], ◌∷◌, Option, Some, None, option_map, ◌==◌}
use Rattle.std.specs.Prelude.{if◌then◌else◌, slice_index}

-- space, tab, carriage return, line feed
abbrev pub is_blank : ℕ → Bool
is_blank b = b == code " " || (b == code "\t" || (b == code "\r" || b == code "\n"))

-- a byte of a comment that a line feed ends
abbrev pub is_within_line : ℕ → Bool
is_within_line b = not (b == code "\n")

-- how many bytes the first `*/` and what stands before it take
abbrev pub closed_len : List ℕ → Option ℕ
closed_len [] = None
closed_len (a ∷ bytes) =
    if a == code "*" && slice_index bytes 0 == code "/" then Some 2 else option_map suc (closed_len bytes)

-- `*/` stands at this place
abbrev pub closes_at : List ℕ → ℕ → Bool
closes_at bytes i = slice_index bytes i == code "*" && slice_index bytes (i + 1) == code "/"
