-- Names (OpenSCAD User Manual, "Names"): perhaps a `$`, a letter or `_`, then letters, digits and `_`.
use Prim.Native.Char.{code}
use Rattle.std.specs.Prelude.{ℕ, ◌+◌, Bool, ◌||◌, List, drop, ◌==◌, if◌then◌else◌, slice_index}
use Rattle.std.specs.Char.{is_ascii_alphabetic, is_ascii_alphanumeric}
use Rattle.std.specs.List.{prefix_len}

abbrev pub begins_word : ℕ → Bool
begins_word b = is_ascii_alphabetic b || b == code "_"

abbrev pub goes_on_word : ℕ → Bool
goes_on_word b = is_ascii_alphanumeric b || b == code "_"

-- how many bytes stand before the first letter
abbrev pub dollar_len : List ℕ → ℕ
dollar_len bytes = if slice_index bytes 0 == code "$" then 1 else 0

-- how long the longest name is that the bytes begin with, or 0 where they begin with none
unfoldable pub word_len : List ℕ → ℕ
word_len bytes =
    if begins_word (slice_index bytes (dollar_len bytes)) then dollar_len bytes + prefix_len goes_on_word
    (drop (dollar_len bytes) bytes) else 0
