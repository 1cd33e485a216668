-- Characters in UTF-8 (The Unicode Standard, "UTF-8"): each is the shortest form of a Unicode scalar value.
use Rattle.std.specs.Prelude.{ℕ, ◌+◌, ◌-◌, ◌*◌, ◌&&◌, List, Option, Some, None, option_and_then, nat_lt, nat_le}
use Rattle.std.specs.Prelude.{if◌then◌else◌, slice_index}
use Rattle.std.specs.Int.{is_in_range}
pub use Rattle.scad_base.specs.Characters.{is_scalar}

-- the six bits of the byte at k, where it goes on a character
unfoldable pub tail_at : List ℕ → ℕ → Option ℕ
tail_at bytes k = if is_in_range 0x80 0xBF (slice_index bytes k) then Some (slice_index bytes k - 0x80) else None

-- the twelve bits of the bytes at k and behind it
unfoldable pub two_tails_at : List ℕ → ℕ → Option ℕ
two_tails_at bytes k =
    option_and_then (λ high. option_and_then (λ low. Some (high * 64 + low)) (tail_at bytes (k + 1)))
    (tail_at bytes k)

-- a form of n bytes for the code point, where shorter forms reach up to least
unfoldable pub form_of : ℕ → ℕ → ℕ → Option (ℕ × ℕ)
form_of least n c = if nat_le least c && is_scalar c then Some (c, n) else None

unfoldable pub two_bytes : List ℕ → Option (ℕ × ℕ)
two_bytes bytes = option_and_then (λ low. form_of 0x80 2 ((slice_index bytes 0 - 0xC0) * 64 + low)) (tail_at bytes 1)

unfoldable pub three_bytes : List ℕ → Option (ℕ × ℕ)
three_bytes bytes = option_and_then (λ low. form_of 0x800 3 ((slice_index bytes 0 - 0xE0) * 4096 + low))
    (two_tails_at bytes 1)

unfoldable pub four_bytes : List ℕ → Option (ℕ × ℕ)
four_bytes bytes =
    option_and_then (λ high.
    option_and_then (λ low. form_of 0x1_0000 4 ((slice_index bytes 0 - 0xF0) * 262144 + high * 4096 + low))
    (two_tails_at bytes 2))
    (tail_at bytes 1)

-- the character that bytes begin with and its number of bytes, or None where they begin with none
unfoldable pub character_at : List ℕ → Option (ℕ × ℕ)
character_at bytes =
    let lead = slice_index bytes 0 in
    if nat_lt lead 0x80 then Some (lead, 1)
    else (if nat_lt lead 0xC0 then None
    else (if nat_lt lead 0xE0 then two_bytes bytes
    else (if nat_lt lead 0xF0 then three_bytes bytes
    else (if nat_lt lead 0xF8 then four_bytes bytes
    else None))))
