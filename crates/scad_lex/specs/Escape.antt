-- Escapes in strings (OpenSCAD User Manual, "Strings"): \n \t \r \\ \" \xHH \uHHHH \UHHHHHH.
use Prim.Native.Char.{code}
use Rattle.std.specs.Prelude.{ℕ, ◌+◌, ◌*◌, ◌&&◌, List, Option, Some, None, option_and_then, nat_lt, ◌==◌}
use Rattle.std.specs.Prelude.{if◌then◌else◌, slice_index}
use Rattle.std.specs.Char.{is_ascii_hexdigit, digit_value}
use Rattle.scad_lex.specs.Character.{is_scalar}

-- the value of the hexadecimal digit at k
unfoldable pub digit_at : List ℕ → ℕ → Option ℕ
digit_at bytes k = if is_ascii_hexdigit (slice_index bytes k) then Some (digit_value (slice_index bytes k)) else None

-- the number of the two, four and six hexadecimal digits from k on
unfoldable pub two_digits : List ℕ → ℕ → Option ℕ
two_digits bytes k = option_and_then
    (λ high. option_and_then (λ low. Some (high * 16 + low)) (digit_at bytes (k + 1))) (digit_at bytes k)

unfoldable pub four_digits : List ℕ → ℕ → Option ℕ
four_digits bytes k =
    option_and_then (λ high. option_and_then (λ low. Some (high * 256 + low)) (two_digits bytes (k + 2)))
    (two_digits bytes k)

unfoldable pub six_digits : List ℕ → ℕ → Option ℕ
six_digits bytes k = option_and_then
    (λ high. option_and_then (λ low. Some (high * 65536 + low)) (four_digits bytes (k + 2))) (two_digits bytes k)

-- the character of a code below limit that is a code point other than 0, written by an escape of n bytes
unfoldable pub coded : ℕ → ℕ → ℕ → Option (ℕ × ℕ)
coded limit n c = if nat_lt 0 c && (nat_lt c limit && is_scalar c) then Some (c, n) else None

-- the character of the escape that the bytes begin with, and its number of bytes
unfoldable pub escape_at : List ℕ → Option (ℕ × ℕ)
escape_at bytes =
    let letter = slice_index bytes 1 in
    if letter == code "n" then Some (code "\n", 2)
    else (if letter == code "t" then Some (code "\t", 2)
    else (if letter == code "r" then Some (code "\r", 2)
    else (if letter == code "\\" then Some (code "\\", 2)
    else (if letter == code "\"" then Some (code "\"", 2)
    else (if letter == code "x" then option_and_then (coded 128 4) (two_digits bytes 2)
    else (if letter == code "u" then option_and_then (coded 0x11_0000 6) (four_digits bytes 2)
    else (if letter == code "U" then option_and_then (coded 0x11_0000 8) (six_digits bytes 2)
    else None)))))))
