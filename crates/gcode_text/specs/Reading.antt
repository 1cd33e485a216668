-- How lines, words and numbers are read.
use Rattle.std.specs.Prelude.{ℕ, ◌+◌, ◌-◌, ◌*◌, ◌^◌, Bool, ◌&&◌, List, length, take, drop, slice_index, ◌==◌, nat_lt, nat_le, ℤ, pos, neg_ℤ, Option, Some, None, if◌then◌else◌}
use Rattle.std.specs.Char.{is_ascii_digit}
use Rattle.std.specs.List.{filter, list_all}
use Rattle.std.specs.Option.{option_map}
use Rattle.std.specs.Str.Parse.{digits_value, digits_value_after}
use Rattle.scad_base.specs.Characters.{point, minus}
use Rattle.text_scan.specs.Marks.{pieces, first_at}

abbrev pub line_feed : ℕ
line_feed = 10

abbrev pub carriage_return : ℕ
carriage_return = 13

abbrev pub space : ℕ
space = 32

abbrev pub semicolon : ℕ
semicolon = 59

-- ---- lines and words

-- the lines of a text: what stands behind its last line feed is a line too
abbrev pub lines : List ℕ → List (List ℕ)
lines text = pieces line_feed text

-- a line without the carriage return at its end
unfoldable pub without_return : List ℕ → List ℕ
without_return text =
    if slice_index text (length text - 1) == carriage_return then take (length text - 1) text else text

-- what stands in front of a line's comment
unfoldable pub without_comment : List ℕ → List ℕ
without_comment text = take (first_at semicolon text) text

-- what stands between spaces
unfoldable pub words : List ℕ → List (List ℕ)
words text = filter (λ word. nat_lt 0 (length word)) (pieces space text)

-- the words of a line
abbrev pub line_words : List ℕ → List (List ℕ)
line_words text = words (without_comment (without_return text))

-- ---- numbers

-- digits, one at least
unfoldable pub are_digits : List ℕ → Bool
are_digits text = nat_lt 0 (length text) && list_all is_ascii_digit text

-- the size that digits write, in units of which 10 ^ places make one
unfoldable pub whole_size : ℕ → List ℕ → Option ℕ
whole_size places whole = if are_digits whole then Some (digits_value 10 whole * 10 ^ places) else None

-- the size that digits and at most so many decimals write
unfoldable pub pointed_size : ℕ → List ℕ → List ℕ → Option ℕ
pointed_size places whole decimals =
    if are_digits whole && are_digits decimals && nat_le (length decimals) places
    then Some (digits_value_after 10 (digits_value 10 whole) decimals * 10 ^ (places - length decimals))
    else None

-- digits, and perhaps a point and decimals
unfoldable pub size_of : ℕ → List ℕ → Option ℕ
size_of places text =
    if nat_lt (first_at point text) (length text)
    then pointed_size places (take (first_at point text) text) (drop (first_at point text + 1) text)
    else whole_size places text

abbrev pub negative : ℕ → ℤ
negative n = neg_ℤ (pos n)

-- the number that a text writes: perhaps a minus, and its size
unfoldable pub number : ℕ → List ℕ → Option ℤ
number places text =
    if slice_index text 0 == minus then option_map negative (size_of places (drop 1 text)) else option_map pos (size_of places text)
