-- Code points: which are characters, and those of characters that texts are read by and made of.
use Rattle.std.specs.Prelude.{ℕ, Bool, ◌||◌, nat_lt}
use Rattle.std.specs.Int.{is_in_range}

-- the number is that of a character, a Unicode scalar value (The Unicode Standard, "Surrogates")
abbrev pub is_scalar : ℕ → Bool
is_scalar c = nat_lt c 0xD800 || is_in_range 0xE000 0x10_FFFF c

-- `"`
abbrev pub quote : ℕ
quote = 34

-- `+`
abbrev pub plus : ℕ
plus = 43

-- `-`
abbrev pub minus : ℕ
minus = 45

-- `.`
abbrev pub point : ℕ
point = 46

-- `0`, the first of the ten digits
abbrev pub digit_zero : ℕ
digit_zero = 48

-- `E`
abbrev pub upper_e : ℕ
upper_e = 69

-- `[`
abbrev pub open_square : ℕ
open_square = 91

-- `\`
abbrev pub backslash : ℕ
backslash = 92

-- `]`
abbrev pub close_square : ℕ
close_square = 93

-- `e`
abbrev pub lower_e : ℕ
lower_e = 101
