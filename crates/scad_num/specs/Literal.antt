-- Number literals: digits with perhaps a point before, among or behind them, then perhaps an exponent
-- (OpenSCAD User Manual, "Numbers").
use Rattle.std.specs.Prelude.{◌≡◌, ℕ, ◌+◌, ◌*◌, ◌^◌, ◌<◌, ◌≤◌, Bool, true, ◌⊎◌, ◌&&◌, ◌||◌, List, [], ◌∷◌, ◌++◌, length, take, drop, ◌==◌, nat_lt, if◌then◌else◌, slice_index, ℤ, pos, Result, take_while}
use Rattle.std.specs.Char.{is_ascii_digit}
use Rattle.std.specs.List.{prefix_len, AllByRecursion}
use Rattle.std.specs.Str.Parse.{digits_value}
pub use Rattle.scad_base.specs.Characters.{plus, minus, point, upper_e, lower_e}
use Rattle.scad_num.specs.declared.fault.NumFault.{NumFault}
use Rattle.scad_num.specs.Number.{number_of}
use Rattle.scad_num.specs.Rounding.{half_up}

-- ---- the form of a literal

-- decimal digits, perhaps none
abbrev pub AreDigits : List ℕ → Type 0
AreDigits bytes = AllByRecursion (λ b. is_ascii_digit b ≡ true) bytes

-- digits, one at least, and perhaps a point before, among or behind them
pub data Mantissa : List ℕ → Type 0 where
  -- `12`
  whole : (digits : List ℕ) → AreDigits digits → 0 < length digits → Mantissa digits
  -- `12.`, `12.5`, `.5`
  pointed : (digits decimals : List ℕ) → AreDigits digits → AreDigits decimals → 0 < length digits + length decimals
      → Mantissa (digits ++ point ∷ decimals)

-- `e` or `E`
abbrev pub IsMark : ℕ → Type 0
IsMark b = (b ≡ lower_e) ⊎ (b ≡ upper_e)

-- `+` or `-`
abbrev pub IsSign : ℕ → Type 0
IsSign b = (b ≡ plus) ⊎ (b ≡ minus)

-- a mark, perhaps a sign, and digits, one at least
pub data Exponent : List ℕ → Type 0 where
  -- `e5`
  unsigned : (mark : ℕ) (digits : List ℕ) → IsMark mark → AreDigits digits → 0 < length digits → Exponent (mark ∷ digits)
  -- `e+5`, `e-5`
  signed : (mark sign : ℕ) (digits : List ℕ) → IsMark mark → IsSign sign → AreDigits digits → 0 < length digits
      → Exponent (mark ∷ sign ∷ digits)

-- a mantissa, and perhaps an exponent behind it
pub data Literal : List ℕ → Type 0 where
  plain : (mantissa : List ℕ) → Mantissa mantissa → Literal mantissa
  scaled : (mantissa exponent : List ℕ) → Mantissa mantissa → Exponent exponent → Literal (mantissa ++ exponent)

-- so many bytes in front are a literal, if there are some, and no more bytes in front are one
pub record IsLongestLiteral (bytes : List ℕ) (n : ℕ) : Type 0 where
  pub within : n ≤ length bytes
  pub literal : 0 < n → Literal (take n bytes)
  pub longest : (m : ℕ) → m ≤ length bytes → Literal (take m bytes) → m ≤ n

-- ---- its parts

-- how many digits the bytes begin with
abbrev pub digits_len : List ℕ → ℕ
digits_len bytes = prefix_len is_ascii_digit bytes

-- a point stands behind these digits
abbrev pub has_point : List ℕ → Bool
has_point bytes = slice_index bytes (digits_len bytes) == point

-- the digits before the point
abbrev pub whole_digits : List ℕ → List ℕ
whole_digits bytes = take_while is_ascii_digit bytes

-- the digits behind the point, where there is one
abbrev pub decimal_digits : List ℕ → List ℕ
decimal_digits bytes = if has_point bytes then take_while is_ascii_digit (drop (digits_len bytes + 1) bytes) else []

-- how many bytes the digits with their point take, or 0 where there is no digit
unfoldable pub mantissa_len : List ℕ → ℕ
mantissa_len bytes =
    let whole = digits_len bytes in
    let decimals = length (decimal_digits bytes) in
    if whole + decimals == 0 then 0 else (if has_point bytes then whole + 1 + decimals else whole)

-- how many bytes the sign takes that may stand behind an exponent's mark
abbrev pub sign_len : List ℕ → ℕ
sign_len bytes = if slice_index bytes 1 == plus || slice_index bytes 1 == minus then 1 else 0

-- the digits behind the mark and its sign
abbrev pub power_digits : List ℕ → List ℕ
power_digits bytes = take_while is_ascii_digit (drop (1 + sign_len bytes) bytes)

-- the bytes begin with an exponent: `e` or `E`, perhaps a sign, and digits
abbrev pub has_power : List ℕ → Bool
has_power bytes = (slice_index bytes 0 == lower_e || slice_index bytes 0 == upper_e) && nat_lt 0 (length (power_digits bytes))

-- how many bytes the exponent takes that the bytes begin with, or 0 where they begin with none
unfoldable pub exponent_len : List ℕ → ℕ
exponent_len bytes = if has_power bytes then 1 + sign_len bytes + length (power_digits bytes) else 0

-- by how many places the exponent moves the point to the right, where the bytes begin with one
unfoldable pub tens_up : List ℕ → ℕ
tens_up bytes = if has_power bytes then (if slice_index bytes 1 == minus then 0 else digits_value 10 (power_digits bytes)) else 0

-- and to the left
unfoldable pub tens_down : List ℕ → ℕ
tens_down bytes = if has_power bytes then (if slice_index bytes 1 == minus then digits_value 10 (power_digits bytes) else 0) else 0

-- how long the longest literal is that the bytes begin with, or 0 where they begin with none
unfoldable pub literal_len : List ℕ → ℕ
literal_len bytes =
    let mantissa = mantissa_len bytes in
    if mantissa == 0 then 0 else mantissa + exponent_len (drop mantissa bytes)

-- the bytes are one literal
unfoldable pub is_literal : List ℕ → Bool
is_literal bytes = nat_lt 0 (literal_len bytes) && literal_len bytes == length bytes

-- the millionths that a literal writes, rounded half away from zero
unfoldable pub literal_millionths : List ℕ → ℕ
literal_millionths bytes =
    let digits = whole_digits bytes ++ decimal_digits bytes in
    let exponent = drop (mantissa_len bytes) bytes in
    half_up (digits_value 10 digits * 10 ^ (6 + tens_up exponent)) (10 ^ (length (decimal_digits bytes) + tens_down exponent))

-- the number that a literal writes, or Range where its millionths pass 10^15
abbrev pub literal_number : List ℕ → Result ℤ NumFault
literal_number bytes = number_of (pos (literal_millionths bytes))
