-- Numbers in words: decimal digits alone, of which the first ones may be zeros.
use Rattle.std.specs.Prelude.{ℕ, ◌^◌, Bool, ◌&&◌, if◌then◌else◌, nat_lt, nat_le, List, length, Option, Some, None, option_and_then}
use Rattle.std.specs.Char.{is_ascii_digit}
use Rattle.std.specs.List.{list_all}
use Rattle.std.specs.Str.Parse.{digits_value}
pub use Rattle.layer_board.specs.Limits.{worker_limit}

-- a text is of digits, from one to so many
abbrev pub is_number : ℕ → List ℕ → Bool
is_number most text = nat_le 1 (length text) && nat_le (length text) most && list_all is_ascii_digit text

-- the number that from one to so many digits write; none of another text
abbrev pub number_of : ℕ → List ℕ → Option ℕ
number_of most text = if is_number most text then Some (digits_value 10 text) else None

abbrev pub if_workers : ℕ → Option ℕ
if_workers n = if nat_le 1 n && nat_le n worker_limit then Some n else None

-- how many workers a text says: from 1 to their limit, in at most nine digits
abbrev pub workers_of : List ℕ → Option ℕ
workers_of text = option_and_then if_workers (number_of 9 text)

-- the number of a sample is below this
abbrev pub sample_limit : ℕ
sample_limit = 2 ^ 31

abbrev pub if_sample : ℕ → Option ℕ
if_sample n = if nat_lt n sample_limit then Some n else None

-- which sample a text says: a number below the limit, in at most ten digits
abbrev pub sample_of : List ℕ → Option ℕ
sample_of text = option_and_then if_sample (number_of 10 text)
