-- Digits are read as the number that they write.
use Rattle.std.proofs.Common.{◌≡◌, ℕ, ◌<◌, ◌≤◌, true, List, length, Result, Ok, arith, rules}
use Rattle.std.specs.Char.{is_ascii_digit}
use Rattle.std.specs.List.{list_all}
use Rattle.std.specs.Str.Parse.{digits_value, ParsesUnsigned}
use Rattle.std.proofs.lemmas.Bool.Decides.{nat_tests}
use Rattle.std.proofs.lemmas.Str.Parse.{IsNumeralModel, numerals_by_value, digits_value_short, parse_gives}
use Rattle.scad_words.specs.Numbers.{is_number}

digits : IsNumeralModel (λ ds. list_all is_ascii_digit ds ≡ true) (digits_value 10)
digits = numerals_by_value _ (search rules)

pub number_read : {E : Type 0} (most : ℕ) (text : List ℕ) (r : Result ℕ E) → most ≤ 10 → ParsesUnsigned 64 10 text r
    → is_number most text ≡ true → r ≡ Ok (digits_value 10 text)
number_read most text r short parsed is =
    let all : list_all is_ascii_digit text ≡ true = search (rules, nat_tests) in
    let some : 0 < length text = grind (arith, nat_tests) in
    let few : length text ≤ 10 = grind (arith, nat_tests) in
    let small = digits_value_short digits text 10 all few in
    parse_gives digits 64 text r parsed all some (omega (arith, small))
