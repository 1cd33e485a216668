use Rattle.std.proofs.Common.{rules, ◌≡◌, true}
use Rattle.scad_words.specs.Numbers.{is_number}
use Rattle.scad_words.proofs.Numerals.{number_read}
use Rattle.scad_words.proofs.number.number_of.Goals as goal

pub returns-then-is_number : goal.returns-then-is_number
returns-then-is_number c =
    let is : is_number c.args.most c.args.text.now ≡ true = search rules in
    let read = number_read c.args.most c.args.text.now c.parse.result c.requires c.parse.ensures.value.0 is in
    search (rules, is, read)
