use Rattle.std.proofs.Common.{refl}
use Rattle.std.specs.List.{flat_map}
use Rattle.scad_ast.specs.Text.{character_text}
use Rattle.text_scan.proofs.Printed.{none, two, that, next, last}
use Rattle.scad_ast.proofs.printing.token.write_characters.Goals as goal

pub characters-init : goal.characters-init
characters-init c = λ end rest. rest

pub characters-preserved : goal.characters-preserved
characters-preserved c = λ end rest.
    c.characters.invariant end
    (that (next (flat_map character_text) {there = c.args.chars.now} refl c.characters-test.true c.c-item.is)
    (two c.write_character.ensures rest))

pub returns : goal.returns
returns c =
    c.characters.invariant _
    (that (last (flat_map character_text) {there = c.args.chars.now} refl c.characters-test.false)
    (none c.characters.out))
