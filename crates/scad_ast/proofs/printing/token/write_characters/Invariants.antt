-- What is left to print makes the whole.
use Rattle.std.proofs.Common.{drop}
use Rattle.std.specs.List.{flat_map}
use Rattle.scad_ast.specs.Text.{character_text}
use Rattle.text_scan.specs.Printing.{Printed, Adds}
use Rattle.scad_ast.proofs.printing.token.write_characters.Given as goal

abbrev pub invariant-characters : goal.invariant-characters
invariant-characters l =
    (end : Printed) → Adds (flat_map character_text (drop l.c-index l.chars)) l.out end
    → Adds (flat_map character_text l.chars) l.fn.out end
