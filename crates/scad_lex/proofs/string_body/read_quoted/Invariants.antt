use Rattle.std.proofs.Common.{◌≡◌, ◌+◌, ◌-◌, ◌≤◌, drop, length}
use Rattle.scad_lex.specs.StringLiteral.{behind, quoted_from}
use Rattle.scad_lex.proofs.string_body.read_quoted.Given as goal

-- what stands at this place, with the characters so far before it, is what stands behind the quote
abbrev pub invariant-elements : goal.invariant-elements
invariant-elements l =
    record {
      within : l.done ≤ length l.bytes + 8;
      so_far : behind l.chars.items l.done
          (quoted_from 0 (drop l.done l.bytes)) ≡ quoted_from 0 l.bytes;
    }

abbrev pub decreases-elements : goal.decreases-elements
decreases-elements l = length l.bytes - l.done
