use Rattle.std.proofs.Common.{◌≡◌, ◌+◌, ◌-◌, ◌≤◌, drop, length}
use Rattle.scad_lex.specs.Tokens.{onto, start, tokens_from}
use Rattle.scad_lex.proofs.scanner.lex.Given as goal

-- the tokens so far, and then those of what is left, are those of the text
abbrev pub invariant-pieces : goal.invariant-pieces
invariant-pieces l = record {
  so_far : onto l.list.items (tokens_from 0 l.at (drop l.done l.text)) ≡ tokens_from 0 start l.text;
  line : l.at.line + length (drop l.done l.text) ≤ 1 + length l.text;
  col : l.at.col + length (drop l.done l.text) ≤ 1 + length l.text;
}

abbrev pub decreases-pieces : goal.decreases-pieces
decreases-pieces l = length l.text - l.done
