use Rattle.std.proofs.Common.{◌≡◌, ◌+◌, ◌≤◌, drop}
use Rattle.scad_lex.specs.Tokens.{after}
use Rattle.scad_lex.proofs.scanner.after.Given as goal

abbrev pub invariant-bytes : goal.invariant-bytes
invariant-bytes l = record {
  so_far : after l.place (drop l.b-index l.bytes) ≡ after l.fn.at l.bytes;
  line : l.place.line ≤ l.fn.at.line + l.b-index;
  col : l.place.col ≤ l.fn.at.col + l.b-index;
}
