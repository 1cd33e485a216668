use Rattle.std.proofs.Common.{◌≡◌, drop}
use Rattle.scad_words.specs.Rows.{row_among, rows_in}
use Rattle.scad_words.proofs.rows.row_among.Given as goal

abbrev pub invariant-keys : goal.invariant-keys
invariant-keys l = row_among (rows_in (drop l.known-index l.keys)) l.key ≡ row_among (rows_in l.keys) l.key
