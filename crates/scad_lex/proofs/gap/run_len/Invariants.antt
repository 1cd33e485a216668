use Rattle.std.proofs.Common.{◌≡◌, ◌+◌, ◌-◌, ◌≤◌, drop, length}
use Rattle.std.specs.List.{prefix_len}
use Rattle.scad_lex.specs.Classes.{is_of}
use Rattle.scad_lex.proofs.gap.run_len.Given as goal

abbrev pub invariant-run : goal.invariant-run
invariant-run l = (l.n + prefix_len (is_of l.class) (drop l.n l.bytes) ≡ prefix_len (is_of l.class) l.bytes)
    × (l.n ≤ length l.bytes)

abbrev pub decreases-run : goal.decreases-run
decreases-run l = length l.bytes - l.n
