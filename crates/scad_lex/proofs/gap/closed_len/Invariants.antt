use Rattle.std.proofs.Common.{◌≡◌, ◌+◌, ◌-◌, ◌≤◌, drop, length, option_map}
use Rattle.scad_lex.specs.Gap.{closed_len}
use Rattle.scad_lex.proofs.gap.closed_len.Given as goal

abbrev pub invariant-comment : goal.invariant-comment
invariant-comment l = (option_map (λ n. l.done + n) (closed_len (drop l.done l.bytes)) ≡ closed_len l.bytes)
    × (l.done ≤ length l.bytes)

abbrev pub decreases-comment : goal.decreases-comment
decreases-comment l = length l.bytes - l.done
