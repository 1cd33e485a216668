use Rattle.std.proofs.Common.{◌≡◌, ◌-◌, ◌++◌}
use Rattle.scad_tree.specs.Text.{indent}
use Rattle.scad_tree.proofs.text.push_indent.Given as goal

-- the levels so far, and what is left
abbrev pub invariant-levels : goal.invariant-levels
invariant-levels l = l.out.items ++ indent (l.level - l.counter) ≡ l.fn.out.items ++ indent l.level
