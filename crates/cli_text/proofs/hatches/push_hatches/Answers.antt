-- Hatches have a line where there are some.
use Rattle.std.proofs.Common.{◌≡◌, ◌<◌, ◌≤◌, ◌++◌, ◌∷◌, [], List, length, codes, refl, arith}
use Rattle.scad_geom.specs.declared.point.Edge.{Edge}
use Rattle.text_scan.proofs.Printed.{none, two, that}
use Rattle.cli_text.specs.Cli.{hatches_line, hatches_text}
use Rattle.cli_text.proofs.hatches.push_hatches.Goals as goal

no_line : (hatches : List Edge) → length hatches < 1 → [] ≡ hatches_text hatches
no_line [] few = refl
no_line (hatch ∷ more) few = absurd (omega arith)

a_line : (hatches : List Edge) → 1 ≤ length hatches → hatches_line hatches ++ codes "\n" ≡ hatches_text hatches
a_line [] some = absurd (omega arith)
a_line (hatch ∷ more) some = refl

pub returns-in-empty : goal.returns-in-empty
returns-in-empty c = that (no_line c.args.hatches.now c.in-empty.len_below) (none _)

pub returns-in-len1-up : goal.returns-in-len1-up
returns-in-len1-up c =
    that (a_line c.args.hatches.now c.in-len1-up.len_at_least)
    (two c.push_hatches_line.ensures c.byte.ensures)
