-- Supports have their comment where there are some.
use Rattle.std.proofs.Common.{◌≡◌, ℕ, ◌<◌, ◌≤◌, ◌++◌, ◌∷◌, [], List, length, refl, arith}
use Rattle.scad_geom.specs.declared.point.Pt.{Pt}
use Rattle.text_scan.proofs.Printed.{none, two, that}
use Rattle.gcode_text.specs.declared.rates.Rates.{Rates}
use Rattle.gcode_text.specs.Gcode.{paths_text, supports_line, supports_text}
use Rattle.gcode_text.proofs.layer.push_supports.Goals as goal

no_supports : (rates : Rates) (v : ℕ) (paths : List (List Pt)) → length paths < 1 → [] ≡ supports_text rates v paths
no_supports rates v [] few = refl
no_supports rates v (path ∷ paths) few = absurd (omega arith)

some_supports : (rates : Rates) (v : ℕ) (paths : List (List Pt)) → 1 ≤ length paths
    → supports_line ++ paths_text rates v paths ≡ supports_text rates v paths
some_supports rates v [] some = absurd (omega arith)
some_supports rates v (path ∷ paths) some = refl

pub returns-in-empty-clause-text : goal.returns-in-empty-clause-text
returns-in-empty-clause-text c =
    that (no_supports c.args.rates.now c.args.volume c.args.paths.now c.in-empty.len_below) (none _)

pub returns-in-len1-up-clause-text : goal.returns-in-len1-up-clause-text
returns-in-len1-up-clause-text c =
    that (some_supports c.args.rates.now c.args.volume c.args.paths.now c.in-len1-up.len_at_least)
    (two c.push_supports_line.ensures c.push_paths.ensures.text)

pub push_paths-requires-clause-width : goal.push_paths-requires-clause-width
push_paths-requires-clause-width c = c.requires.width

pub push_paths-requires-clause-height : goal.push_paths-requires-clause-height
push_paths-requires-clause-height c = c.requires.height

pub push_paths-requires-clause-area : goal.push_paths-requires-clause-area
push_paths-requires-clause-area c = c.requires.area

pub push_paths-requires-clause-fits : goal.push_paths-requires-clause-fits
push_paths-requires-clause-fits c = c.requires.fits
