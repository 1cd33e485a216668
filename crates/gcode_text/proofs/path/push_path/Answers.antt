-- A path is a travel to its first point and the moves to the others.
use Rattle.std.proofs.Common.{◌≡◌, ℕ, ◌<◌, ◌≤◌, ◌++◌, ◌∷◌, [], List, length, drop, get_or, pos, refl, arith}
use Rattle.std.proofs.lemmas.List.{take_rest}
use Rattle.scad_geom.specs.declared.point.Pt.{Pt}
use Rattle.text_scan.proofs.Printed.{none, two, that}
use Rattle.gcode_text.specs.declared.rates.Rates.{Rates}
use Rattle.gcode_text.specs.Gcode.{travel_line, moves_text, path_text}
use Rattle.gcode_text.proofs.path.push_path.Goals as goal

no_path : (rates : Rates) (v : ℕ) (ps : List Pt) → length ps < 1 → [] ≡ path_text rates v ps
unfolding path_text
no_path rates v [] few = refl
no_path rates v (p ∷ ps) few = absurd (omega arith)

a_path : (rates : Rates) (v : ℕ) (ps : List Pt) (d : Pt) → 1 ≤ length ps
    → travel_line rates (get_or ps 0 d) ++ moves_text rates v (get_or ps 0 d) (drop 1 ps) ≡ path_text rates v ps
unfolding path_text
a_path rates v [] d some = absurd (omega arith)
a_path rates v (p ∷ ps) d some = refl

pub returns-in-empty-clause-text : goal.returns-in-empty-clause-text
returns-in-empty-clause-text c =
    that (no_path c.args.rates.now c.args.volume c.args.points.now c.in-empty.len_below) (none _)

pub returns-in-len1-up-clause-text : goal.returns-in-len1-up-clause-text
returns-in-len1-up-clause-text c =
    let moves = rw (take_rest c.args.points.now 1) at c.push_moves.ensures.text in
    that (a_path c.args.rates.now c.args.volume c.args.points.now (record { x = pos 0; y = pos 0 })
    c.in-len1-up.len_at_least) (two c.push_travel.ensures moves)

pub push_moves-requires-clause-width : goal.push_moves-requires-clause-width
push_moves-requires-clause-width c = c.requires.width

pub push_moves-requires-clause-height : goal.push_moves-requires-clause-height
push_moves-requires-clause-height c = c.requires.height

pub push_moves-requires-clause-area : goal.push_moves-requires-clause-area
push_moves-requires-clause-area c = c.requires.area
