-- The text of the first point goes again behind all.
use Rattle.std.proofs.Common.{◌≡◌, ◌<◌, ◌≤◌, ◌++◌, ◌∷◌, [], List, length, get_or, pos, refl, sym, ap, ◌∙◌, arith}
use Rattle.std.specs.List.{flat_map}
use Rattle.std.proofs.lemmas.List.{append-nil}
use Rattle.std.proofs.lemmas.Grind.{flat_map-append}
use Rattle.scad_geom.specs.declared.point.Pt.{Pt}
use Rattle.text_scan.proofs.Printed.{two, that}
use Rattle.cli_text.specs.Cli.{point_text, closed}
use Rattle.cli_text.proofs.polyline.push_closed.Goals as goal

closed_none : (ps : List Pt) → length ps < 1 → ps ≡ closed ps
closed_none [] none = refl
closed_none (p ∷ ps) none = absurd (omega arith)

closed_by_first : (ps : List Pt) (d : Pt) → 1 ≤ length ps → ps ++ get_or ps 0 d ∷ [] ≡ closed ps
closed_by_first [] d some = absurd (omega arith)
closed_by_first (p ∷ ps) d some = refl

closed_text : (ps : List Pt) (d : Pt) → 1 ≤ length ps
    → flat_map point_text ps ++ point_text (get_or ps 0 d) ≡ flat_map point_text (closed ps)
closed_text ps d some =
    ap (λ t. flat_map point_text ps ++ t) (sym (append-nil (point_text (get_or ps 0 d))))
    ∙ sym (flat_map-append point_text ps (get_or ps 0 d ∷ []))
    ∙ ap (flat_map point_text) (closed_by_first ps d some)

pub returns-in-empty : goal.returns-in-empty
returns-in-empty c =
    that (ap (flat_map point_text) (closed_none c.args.points.now c.in-empty.len_below)) c.push_points.ensures

pub returns-in-len1-up : goal.returns-in-len1-up
returns-in-len1-up c =
    that (closed_text c.args.points.now (record { x = pos 0; y = pos 0 }) c.in-len1-up.len_at_least)
    (two c.push_points.ensures c.push_point.ensures)
