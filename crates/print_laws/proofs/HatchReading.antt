-- The runs of infill of planned layers can be read back as hatches.
use Rattle.std.proofs.Common.{◌≡◌, ◌-◌, ◌≤◌, ℕ, List, [], ◌∷◌, ◌++◌, length, take, drop, ap, sym, subst, ◌∙◌, arith}
use Rattle.std.proofs.Common.{length-append}
use Rattle.std.specs.List.{AllByRecursion}
use Rattle.std.specs.Prelude.{Ok}
use Rattle.std.proofs.lemmas.Grind.{flat_map-append}
use Rattle.std.proofs.lemmas.List.{take-append-drop}
use Rattle.scad_geom.specs.declared.point.Pt.{Pt}
use Rattle.scad_geom.specs.declared.point.Edge.{Edge}
use Rattle.scad_geom.specs.Limits.{coordinate_limit, point_limit}
use Rattle.scad_geom.specs.Within.{IsWithin, IsEdgeWithin}
use Rattle.scad_words.specs.declared.settings.Settings.{Settings}
use Rattle.scad_words.specs.Settings.{AreInRange}
use Rattle.plan_layer.specs.Clearance.{PlansKeepClear}
use Rattle.plan_layer.specs.Moves.{moves, all_moves, move_limit}
use Rattle.cli_read.specs.Form.{AreHatches}
use Rattle.slice_work.specs.Part.{Layout, hatches_of}
use Rattle.print_laws.specs.LayerPlans.{IsPlanned}
use Rattle.print_laws.proofs.Points.{all_back}
use Rattle.print_laws.proofs.Printable.{ends_within}

-- the moves along the first paths, and along those behind them
parted : (k : ℕ) (paths : List (List Pt)) → all_moves (take k paths) ++ all_moves (drop k paths) ≡ all_moves paths
parted k paths = sym (flat_map-append moves (take k paths) (drop k paths)) ∙ ap all_moves (take-append-drop k paths)

near : (es : List Edge) → AllByRecursion (IsEdgeWithin point_limit) es
    → AllByRecursion (IsEdgeWithin coordinate_limit) es
near [] h = tt
near (e ∷ es) h =
    let ax = h.0.a.x in
    let ay = h.0.a.y in
    let bx = h.0.b.x in
    let by = h.0.b.y in
    let a : IsWithin coordinate_limit e.a = record { x = omega (arith, ax); y = omega (arith, ay) } in
    let b : IsWithin coordinate_limit e.b = record { x = omega (arith, bx); y = omega (arith, by) } in
    (record { a = a; b = b }, near es h.1)

-- with supports behind them paths have as many moves, and more
pub moves_fewer : (paths more : List (List Pt)) (n : ℕ) → length (all_moves (paths ++ more)) ≤ n
    → length (all_moves paths) ≤ n
moves_fewer paths more n h =
    let both = length-append (all_moves paths) (all_moves more) in
    let same = ap length (flat_map-append moves paths more) in
    omega (arith, h, both, same)

pub are_hatches : PlansKeepClear → (s : Settings) → AreInRange s → (i : ℕ) (l : Layout) → IsPlanned s i l
    → AreHatches (hatches_of (Ok l))
are_hatches law s range i l p =
    let k = length l.paths - l.runs in
    let front = all_moves (take k l.paths) in
    let runs = all_moves (drop k l.paths) in
    let all = ap length (parted k l.paths) in
    let both = length-append front runs in
    let few = moves_fewer l.paths l.supports move_limit p.moves in
    record {
      count = omega (arith, all, both, few);
      near = near runs (all_back (IsEdgeWithin point_limit) front runs
          (subst (AllByRecursion (IsEdgeWithin point_limit)) (sym (parted k l.paths)) (ends_within law s range i l p)));
    }
