-- The moves that extrude among those that are told with their lines, and how many they are.
use Rattle.std.proofs.Common.{◌≡◌, ℕ, suc, ◌+◌, ◌*◌, Bool, true, false, cond, List, [], ◌∷◌, ◌++◌, length, map, flat_map, refl, ap, arith}
use Rattle.std.specs.List.{AllByRecursion}
use Rattle.std.proofs.lemmas.Grind.{flat_map-append}
use Rattle.std.proofs.lemmas.List.{length-map, length-append}
use Rattle.scad_geom.specs.declared.point.Pt.{Pt}
use Rattle.scad_geom.specs.declared.point.Edge.{Edge}
use Rattle.plan_layer.specs.Moves.{moves, all_moves}
use Rattle.gcode_text.specs.declared.machine.Move.{Move}
use Rattle.gcode_text.specs.declared.rates.Rates.{Rates}
use Rattle.gcode_text.specs.Amount.{move_volume}
use Rattle.gcode_text.specs.Gcode.{Printed, printed_paths}
use Rattle.plan_verify.specs.Verdict as told
use Rattle.plan_verify.specs.Verdict.{Told}
use Rattle.print_laws.specs.Print.{extruding, PathSide, sides_at, sides_from, moves_along}

abbrev pub moves_in : List Told → List Move
moves_in ts = map (λ t. t.move) ts

module _ (Does : Move → Type 0) where
  pub all_do : (ts : List Told) → AllByRecursion (λ m. m.extruding ≡ true → Does m) (moves_in ts)
      → AllByRecursion (λ t. Does t.move) (told.extruding ts)
  all_do [] h = tt
  all_do (t ∷ ts) h = by_test t.move.extruding refl (all_do ts h.1)
    where
      by_test : (b : Bool) → t.move.extruding ≡ b → AllByRecursion (λ t. Does t.move) (told.extruding ts)
          → AllByRecursion (λ t. Does t.move) (cond b (t ∷ told.extruding ts) (told.extruding ts))
      by_test true is more = (h.0 is, more)
      by_test false is more = more

pub extruding_told : (ts : List Told) → moves_in (told.extruding ts) ≡ extruding (moves_in ts)
extruding_told [] = refl
extruding_told (t ∷ ts) = by_test t.move.extruding (extruding_told ts)
  where
    by_test : (b : Bool) → moves_in (told.extruding ts) ≡ extruding (moves_in ts)
        → moves_in (cond b (t ∷ told.extruding ts) (told.extruding ts))
        ≡ cond b (t.move ∷ extruding (moves_in ts)) (extruding (moves_in ts))
    by_test true more = ap (λ (ms : List Move). t.move ∷ ms) more
    by_test false more = more

-- ---- how many they are
pub along_length : (rates : Rates) (volume : ℕ) (ss : List PathSide) → length (moves_along rates volume ss) ≡ length ss
along_length rates volume [] = refl
along_length rates volume (s ∷ ss) =
    ap suc (along_length rates (volume + move_volume rates s.edge.a s.edge.b) ss)

abbrev side_at : Bool → ℕ → Edge → PathSide
side_at b z e = record { z = z; edge = e; support = b }

at_length : (b : Bool) (z : ℕ) (paths : List (List Pt)) → length (sides_at b z paths) ≡ length (all_moves paths)
at_length b z paths = length-map (all_moves paths) (side_at b z)

pub sides_length : (h i : ℕ) (layers : List Printed)
    → length (sides_from h i layers) ≡ length (flat_map all_moves (map printed_paths layers))
sides_length h i [] = refl
sides_length h i (layer ∷ layers) =
    let z : ℕ = (i + 1) * h in
    let own : List PathSide = sides_at false z layer.paths in
    let more : List PathSide = sides_at true z layer.supports in
    let front = length-append (own ++ more) (sides_from h (i + 1) layers) in
    let here = length-append own more in
    let each = at_length false z layer.paths in
    let each_more = at_length true z layer.supports in
    let both = ap length (flat_map-append moves layer.paths layer.supports) in
    let parts = length-append (all_moves layer.paths) (all_moves layer.supports) in
    let whole = length-append (all_moves (printed_paths layer)) (flat_map all_moves (map printed_paths layers)) in
    let rest = sides_length h (i + 1) layers in
    omega (arith, front, here, each, each_more, both, parts, whole, rest)
