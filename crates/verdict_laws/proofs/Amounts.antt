-- The filament that a program takes, by the length of its text.
use Rattle.std.proofs.Common.{ℕ, ◌+◌, ◌*◌, ◌/◌, ◌<◌, ◌≤◌, ◌⊎◌, inl, inr, List, [], ◌∷◌, ◌++◌, length, map, subst, arith, ℤ, ◌-ℤ◌}
use Rattle.std.specs.Prelude.{unsigned_abs}
use Rattle.std.specs.List.{AllByRecursion}
use Rattle.std.proofs.lemmas.Bool.{cases_lt}
use Rattle.std.proofs.lemmas.Grind.{flat_map-append}
use Rattle.std.proofs.lemmas.Int.{ints}
use Rattle.std.proofs.lemmas.List.{length-append}
use Rattle.std.proofs.lemmas.Nat.{mul-le}
use Rattle.std.proofs.Math.Nat.{div-mul-le_self}
use Rattle.scad_num.specs.Root.{root}
use Rattle.scad_num.proofs.SquareRoot.{IsRoot-root}
use Rattle.scad_geom.specs.declared.point.Pt.{Pt}
use Rattle.scad_geom.specs.declared.point.Edge.{Edge}
use Rattle.scad_geom.specs.Limits.{point_limit}
use Rattle.scad_geom.specs.Within.{IsWithin, IsEdgeWithin}
use Rattle.plan_layer.specs.Moves.{moves_from, moves, all_moves}
use Rattle.gcode_text.specs.declared.rates.Rates.{Rates}
use Rattle.gcode_text.specs.Limits.{width_limit, amount_limit}
use Rattle.gcode_text.specs.Amount.{square, length_of, move_volume, moves_volume, path_volume, paths_volume, layers_volume, filament}
use Rattle.gcode_text.specs.Gcode.{target, print_line, travel_line, number_line, height_line, supports_line, moves_text, path_text, paths_text, Printed, printed_paths, supports_text, printed_text, layers_text, head, end, gcode}
use Rattle.gcode_text.specs.Moves.{surface}
use Rattle.print_laws.proofs.Extrusion.{both_volumes}
use Rattle.print_laws.proofs.Points.{all_front, all_back}
use Rattle.verdict_laws.specs.OwnOutlines.{file_limit}

-- ---- a move
-- its volume in cubic micrometres is at most this: 3 m long, 2 mm wide and 1 mm high
abbrev move_most : ℕ
move_most = 6000000000000

square_most : (z : ℤ) → unsigned_abs z ≤ 2000000 → square z ≤ 4000000000000
square_most z h = mul-le (unsigned_abs z) (unsigned_abs z) 2000000 2000000 h h

root_most : (n : ℕ) → n ≤ 8000000000000 → root n ≤ 3000000
root_most n h = by_size (cases_lt 3000000 (root n))
  where
    by_size : (3000000 < root n) ⊎ (root n ≤ 3000000) → root n ≤ 3000000
    by_size (inl g) =
        let above = mul-le 3000001 3000001 (root n) (root n) (omega (arith, g)) (omega (arith, g)) in
        let below = (IsRoot-root n (omega (arith, h))).square_le in
        absurd (omega (arith, above, below, h))
    by_size (inr g) = g

length_most : (a b : Pt) → IsWithin point_limit a → IsWithin point_limit b → length_of a b ≤ 3000000
unfolding length_of
length_most a b p q =
    let ax = p.x in
    let ay = p.y in
    let bx = q.x in
    let by = q.y in
    let x = square_most (b.x -ℤ a.x) (omega (arith, ints)) in
    let y = square_most (b.y -ℤ a.y) (omega (arith, ints)) in
    root_most (square (b.x -ℤ a.x) + square (b.y -ℤ a.y)) (omega (arith, x, y))

-- ---- texts, of which each move takes a byte at least
print_some : (rates : Rates) (to : Pt) (e : ℕ) → 1 ≤ length (print_line rates to e)
unfolding print_line target
print_some rates to e = omega arith

module _ (rates : Rates) (width : rates.line_width ≤ width_limit) (height : rates.layer_height ≤ 1000) where
  of_move : (e : Edge) → IsEdgeWithin point_limit e → move_volume rates e.a e.b ≤ move_most
  unfolding move_volume
  of_move e h =
      mul-le (length_of e.a e.b * rates.line_width) rates.layer_height (3000000 * width_limit) 1000
      (mul-le (length_of e.a e.b) rates.line_width 3000000 width_limit (length_most e.a e.b h.a h.b) width) height

  of_moves : (v : ℕ) (from : Pt) (ps : List Pt) → AllByRecursion (IsEdgeWithin point_limit) (moves_from from ps)
      → moves_volume rates from ps ≤ length (moves_text rates v from ps) * move_most
  unfolding moves_volume moves_text
  of_moves v from [] h = omega arith
  of_moves v from (to ∷ ps) h =
      let w : ℕ = v + move_volume rates from to in
      let line : List ℕ = print_line rates to (filament rates w) in
      let one = of_move (record { a = from; b = to }) h.0 in
      let some = print_some rates to (filament rates w) in
      let both = length-append line (moves_text rates w to ps) in
      let more = of_moves w to ps h.1 in
      omega (arith, one, some, both, more)

  of_path : (v : ℕ) (path : List Pt) → AllByRecursion (IsEdgeWithin point_limit) (moves path)
      → path_volume rates path ≤ length (path_text rates v path) * move_most
  unfolding path_volume path_text
  of_path v [] h = omega arith
  of_path v (p ∷ ps) h =
      let both = length-append (travel_line rates p) (moves_text rates v p ps) in
      let more = of_moves v p ps h in
      omega (arith, both, more)

  of_paths : (v : ℕ) (paths : List (List Pt)) → AllByRecursion (IsEdgeWithin point_limit) (all_moves paths)
      → paths_volume rates paths ≤ length (paths_text rates v paths) * move_most
  unfolding paths_volume paths_text
  of_paths v [] h = omega arith
  of_paths v (path ∷ paths) h =
      let w : ℕ = v + path_volume rates path in
      let both = length-append (path_text rates v path) (paths_text rates w paths) in
      let one = of_path v path (all_front (IsEdgeWithin point_limit) (moves path) (all_moves paths) h) in
      let more = of_paths w paths (all_back (IsEdgeWithin point_limit) (moves path) (all_moves paths) h) in
      omega (arith, both, one, more)

  of_supports : (v : ℕ) (paths : List (List Pt)) → AllByRecursion (IsEdgeWithin point_limit) (all_moves paths)
      → paths_volume rates paths ≤ length (supports_text rates v paths) * move_most
  unfolding paths_volume
  of_supports v [] h = omega arith
  of_supports v (path ∷ paths) h =
      let both = length-append supports_line (paths_text rates v (path ∷ paths)) in
      let more = of_paths v (path ∷ paths) h in
      omega (arith, both, more)

  -- of a layer's own paths, and of its supports behind them
  of_printed : (v layer : ℕ) (printed : Printed)
      → AllByRecursion (IsEdgeWithin point_limit) (all_moves (printed_paths printed))
      → paths_volume rates (printed_paths printed) ≤ length (printed_text rates v layer printed) * move_most
  of_printed v layer printed h =
      let own : List (List Pt) = printed.paths in
      let more : List (List Pt) = printed.supports in
      let w : ℕ = v + paths_volume rates own in
      let within = subst (AllByRecursion (IsEdgeWithin point_limit)) (flat_map-append moves own more) h in
      let front : List ℕ = number_line layer ++ height_line rates (surface rates layer) in
      let here = length-append front (paths_text rates v own) in
      let both = length-append (front ++ paths_text rates v own) (supports_text rates w more) in
      let one = of_paths v own (all_front (IsEdgeWithin point_limit) (all_moves own) (all_moves more) within) in
      let two = of_supports w more (all_back (IsEdgeWithin point_limit) (all_moves own) (all_moves more) within) in
      let sum = both_volumes rates own more in
      omega (arith, here, both, one, two, sum)

  of_layers : (v layer : ℕ) (layers : List Printed)
      → AllByRecursion (λ paths. AllByRecursion (IsEdgeWithin point_limit) (all_moves paths)) (map printed_paths layers)
      → layers_volume rates (map printed_paths layers) ≤ length (layers_text rates v layer layers) * move_most
  unfolding layers_volume layers_text
  of_layers v layer [] h = omega arith
  of_layers v layer (printed ∷ layers) h =
      let w : ℕ = v + paths_volume rates (printed_paths printed) in
      let both = length-append (printed_text rates v layer printed) (layers_text rates w (layer + 1) layers) in
      let one = of_printed v layer printed h.0 in
      let more = of_layers w (layer + 1) layers h.1 in
      omega (arith, both, one, more)

  -- ---- a program
  pub amount_in_range : (hot_end bed : ℕ) (layers : List Printed) → 100000 ≤ rates.filament_area
      → AllByRecursion (λ paths. AllByRecursion (IsEdgeWithin point_limit) (all_moves paths)) (map printed_paths layers)
      → length (gcode rates hot_end bed layers) ≤ file_limit
      → filament rates (layers_volume rates (map printed_paths layers)) ≤ amount_limit
  unfolding filament
  amount_in_range hot_end bed layers area within short =
      let volume = of_layers 0 0 layers within in
      let front = length-append (head hot_end bed) (layers_text rates 0 0 layers) in
      let whole = length-append (head hot_end bed ++ layers_text rates 0 0 layers) end in
      let all : ℕ = layers_volume rates (map printed_paths layers) in
      let q : ℕ = 100 * all / rates.filament_area in
      let least = mul-le q 100000 q rates.filament_area (omega arith) area in
      let most = div-mul-le_self (100 * all) rates.filament_area in
      omega (arith, volume, front, whole, short, least, most)
