-- How great the volume of moves can be.
use Rattle.std.proofs.Common.{◌≤◌, ◌+◌, ◌*◌, ℕ, List, [], ◌∷◌, length, arith, ℤ, ◌-ℤ◌}
use Rattle.std.specs.Prelude.{unsigned_abs}
use Rattle.std.specs.List.{AllByRecursion}
use Rattle.std.proofs.lemmas.Int.{ints}
use Rattle.std.proofs.lemmas.List.{length-append}
use Rattle.std.proofs.lemmas.Nat.{mul-le}
use Rattle.scad_num.specs.Root.{root}
use Rattle.scad_num.proofs.SquareRoot.{IsRoot-root, root_small}
use Rattle.scad_geom.specs.declared.point.Pt.{Pt}
use Rattle.scad_geom.specs.declared.point.Edge.{Edge}
use Rattle.scad_geom.specs.Limits.{point_limit}
use Rattle.scad_geom.specs.Within.{IsWithin, IsEdgeWithin}
use Rattle.plan_layer.specs.Moves.{moves_from, moves, all_moves}
use Rattle.gcode_text.specs.declared.rates.Rates.{Rates}
use Rattle.gcode_text.specs.Amount.{square, length_of, move_volume, moves_volume, path_volume, paths_volume}
use Rattle.gcode_text.specs.Limits.{width_limit}
use Rattle.print_laws.proofs.Points.{all_front, all_back}

-- of one move, in cubic micrometres
abbrev pub move_volume_limit : ℕ
move_volume_limit = 2000000000000000000000

square_most : (z : ℤ) → unsigned_abs z ≤ 2000000 → square z ≤ 4000000000000
square_most z h = mul-le (unsigned_abs z) (unsigned_abs z) 2000000 2000000 h h

root_most : (n : ℕ) → n ≤ 8000000000000 → root n ≤ 1000000000000000
root_most n h = root_small n (root n) (IsRoot-root n (omega arith)).square_le (omega arith)

length_most : (a b : Pt) → IsWithin point_limit a → IsWithin point_limit b → length_of a b ≤ 1000000000000000
unfolding length_of
length_most a b p q =
    let ax = p.x in
    let ay = p.y in
    let bx = q.x in
    let by = q.y in
    let x = square_most (b.x -ℤ a.x) (omega (arith, ints)) in
    let y = square_most (b.y -ℤ a.y) (omega (arith, ints)) in
    root_most (square (b.x -ℤ a.x) + square (b.y -ℤ a.y)) (omega (arith, x, y))

module _ (rates : Rates) (width : rates.line_width ≤ width_limit) (height : rates.layer_height ≤ 1000) where
  move_most : (e : Edge) → IsEdgeWithin point_limit e → move_volume rates e.a e.b ≤ move_volume_limit
  unfolding move_volume
  move_most e h =
      mul-le (length_of e.a e.b * rates.line_width) rates.layer_height (1000000000000000 * width_limit) 1000
      (mul-le (length_of e.a e.b) rates.line_width 1000000000000000 width_limit (length_most e.a e.b h.a h.b) width)
      height

  moves_most : (from : Pt) (ps : List Pt) → AllByRecursion (IsEdgeWithin point_limit) (moves_from from ps)
      → moves_volume rates from ps ≤ length (moves_from from ps) * move_volume_limit
  unfolding moves_volume
  moves_most from [] h = omega arith
  moves_most from (to ∷ ps) h =
      let a = move_most (record { a = from; b = to }) h.0 in let b = moves_most to ps h.1 in omega (arith, a, b)

  path_most : (path : List Pt) → AllByRecursion (IsEdgeWithin point_limit) (moves path)
      → path_volume rates path ≤ length (moves path) * move_volume_limit
  unfolding path_volume
  path_most [] h = omega arith
  path_most (p ∷ ps) h = moves_most p ps h

  pub paths_most : (paths : List (List Pt)) → AllByRecursion (IsEdgeWithin point_limit) (all_moves paths)
      → paths_volume rates paths ≤ length (all_moves paths) * move_volume_limit
  unfolding paths_volume
  paths_most [] h = omega arith
  paths_most (path ∷ paths) h =
      let a = path_most path (all_front (IsEdgeWithin point_limit) (moves path) (all_moves paths) h) in
      let b = paths_most paths (all_back (IsEdgeWithin point_limit) (moves path) (all_moves paths) h) in
      let e = length-append (moves path) (all_moves paths) in
      omega (arith, a, b, e)
