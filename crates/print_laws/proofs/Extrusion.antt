-- Which moves of a program extrude.
use Rattle.std.proofs.Common.{◌≡◌, ◌+◌, ℕ, Bool, true, false, not, cond, List, [], ◌∷◌, ◌++◌, map, refl, ap, ap₂}
use Rattle.std.proofs.Common.{◌∙◌, sym, pos, arith}
use Rattle.std.specs.Prelude.{All}
use Rattle.std.specs.List.{AllByRecursion}
use Rattle.std.specs.Ordering.{int_eq}
use Rattle.std.proofs.lemmas.Bool.{and_parts}
use Rattle.std.proofs.lemmas.Grind.{flat_map-append}
use Rattle.std.proofs.lemmas.List.{map-append}
use Rattle.std.proofs.lemmas.List.Elements.{filter-append, recursion_from_All}
use Rattle.scad_base.proofs.Tests.{int_eq-true}
use Rattle.scad_geom.specs.declared.point.Pt.{Pt}
use Rattle.scad_geom.specs.declared.point.Edge.{Edge}
use Rattle.scad_geom.specs.declared.point3.Pt3.{Pt3}
use Rattle.slice_loops.specs.Lengths.{HasLength}
use Rattle.plan_layer.specs.Moves.{moves_from, moves, all_moves}
use Rattle.gcode_text.specs.declared.machine.Move.{Move}
use Rattle.gcode_text.specs.declared.rates.Rates.{Rates}
use Rattle.gcode_text.specs.Amount.{move_volume, moves_volume, path_volume, paths_volume, filament}
use Rattle.gcode_text.specs.Gcode.{Printed, printed_paths}
use Rattle.gcode_text.specs.Machine.{stays, origin}
use Rattle.gcode_text.specs.Moves.{at_height, printing_moves, path_moves, behind_path, paths_moves}
use Rattle.gcode_text.specs.Moves.{behind_paths, raised, surface, layer_moves, layers_moves}
use Rattle.print_laws.specs.Print.{extruding, PathSide, sides_at, sides_from, move_along, moves_along}
use Rattle.print_laws.specs.Laws.{SidesAreExtruded}
use Rattle.print_laws.proofs.Points.{all_front, all_back}

-- ---- which extrude
extruding_behind : (ms ns : List Move) → extruding (ms ++ ns) ≡ extruding ms ++ extruding ns
extruding_behind ms ns = filter-append (λ (m : Move). m.extruding) ms ns

-- where the ends of a side differ, so do those of the move
stays_same : (z : ℕ) (a b : Pt) → stays (at_height a z) (at_height b z) ≡ true → a ≡ b
stays_same z a b h =
    let both = and_parts (int_eq a.x b.x) (int_eq a.y b.y) h in
    let x = int_eq-true a.x b.x both.0 in
    let y = int_eq-true a.y b.y both.1 in
    λ k. record { x = x k; y = y k }

extrudes : (z : ℕ) (a b : Pt) → HasLength (record { a = a; b = b }) → not (stays (at_height a z) (at_height b z)) ≡ true
extrudes z a b long = by_test (stays (at_height a z) (at_height b z)) refl
  where
    by_test : (t : Bool) → stays (at_height a z) (at_height b z) ≡ t → not t ≡ true
    by_test true h = absurd (long (stays_same z a b h))
    by_test false h = refl

-- ---- sides at a height
abbrev side_at : Bool → ℕ → Edge → PathSide
side_at support z e = record { z = z; edge = e; support = support }

module _ (rates : Rates) where
  -- the volume of sides
  volume_of : List PathSide → ℕ
  volume_of [] = 0
  volume_of (side ∷ sides) = move_volume rates side.edge.a side.edge.b + volume_of sides

  along_behind : (v : ℕ) (ss ts : List PathSide)
      → moves_along rates v (ss ++ ts) ≡ moves_along rates v ss ++ moves_along rates (v + volume_of ss) ts
  unfolding volume_of
  along_behind v [] ts = let e : v ≡ v + 0 = omega arith in ap (λ (n : ℕ). moves_along rates n ts) e
  along_behind v (s ∷ ss) ts =
      let here : ℕ = move_volume rates s.edge.a s.edge.b in
      let e : (v + here) + volume_of ss ≡ v + (here + volume_of ss) = omega arith in
      ap (λ (ms : List Move). move_along rates v s ∷ ms)
      (along_behind (v + here) ss ts
      ∙ ap (λ (n : ℕ). moves_along rates (v + here) ss ++ moves_along rates n ts) e)

  volume_behind : (ss ts : List PathSide) → volume_of (ss ++ ts) ≡ volume_of ss + volume_of ts
  unfolding volume_of
  volume_behind [] ts = omega arith
  volume_behind (s ∷ ss) ts = let more = volume_behind ss ts in omega (arith, more)

  -- the volume of a path is that of its sides
  from_volume : (b : Bool) (z : ℕ) (from : Pt) (ps : List Pt)
      → volume_of (map (side_at b z) (moves_from from ps)) ≡ moves_volume rates from ps
  unfolding volume_of moves_volume
  from_volume b z from [] = refl
  from_volume b z from (to ∷ ps) = ap (λ (n : ℕ). move_volume rates from to + n) (from_volume b z to ps)

  one_volume : (b : Bool) (z : ℕ) (path : List Pt) → volume_of (map (side_at b z) (moves path)) ≡ path_volume rates path
  unfolding volume_of path_volume
  one_volume b z [] = refl
  one_volume b z (p ∷ ps) = from_volume b z p ps

  all_volume : (b : Bool) (z : ℕ) (paths : List (List Pt)) → volume_of (sides_at b z paths) ≡ paths_volume rates paths
  unfolding volume_of paths_volume
  all_volume b z [] = refl
  all_volume b z (path ∷ paths) =
      ap volume_of (map-append (side_at b z) (moves path) (all_moves paths))
      ∙ volume_behind (map (side_at b z) (moves path)) (sides_at b z paths)
      ∙ ap₂ (λ (m n : ℕ). m + n) (one_volume b z path) (all_volume b z paths)

  pub both_volumes : (paths more : List (List Pt))
      → paths_volume rates (paths ++ more) ≡ paths_volume rates paths + paths_volume rates more
  unfolding paths_volume
  both_volumes [] more = omega arith
  both_volumes (path ∷ paths) more = let e = both_volumes paths more in omega (arith, e)

  -- moves along the sides of supports are those along sides of other paths
  same_along : (v z : ℕ) (es : List Edge)
      → moves_along rates v (map (side_at false z) es) ≡ moves_along rates v (map (side_at true z) es)
  same_along v z [] = refl
  same_along v z (e ∷ es) =
      ap (λ (ms : List Move). move_along rates v (side_at true z e) ∷ ms)
      (same_along (v + move_volume rates e.a e.b) z es)

  -- those of a layer, its supports behind the others
  printed_along : (v z : ℕ) (layer : Printed)
      → moves_along rates v (sides_at false z (printed_paths layer))
      ≡ moves_along rates v (sides_at false z layer.paths ++ sides_at true z layer.supports)
  printed_along v z layer =
      let plan : List PathSide = sides_at false z layer.paths in
      let own : List Edge = all_moves layer.paths in
      let more : List Edge = all_moves layer.supports in
      ap (λ (es : List Edge). moves_along rates v (map (side_at false z) es))
      (flat_map-append moves layer.paths layer.supports)
      ∙ ap (moves_along rates v) (map-append (side_at false z) own more)
      ∙ along_behind v plan (sides_at false z layer.supports)
      ∙ ap (λ (ms : List Move). moves_along rates v plan ++ ms) (same_along (v + volume_of plan) z more)
      ∙ sym (along_behind v plan (sides_at true z layer.supports))

  printed_volume : (z : ℕ) (layer : Printed)
      → volume_of (sides_at false z layer.paths ++ sides_at true z layer.supports)
      ≡ paths_volume rates (printed_paths layer)
  printed_volume z layer =
      volume_behind (sides_at false z layer.paths) (sides_at true z layer.supports)
      ∙ ap₂ (λ (m n : ℕ). m + n) (all_volume false z layer.paths) (all_volume true z layer.supports)
      ∙ sym (both_volumes layer.paths layer.supports)

  -- ---- the moves that extrude
  marked : ℕ → ℕ → Pt → Pt → Bool → Move
  marked z v from to extrudes = record {
    from = at_height from z;
    to = at_height to z;
    from_e = pos (filament rates v);
    to_e = pos (filament rates (v + move_volume rates from to));
    extruding = extrudes;
  }

  printing_along : (z v : ℕ) (from : Pt) (ps : List Pt) → AllByRecursion HasLength (moves_from from ps)
      → extruding (printing_moves rates z v from ps) ≡ moves_along rates v (map (side_at false z) (moves_from from ps))
  unfolding printing_moves marked
  printing_along z v from [] long = refl
  printing_along z v from (to ∷ ps) long =
      let rest : List Move = extruding (printing_moves rates z (v + move_volume rates from to) to ps) in
      ap (λ (b : Bool). cond b (marked z v from to b ∷ rest) rest) (extrudes z from to long.0)
      ∙ ap (λ (ms : List Move). marked z v from to true ∷ ms) (printing_along z (v + move_volume rates from to) to ps
      long.1)

  path_along : (z v : ℕ) (here : Pt3) (path : List Pt) → AllByRecursion HasLength (moves path)
      → extruding (path_moves rates z v here path) ≡ moves_along rates v (map (side_at false z) (moves path))
  unfolding path_moves
  path_along z v here [] long = refl
  path_along z v here (p ∷ ps) long = printing_along z v p ps long

  paths_along : (z v : ℕ) (here : Pt3) (paths : List (List Pt)) → AllByRecursion HasLength (all_moves paths)
      → extruding (paths_moves rates z v here paths) ≡ moves_along rates v (map (side_at false z) (all_moves paths))
  unfolding paths_moves
  paths_along z v here [] long = refl
  paths_along z v here (path ∷ paths) long =
      let w : ℕ = v + path_volume rates path in
      let first : List PathSide = map (side_at false z) (moves path) in
      let rest : List PathSide = map (side_at false z) (all_moves paths) in
      extruding_behind (path_moves rates z v here path) (paths_moves rates z w (behind_path z here path) paths)
      ∙ ap₂ (λ (x y : List Move). x ++ y) (path_along z v here path (all_front HasLength (moves path) (all_moves paths)
      long))
      (paths_along z w (behind_path z here path) paths (all_back HasLength (moves path) (all_moves paths) long))
      ∙ ap (λ (n : ℕ). moves_along rates v first ++ moves_along rates (v + n) rest) (sym (one_volume false z path))
      ∙ sym (along_behind v first rest)
      ∙ ap (moves_along rates v) (sym (map-append (side_at false z) (moves path) (all_moves paths)))

  layers_along : (v i : ℕ) (here : Pt3) (layers : List Printed)
      → AllByRecursion (λ layer. AllByRecursion HasLength (all_moves (printed_paths layer))) layers
      → extruding (layers_moves rates v i here (map printed_paths layers))
      ≡ moves_along rates v (sides_from rates.layer_height i layers)
  unfolding layers_moves layer_moves
  layers_along v i here [] long = refl
  layers_along v i here (layer ∷ layers) long =
      let paths : List (List Pt) = printed_paths layer in
      let z : ℕ = surface rates i in
      let up : Pt3 = raised here z in
      let next : Pt3 = behind_paths z up paths in
      let w : ℕ = v + paths_volume rates paths in
      let first : List PathSide = sides_at false z layer.paths ++ sides_at true z layer.supports in
      let rest : List PathSide = sides_from rates.layer_height (i + 1) layers in
      extruding_behind (paths_moves rates z v up paths) (layers_moves rates w (i + 1) next (map printed_paths layers))
      ∙ ap₂ (λ (x y : List Move). x ++ y) (paths_along z v up paths long.0 ∙ printed_along v z layer)
      (layers_along w (i + 1) next layers long.1)
      ∙ ap (λ (n : ℕ). moves_along rates v first ++ moves_along rates (v + n) rest) (sym (printed_volume z layer))
      ∙ sym (along_behind v first rest)

each_length : (layers : List Printed) → AllByRecursion (λ layer. (All HasLength (all_moves (printed_paths layer)))) layers
    → AllByRecursion (λ layer. AllByRecursion HasLength (all_moves (printed_paths layer))) layers
each_length [] h = tt
each_length (layer ∷ layers) h =
    (recursion_from_All HasLength (all_moves (printed_paths layer)) h.0, each_length layers h.1)

pub sides_are_extruded : SidesAreExtruded
sides_are_extruded rates layers long =
    layers_along rates 0 0 origin layers
    (each_length layers (recursion_from_All (λ layer. All HasLength (all_moves (printed_paths layer))) layers long))
