-- How many moves paths have.
use Rattle.std.proofs.Common.{◌≡◌, ◌+◌, ◌-◌, ◌<◌, ℕ, List, [], ◌∷◌, ◌++◌, length, take, get_or, refl, ap, ◌∙◌}
use Rattle.std.proofs.Common.{arith, length-append}
use Rattle.std.proofs.lemmas.Grind.{flat_map-append}
use Rattle.std.proofs.lemmas.List.{take_more}
use Rattle.scad_geom.specs.declared.point.Pt.{Pt}
use Rattle.plan_layer.specs.Moves.{moves_from, moves, all_moves}

length_moves_from : (p : Pt) (ps : List Pt) → length (moves_from p ps) ≡ length ps
length_moves_from p [] = refl
length_moves_from p (q ∷ ps) = let h = length_moves_from q ps in omega (arith, h)

pub length-moves : (ps : List Pt) → length (moves ps) ≡ length ps - 1
length-moves [] = refl
length-moves (p ∷ ps) = let h = length_moves_from p ps in omega (arith, h)

-- with one more path
pub moves_more : (paths : List (List Pt)) (i : ℕ) (d : List Pt) → i < length paths
    → length (all_moves (take (i + 1) paths)) ≡ length (all_moves (take i paths)) + (length (get_or paths i d) - 1)
moves_more paths i d h =
    let path : List Pt = get_or paths i d in
    let e : length (all_moves (take (i + 1) paths)) ≡ length (all_moves (take i paths) ++ all_moves (path ∷ [])) =
    ap (λ (ps : List (List Pt)). length (all_moves ps)) (take_more paths i d h)
    ∙ ap length (flat_map-append moves (take i paths) (path ∷ [])) in
    let l = length-append (all_moves (take i paths)) (all_moves (path ∷ [])) in
    let m = length-append (moves path) [] in
    let n = length-moves path in
    omega (arith, e, l, m, n)

-- those of one list of paths and of another
pub moves_both : (paths more : List (List Pt))
    → length (all_moves (paths ++ more)) ≡ length (all_moves paths) + length (all_moves more)
moves_both paths more =
    ap length (flat_map-append moves paths more) ∙ length-append (all_moves paths) (all_moves more)
