-- One digit, one move and one path more.
use Rattle.std.proofs.Common.{◌≡◌, ℕ, zero, suc, ◌+◌, ◌-◌, ◌*◌, ◌/◌, ◌%◌, ◌<◌, ◌≤◌, List, [], ◌∷◌, ◌++◌, length, drop, get_or, min, refl, ap, sym, ◌∙◌, arith, add-one}
use Rattle.std.specs.List.{sum_by}
use Rattle.std.proofs.Math.Seq.{drop-cons}
use Rattle.std.proofs.Math.ListN.{drop_of_length-le}
use Rattle.std.proofs.lemmas.List.Sums.{sum_by-cons}
use Rattle.scad_geom.specs.declared.point.Pt.{Pt}
use Rattle.gcode_text.specs.declared.rates.Rates.{Rates}
use Rattle.gcode_text.specs.Numeral.{last_digits}
use Rattle.gcode_text.specs.Amount.{move_volume, moves_volume, path_volume, paths_volume, filament}
use Rattle.gcode_text.specs.Gcode.{print_line, moves_text, path_text, paths_text}

-- ---- digits

pub last_digits_more : (places n : ℕ) → 0 < places →
    last_digits (places - 1) (n / 10) ++ (48 + n % 10) ∷ [] ≡ last_digits places n
unfolding last_digits
last_digits_more zero n h = absurd (omega arith)
last_digits_more (suc places) n h = let e : suc places - 1 ≡ places = omega arith in rw e refl

-- ---- moves

pub moves_text_at : (rates : Rates) (v : ℕ) (from : Pt) (ps : List Pt) (i : ℕ) (d : Pt) → i < length ps →
    moves_text rates v from (drop i ps)
    ≡ print_line rates (get_or ps i d) (filament rates (v + move_volume rates from (get_or ps i d)))
    ++ moves_text rates (v + move_volume rates from (get_or ps i d)) (get_or ps i d) (drop (suc i) ps)
unfolding moves_text
moves_text_at rates v from ps i d h = ap (moves_text rates v from) (drop-cons ps i d h)

pub moves_volume_at : (rates : Rates) (from : Pt) (ps : List Pt) (i : ℕ) (d : Pt) → i < length ps →
    moves_volume rates from (drop i ps)
    ≡ move_volume rates from (get_or ps i d) + moves_volume rates (get_or ps i d) (drop (suc i) ps)
unfolding moves_volume
moves_volume_at rates from ps i d h = ap (moves_volume rates from) (drop-cons ps i d h)

pub paths_text_at : (rates : Rates) (v : ℕ) (paths : List (List Pt)) (i : ℕ) (d : List Pt) → i < length paths →
    paths_text rates v (drop i paths)
    ≡ path_text rates v (get_or paths i d) ++ paths_text rates (v + path_volume rates (get_or paths i d))
    (drop (suc i) paths)
unfolding paths_text
paths_text_at rates v paths i d h = ap (paths_text rates v) (drop-cons paths i d h)

pub paths_volume_at : (rates : Rates) (paths : List (List Pt)) (i : ℕ) (d : List Pt) → i < length paths →
    paths_volume rates (drop i paths)
    ≡ path_volume rates (get_or paths i d) + paths_volume rates (drop (suc i) paths)
unfolding paths_volume
paths_volume_at rates paths i d h = ap (paths_volume rates) (drop-cons paths i d h)

pub points_at : (paths : List (List Pt)) (i : ℕ) (d : List Pt) → i < length paths →
    sum_by length (drop i paths) ≡ length (get_or paths i d) + sum_by length (drop (suc i) paths)
points_at paths i d h = ap (sum_by length) (drop-cons paths i d h) ∙ sum_by-cons length (get_or paths i d)
    (drop (suc i) paths)

pub next_move_text : (rates : Rates) (v w : ℕ) (from : Pt) (ps : List Pt) (i : ℕ) (d : Pt) → i < length ps →
    w ≡ v + move_volume rates from (get_or ps i d) →
    print_line rates (get_or ps i d) (filament rates (v + move_volume rates from (get_or ps i d)))
    ++ moves_text rates w (get_or ps i d) (drop (i + 1) ps) ≡ moves_text rates v from (drop i ps)
next_move_text rates v w from ps i d h ev = let at = moves_text_at rates v from ps i d h in rw (ev, add-one, at) refl

pub next_move_volume : (rates : Rates) (v w all : ℕ) (from : Pt) (ps : List Pt) (i : ℕ) (d : Pt) → i < length ps →
    v + moves_volume rates from (drop i ps) ≡ all →
    w ≡ v + move_volume rates from (get_or ps i d) →
    w + moves_volume rates (get_or ps i d) (drop (i + 1) ps) ≡ all
next_move_volume rates v w all from ps i d h k ev =
    let at = moves_volume_at rates from ps i d h in rw add-one (omega arith)

pub no_more_moves : (rates : Rates) (v : ℕ) (from : Pt) (ps : List Pt) (i : ℕ) → length ps ≤ i →
    [] ≡ moves_text rates v from (drop i ps)
unfolding moves_text
no_more_moves rates v from ps i h = sym (ap (moves_text rates v from) (drop_of_length-le ps h))

pub no_more_volume : (rates : Rates) (v all : ℕ) (from : Pt) (ps : List Pt) (i : ℕ) → length ps ≤ i →
    v + moves_volume rates from (drop i ps) ≡ all → v ≡ all
unfolding moves_volume
no_more_volume rates v all from ps i h k =
    let e : moves_volume rates from (drop i ps) ≡ 0 = ap (moves_volume rates from) (drop_of_length-le ps h) in omega
    arith

-- ---- paths

pub next_path_text : (rates : Rates) (v w : ℕ) (paths : List (List Pt)) (i : ℕ)
    (path d : List Pt) → i < length paths → path ≡ get_or paths i d →
    w ≡ v + path_volume rates path →
    path_text rates v path ++ paths_text rates w (drop (i + 1) paths) ≡ paths_text rates v (drop i paths)
next_path_text rates v w paths i path d h e ev =
    let at = paths_text_at rates v paths i d h in rw (ev, e, add-one, at) refl

pub next_path_volume : (rates : Rates) (v w all : ℕ) (paths : List (List Pt)) (i : ℕ) (path d : List Pt)
    → i < length paths → path ≡ get_or paths i d →
    v + paths_volume rates (drop i paths) ≡ all →
    w ≡ v + path_volume rates path →
    w + paths_volume rates (drop (i + 1) paths) ≡ all
next_path_volume rates v w all paths i path d h e k ev =
    let at = paths_volume_at rates paths i d h in let f = ap (path_volume rates) e in rw add-one (omega arith)

pub no_more_paths : (rates : Rates) (v : ℕ) (paths : List (List Pt)) (i : ℕ) → length paths ≤ i →
    [] ≡ paths_text rates v (drop i paths)
unfolding paths_text
no_more_paths rates v paths i h = sym (ap (paths_text rates v) (drop_of_length-le paths h))

pub no_more_paths_volume : (rates : Rates) (v all : ℕ) (paths : List (List Pt)) (i : ℕ) → length paths ≤ i →
    v + paths_volume rates (drop i paths) ≡ all → v ≡ all
unfolding paths_volume
no_more_paths_volume rates v all paths i h k =
    let e : paths_volume rates (drop i paths) ≡ 0 = ap (paths_volume rates) (drop_of_length-le paths h) in omega arith

-- the room that a path takes
pub next_path_room : (v w all : ℕ) (paths : List (List Pt)) (i : ℕ) (path d : List Pt) → i < length paths
    → path ≡ get_or paths i d →
    v + 36028797018963968 * sum_by length (drop i paths) ≤ all →
    w ≤ v + 36028797018963968 * length path →
    w + 36028797018963968 * sum_by length (drop (i + 1) paths) ≤ all
next_path_room v w all paths i path d h e k small =
    let at = points_at paths i d h in let f = ap (λ (q : List Pt). length q) e in rw add-one (omega arith)

pub no_more_points : (paths : List (List Pt)) (i : ℕ) → length paths ≤ i → sum_by length (drop i paths) ≡ 0
no_more_points paths i h = ap (sum_by length) (drop_of_length-le paths h)

-- the points counted so far, up to a limit
pub next_points : (p q : ℕ) (paths : List (List Pt)) (i : ℕ) (path d : List Pt) → i < length paths
    → path ≡ get_or paths i d →
    q ≡ min (p + length path) 4294967296 →
    min (q + sum_by length (drop (i + 1) paths)) 4294967296 ≡ min (p + sum_by length (drop i paths)) 4294967296
next_points p q paths i path d h e step =
    let at = points_at paths i d h in
    let f = ap (λ (q : List Pt). length q) e in
    rw add-one (omega arith)
