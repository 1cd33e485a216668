-- What the machine does along a whole program.
use Rattle.std.proofs.Common.{◌≡◌, ℕ, ◌+◌, ◌*◌, ◌/◌, ◌^◌, ◌<◌, ◌≤◌, List, [], ◌∷◌, ◌++◌, length, append_assoc, refl, ap, sym, subst, ◌∙◌, arith, ◌⊎◌, inl, inr, Ok}
use Rattle.std.specs.Prelude.{pos, map}
use Rattle.std.specs.List.{AllByRecursion}
use Rattle.std.proofs.lemmas.Bool.{cases_lt}
use Rattle.std.proofs.lemmas.List.{append-nil, length-map}
use Rattle.std.proofs.lemmas.Nat.{mul-le}
use Rattle.std.proofs.Math.Nat.{div-le_self, div-mul-le_self}
use Rattle.scad_geom.specs.declared.point.Pt.{Pt}
use Rattle.scad_geom.specs.declared.point3.Pt3.{Pt3}
use Rattle.gcode_text.specs.declared.machine.Move.{Move}
use Rattle.gcode_text.specs.declared.rates.Rates.{Rates}
use Rattle.gcode_text.specs.Amount.{move_volume, moves_volume, path_volume, paths_volume, layers_volume, filament}
use Rattle.gcode_text.specs.Gcode.{travel_line, print_line, height_line, number_line, moves_text, path_text, paths_text, layer_text, Printed, printed_paths, supports_line, supports_text, printed_text, layers_text, head, end, gcode}
use Rattle.gcode_text.specs.Reading.{without_return, without_comment, words}
use Rattle.gcode_text.specs.Machine.{State, origin, start, moves_of_lines, line_step}
use Rattle.gcode_text.specs.Moves.{at_height, travel, printing, printing_moves, end_of, path_moves, behind_path, paths_moves, behind_paths, raised, surface, layer_moves, layers_moves, program_moves, IsShort, IsShortPoint, AreShortPaths}
use Rattle.gcode_text.specs.Laws.{ProgramsMakeTheirMoves}
use Rattle.gcode_text.proofs.Run.{Goes, standing, run, prefix, goes_head, goes_end, goes_nowhere, goes_on, goes_travel, goes_print, goes_height, goes_number, goes_supports_line}
use Rattle.std.proofs.Common.{zero-add}

-- ---- amounts

-- a greater volume takes no less filament
quotient_rises : (k a b : ℕ) → 1 ≤ k → a ≤ b → a / k ≤ b / k
quotient_rises k a b h l = by_size (cases_lt (b / k) (a / k))
  where
    by_size : (b / k < a / k) ⊎ (a / k ≤ b / k) → a / k ≤ b / k
    by_size (inl g) =
        let more = mul-le (b / k + 1) k (a / k) k (omega arith) (omega arith) in
        let below = div-mul-le_self a k in
        let whole : (b / k + 1) * k ≡ k * (b / k) + k = grind arith in
        absurd (omega (arith, more, below, whole))
    by_size (inr g) = g

pub filament_rises : (rates : Rates) (v w : ℕ) → 1 ≤ rates.filament_area → v ≤ w → filament rates v ≤ filament rates w
unfolding filament
filament_rises rates v w h l = quotient_rises rates.filament_area (100 * v) (100 * w) h (omega arith)

pub filament_short : (rates : Rates) (v : ℕ) → 100 * v < 10 ^ 64 → filament rates v < 10 ^ 64
unfolding filament
filament_short rates v h = let e = div-le_self (100 * v) rates.filament_area in omega arith

-- ---- paths

pub goes_moves : (rates : Rates) (z v : ℕ) (from : Pt) (ps : List Pt) → 1 ≤ rates.filament_area
    → IsShort rates.print_feed →
    AllByRecursion IsShortPoint ps → 100 * (v + moves_volume rates from ps) < 10 ^ 64 →
    Goes (at_height from z) (filament rates v) (moves_text rates v from ps) (printing_moves rates z v from ps)
    (at_height (end_of from ps) z) (filament rates (v + moves_volume rates from ps))
unfolding moves_text printing_moves end_of moves_volume
goes_moves rates z v from [] ha hf hp hv =
    let e : v ≡ v + 0 = omega arith in
    subst (λ (w : ℕ). Goes (at_height from z) (filament rates v) [] [] (at_height from z) (filament rates w)) e
    (goes_nowhere (at_height from z) (filament rates v))
goes_moves rates z v from (to ∷ ps) ha hf hp hv =
    let w : ℕ = v + move_volume rates from to in
    let e : (v + move_volume rates from to) + moves_volume rates to ps ≡ v + (move_volume rates from to + moves_volume
    rates to ps) = omega arith in
    subst (λ (sum : ℕ). Goes (at_height from z) (filament rates v)
    (print_line rates to (filament rates (v + move_volume rates from to)) ++ moves_text rates
    (v + move_volume rates from to) to ps)
    (printing rates z v from to ∷ printing_moves rates z (v + move_volume rates from to) to ps)
    (at_height (end_of to ps) z) (filament rates sum)) e
    (goes_on (print_line rates to (filament rates (v + move_volume rates from to)))
    (moves_text rates (v + move_volume rates from to) to ps)
    (printing rates z v from to ∷ []) (printing_moves rates z (v + move_volume rates from to) to ps)
    (goes_print rates z (filament rates v) (filament rates (v + move_volume rates from to)) from to
    (filament_rises rates v (v + move_volume rates from to) ha (omega arith)) hp.0.0 hp.0.1
    (filament_short rates (v + move_volume rates from to) (omega arith)) hf)
    (goes_moves rates z (v + move_volume rates from to) to ps ha hf hp.1 (omega arith)))

pub goes_path : (rates : Rates) (z v : ℕ) (here : Pt3) (path : List Pt) → here.z ≡ pos z → 1 ≤ rates.filament_area
    → IsShort rates.print_feed → IsShort rates.travel_feed →
    AllByRecursion IsShortPoint path → 100 * (v + path_volume rates path) < 10 ^ 64 →
    Goes here (filament rates v) (path_text rates v path) (path_moves rates z v here path) (behind_path z here path)
    (filament rates (v + path_volume rates path))
unfolding path_text path_moves behind_path path_volume
goes_path rates z v here [] hz ha hf ht hp hv =
    let e : v ≡ v + 0 = omega arith in
    subst (λ (w : ℕ). Goes here (filament rates v) [] [] here (filament rates w)) e
    (goes_nowhere here (filament rates v))
goes_path rates z v here (p ∷ ps) hz ha hf ht hp hv =
    goes_on (travel_line rates p) (moves_text rates v p ps) (travel here (at_height p z) (filament rates v) ∷ [])
    (printing_moves rates z v p ps)
    (goes_travel rates here z (filament rates v) p hz hp.0.0 hp.0.1 ht)
    (goes_moves rates z v p ps ha hf hp.1 hv)

stays_at_height : (z : ℕ) (here : Pt3) (path : List Pt) → here.z ≡ pos z → (behind_path z here path).z ≡ pos z
unfolding behind_path
stays_at_height z here [] h = h
stays_at_height z here (p ∷ ps) h = refl

pub goes_paths : (rates : Rates) (z v : ℕ) (here : Pt3) (paths : List (List Pt)) → here.z ≡ pos z
    → 1 ≤ rates.filament_area → IsShort rates.print_feed → IsShort rates.travel_feed →
    AreShortPaths paths → 100 * (v + paths_volume rates paths) < 10 ^ 64 →
    Goes here (filament rates v) (paths_text rates v paths) (paths_moves rates z v here paths)
    (behind_paths z here paths) (filament rates (v + paths_volume rates paths))
unfolding paths_text paths_moves behind_paths paths_volume
goes_paths rates z v here [] hz ha hf ht hp hv =
    let e : v ≡ v + 0 = omega arith in
    subst (λ (w : ℕ). Goes here (filament rates v) [] [] here (filament rates w)) e
    (goes_nowhere here (filament rates v))
goes_paths rates z v here (path ∷ paths) hz ha hf ht hp hv =
    let e : (v + path_volume rates path) + paths_volume rates paths ≡ v + (path_volume rates path + paths_volume rates
    paths) = omega arith in
    subst (λ (sum : ℕ). Goes here (filament rates v)
    (path_text rates v path ++ paths_text rates (v + path_volume rates path) paths)
    (path_moves rates z v here path ++ paths_moves rates z (v + path_volume rates path) (behind_path z here path) paths)
    (behind_paths z (behind_path z here path) paths) (filament rates sum)) e
    (goes_on (path_text rates v path) (paths_text rates (v + path_volume rates path) paths)
    (path_moves rates z v here path) (paths_moves rates z (v + path_volume rates path) (behind_path z here path) paths)
    (goes_path rates z v here path hz ha hf ht hp.0 (omega arith))
    (goes_paths rates z (v + path_volume rates path) (behind_path z here path) paths (stays_at_height z here path hz) ha
    hf ht hp.1 (omega arith)))

-- ---- layers

rest_of_height : (layer count h : ℕ) → (layer + (1 + count)) * h < 10 ^ 64 → (layer + 1) * h < 10 ^ 64
rest_of_height layer count h s = let m = mul-le (layer + 1) h (layer + (1 + count)) h (omega arith) (omega arith) in omega arith

pub goes_layer : (rates : Rates) (v layer : ℕ) (here : Pt3) (paths : List (List Pt)) → 1 ≤ rates.filament_area
    → IsShort rates.print_feed → IsShort rates.travel_feed →
    AreShortPaths paths → IsShort layer → IsShort (surface rates layer) → 100 * (v + paths_volume rates paths) < 10 ^ 64
    →
    Goes here (filament rates v) (layer_text rates v layer paths) (layer_moves rates v layer here paths)
    (behind_paths (surface rates layer) (raised here (surface rates layer)) paths)
    (filament rates (v + paths_volume rates paths))
unfolding layer_moves
goes_layer rates v layer here paths ha hf ht hp hl hs hv =
    goes_on (number_line layer ++ height_line rates (surface rates layer)) (paths_text rates v paths)
    (travel here (raised here (surface rates layer)) (filament rates v) ∷ [])
    (paths_moves rates (surface rates layer) v (raised here (surface rates layer)) paths)
    (goes_on (number_line layer) (height_line rates (surface rates layer)) []
    (travel here (raised here (surface rates layer)) (filament rates v) ∷ [])
    (goes_number here (filament rates v) layer hl)
    (goes_height rates here (surface rates layer) (filament rates v) hs ht))
    (goes_paths rates (surface rates layer) v (raised here (surface rates layer)) paths refl ha hf ht hp hv)

-- ---- supports

-- the moves along paths of one list, and then of another
moves_behind : (rates : Rates) (z v : ℕ) (here : Pt3) (paths more : List (List Pt))
    → paths_moves rates z v here (paths ++ more)
    ≡ paths_moves rates z v here paths ++ paths_moves rates z (v + paths_volume rates paths) (behind_paths z here paths) more
unfolding paths_moves behind_paths paths_volume
moves_behind rates z v here [] more =
    let e : v ≡ v + 0 = omega arith in ap (λ (w : ℕ). paths_moves rates z w here more) e
moves_behind rates z v here (path ∷ paths) more =
    let w : ℕ = v + path_volume rates path in
    let e : w + paths_volume rates paths ≡ v + (path_volume rates path + paths_volume rates paths) = omega arith in
    let there : Pt3 = behind_path z here path in
    ap (λ (moves : List Move). path_moves rates z v here path ++ moves) (moves_behind rates z w there paths more)
    ∙ sym (append_assoc (path_moves rates z v here path) (paths_moves rates z w there paths)
    (paths_moves rates z (w + paths_volume rates paths) (behind_paths z there paths) more))
    ∙ ap (λ (sum : ℕ). (path_moves rates z v here path ++ paths_moves rates z w there paths)
    ++ paths_moves rates z sum (behind_paths z there paths) more) e

ends_behind : (z : ℕ) (here : Pt3) (paths more : List (List Pt))
    → behind_paths z here (paths ++ more) ≡ behind_paths z (behind_paths z here paths) more
unfolding behind_paths
ends_behind z here [] more = refl
ends_behind z here (path ∷ paths) more = ends_behind z (behind_path z here path) paths more

volume_both : (rates : Rates) (paths more : List (List Pt))
    → paths_volume rates (paths ++ more) ≡ paths_volume rates paths + paths_volume rates more
unfolding paths_volume
volume_both rates [] more = sym (zero-add (paths_volume rates more))
volume_both rates (path ∷ paths) more = let e = volume_both rates paths more in omega (arith, e)

short_front : (paths more : List (List Pt)) → AreShortPaths (paths ++ more) → AreShortPaths paths
short_front [] more h = tt
short_front (path ∷ paths) more h = (h.0, short_front paths more h.1)

short_rest : (paths more : List (List Pt)) → AreShortPaths (paths ++ more) → AreShortPaths more
short_rest [] more h = h
short_rest (path ∷ paths) more h = short_rest paths more h.1

stay_at_height : (z : ℕ) (here : Pt3) (paths : List (List Pt)) → here.z ≡ pos z → (behind_paths z here paths).z ≡ pos z
unfolding behind_paths
stay_at_height z here [] h = h
stay_at_height z here (path ∷ paths) h = stay_at_height z (behind_path z here path) paths (stays_at_height z here path h)

goes_supports : (rates : Rates) (z v : ℕ) (here : Pt3) (paths : List (List Pt)) → here.z ≡ pos z
    → 1 ≤ rates.filament_area → IsShort rates.print_feed → IsShort rates.travel_feed →
    AreShortPaths paths → 100 * (v + paths_volume rates paths) < 10 ^ 64 →
    Goes here (filament rates v) (supports_text rates v paths) (paths_moves rates z v here paths)
    (behind_paths z here paths) (filament rates (v + paths_volume rates paths))
unfolding paths_moves behind_paths paths_volume
goes_supports rates z v here [] hz ha hf ht hp hv =
    let e : v ≡ v + 0 = omega arith in
    subst (λ (w : ℕ). Goes here (filament rates v) [] [] here (filament rates w)) e
    (goes_nowhere here (filament rates v))
goes_supports rates z v here (path ∷ paths) hz ha hf ht hp hv =
    goes_on supports_line (paths_text rates v (path ∷ paths)) [] (paths_moves rates z v here (path ∷ paths))
    (goes_supports_line here (filament rates v)) (goes_paths rates z v here (path ∷ paths) hz ha hf ht hp hv)

-- a layer's own paths and its supports are one list of paths
goes_printed : (rates : Rates) (v layer : ℕ) (here : Pt3) (printed : Printed) → 1 ≤ rates.filament_area
    → IsShort rates.print_feed → IsShort rates.travel_feed →
    AreShortPaths (printed_paths printed) → IsShort layer → IsShort (surface rates layer)
    → 100 * (v + paths_volume rates (printed_paths printed)) < 10 ^ 64 →
    Goes here (filament rates v) (printed_text rates v layer printed)
    (layer_moves rates v layer here (printed_paths printed))
    (behind_paths (surface rates layer) (raised here (surface rates layer)) (printed_paths printed))
    (filament rates (v + paths_volume rates (printed_paths printed)))
unfolding layer_moves
goes_printed rates v layer here printed ha hf ht hp hl hs hv =
    subst (λ (sum : ℕ). Goes here (filament rates v) (printed_text rates v layer printed)
    (up ∷ paths_moves rates z v above (own ++ more)) (behind_paths z above (own ++ more)) (filament rates sum))
    (omega (arith, both))
    (subst (λ (to : Pt3). Goes here (filament rates v) (printed_text rates v layer printed)
    (up ∷ paths_moves rates z v above (own ++ more)) to (filament rates (w + paths_volume rates more)))
    (sym (ends_behind z above own more))
    (subst (λ (moves : List Move). Goes here (filament rates v) (printed_text rates v layer printed)
    (up ∷ moves) (behind_paths z (behind_paths z above own) more) (filament rates (w + paths_volume rates more)))
    (sym (moves_behind rates z v above own more))
    (goes_on (layer_text rates v layer own) (supports_text rates w more) (up ∷ paths_moves rates z v above own)
    (paths_moves rates z w (behind_paths z above own) more)
    (goes_layer rates v layer here own ha hf ht (short_front own more hp) hl hs (omega (arith, both, hv)))
    (goes_supports rates z w (behind_paths z above own) more (stay_at_height z above own refl) ha hf ht
    (short_rest own more hp) (omega (arith, both, hv))))))
  where
    own : List (List Pt)
    own = printed.paths

    more : List (List Pt)
    more = printed.supports

    z : ℕ
    z = surface rates layer

    w : ℕ
    w = v + paths_volume rates own

    above : Pt3
    above = raised here z

    up : Move
    up = travel here above (filament rates v)

    both : paths_volume rates (own ++ more) ≡ paths_volume rates own + paths_volume rates more
    both = volume_both rates own more

-- where layers end
abbrev pub behind_layers : Rates → ℕ → Pt3 → List (List (List Pt)) → Pt3
behind_layers rates layer here [] = here
behind_layers rates layer here (paths ∷ layers) =
    behind_layers rates (layer + 1) (behind_paths (surface rates layer) (raised here (surface rates layer)) paths)
    layers

pub goes_layers : (rates : Rates) (v layer : ℕ) (here : Pt3) (layers : List Printed) → 1 ≤ rates.filament_area
    → IsShort rates.print_feed → IsShort rates.travel_feed →
    AllByRecursion AreShortPaths (map printed_paths layers) → IsShort (layer + length layers)
    → IsShort ((layer + length layers) * rates.layer_height)
    → 100 * (v + layers_volume rates (map printed_paths layers)) < 10 ^ 64 →
    Goes here (filament rates v) (layers_text rates v layer layers)
    (layers_moves rates v layer here (map printed_paths layers))
    (behind_layers rates layer here (map printed_paths layers))
    (filament rates (v + layers_volume rates (map printed_paths layers)))
unfolding layers_text layers_moves layers_volume
goes_layers rates v layer here [] ha hf ht hp hl hs hv =
    let e : v ≡ v + 0 = omega arith in
    subst (λ (w : ℕ). Goes here (filament rates v) [] [] here (filament rates w)) e
    (goes_nowhere here (filament rates v))
goes_layers rates v layer here (printed ∷ layers) ha hf ht hp hl hs hv =
    subst (λ (sum : ℕ). Goes here (filament rates v)
    (printed_text rates v layer printed ++ layers_text rates w (layer + 1) layers)
    (layer_moves rates v layer here paths ++ layers_moves rates w (layer + 1) there rest)
    (behind_layers rates (layer + 1) there rest) (filament rates sum)) e
    (goes_on (printed_text rates v layer printed) (layers_text rates w (layer + 1) layers)
    (layer_moves rates v layer here paths) (layers_moves rates w (layer + 1) there rest)
    (goes_printed rates v layer here printed ha hf ht hp.0 (omega arith)
    (rest_of_height layer (length layers) rates.layer_height (subst (λ (k : ℕ). k * rates.layer_height < 10 ^ 64) m hs))
    (omega arith))
    (goes_layers rates w (layer + 1) there layers ha hf ht hp.1
    (omega arith) (subst (λ (k : ℕ). k * rates.layer_height < 10 ^ 64) n hs) (omega arith)))
  where
    paths : List (List Pt)
    paths = printed_paths printed

    rest : List (List (List Pt))
    rest = map printed_paths layers

    w : ℕ
    w = v + paths_volume rates paths

    there : Pt3
    there = behind_paths (surface rates layer) (raised here (surface rates layer)) paths

    e : w + layers_volume rates rest ≡ v + (paths_volume rates paths + layers_volume rates rest)
    e = omega arith

    n : layer + length (printed ∷ layers) ≡ layer + 1 + length layers
    n = omega arith

    m : layer + length (printed ∷ layers) ≡ layer + (1 + length layers)
    m = omega arith

-- ---- the law

nothing_more : (s : State) → run s [] ≡ Ok []
unfolding moves_of_lines line_step without_return without_comment words
nothing_more s = refl

no_filament : (rates : Rates) → filament rates 0 ≡ 0
unfolding filament
no_filament rates = let e = div-le_self (100 * 0) rates.filament_area in omega arith

pub programs_make_their_moves : ProgramsMakeTheirMoves
programs_make_their_moves rates hot_end bed printed w =
    ap (run start) (sym (append-nil (gcode rates hot_end bed printed))) ∙ last.1
    ∙ ap (prefix (program_moves rates layers))
    (nothing_more (standing (behind_layers rates 0 origin layers) (filament rates (0 + layers_volume rates layers))
    last.0))
    ∙ ap Ok (append-nil (program_moves rates layers))
  where
    layers : List (List (List Pt))
    layers = map printed_paths printed

    as_many : length layers ≡ 0 + length printed
    as_many = length-map printed printed_paths ∙ sym (zero-add (length printed))

    front : Goes origin 0 (head hot_end bed) [] origin (filament rates 0)
    front = subst (λ (e : ℕ). Goes origin 0 (head hot_end bed) [] origin e) (sym (no_filament rates))
        (goes_head origin 0 hot_end bed w.temperatures.0 w.temperatures.1)

    middle : Goes origin (filament rates 0) (layers_text rates 0 0 printed) (program_moves rates layers)
        (behind_layers rates 0 origin layers) (filament rates (0 + layers_volume rates layers))
    middle = goes_layers rates 0 0 origin printed w.area w.print_feed w.travel_feed w.points
        (subst (λ (k : ℕ). k < 10 ^ 64) as_many w.count)
        (subst (λ (k : ℕ). k * rates.layer_height < 10 ^ 64) as_many w.height)
        (subst (λ (k : ℕ). 100 * k < 10 ^ 64) (sym (zero-add (layers_volume rates layers))) w.volume)

    whole : Goes origin 0 (gcode rates hot_end bed printed) (program_moves rates layers ++ [])
        (behind_layers rates 0 origin layers) (filament rates (0 + layers_volume rates layers))
    whole = goes_on (head hot_end bed ++ layers_text rates 0 0 printed) end (program_moves rates layers) []
        (goes_on (head hot_end bed) (layers_text rates 0 0 printed) [] (program_moves rates layers) front middle)
        (goes_end (behind_layers rates 0 origin layers) (filament rates (0 + layers_volume rates layers)))

    last : (m : ℕ) × (run (standing origin 0 0) (gcode rates hot_end bed printed ++ [])
        ≡ prefix (program_moves rates layers)
        (run (standing (behind_layers rates 0 origin layers) (filament rates (0 + layers_volume rates layers)) m) []))
    last = subst (λ (moves : List Move). (m : ℕ) × (run (standing origin 0 0) (gcode rates hot_end bed printed ++ [])
        ≡ prefix moves (run (standing (behind_layers rates 0 origin layers)
        (filament rates (0 + layers_volume rates layers)) m) [])))
        (append-nil (program_moves rates layers)) (whole.goes 0 [])
