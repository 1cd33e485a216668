-- The machine does the same along a whole program by limited numbers as by numbers of any size.
use Rattle.std.proofs.Common.{◌≡◌, ℕ, ◌+◌, ◌*◌, ◌^◌, ◌<◌, ◌≤◌, List, [], ◌∷◌, ◌++◌, length, map, refl, subst, arith}
use Rattle.std.specs.Prelude.{codes}
use Rattle.std.specs.List.{AllByRecursion}
use Rattle.std.proofs.lemmas.List.{append-nil}
use Rattle.std.proofs.lemmas.Nat.{mul-le}
use Rattle.scad_geom.specs.declared.point.Pt.{Pt}
use Rattle.scad_geom.specs.Limits.{coordinate_limit}
use Rattle.scad_geom.specs.Within.{IsWithin}
use Rattle.gcode_text.specs.declared.rates.Rates.{Rates}
use Rattle.gcode_text.specs.Limits.{amount_limit}
use Rattle.gcode_text.specs.Amount.{move_volume, moves_volume, path_volume, paths_volume, layers_volume, filament}
use Rattle.gcode_text.specs.Gcode.{travel_line, print_line, height_line, number_line, supports_line, heat_line, moves_text, path_text, paths_text, layer_text, Printed, printed_paths, supports_text, printed_text, layers_text, setup, home, head, end, gcode}
use Rattle.gcode_text.specs.Machine.{command_of, plain_commands}
use Rattle.gcode_text.specs.Moves.{IsShort, IsShortPoint, surface}
use Rattle.gcode_text.proofs.Program.{filament_rises}
use Rattle.print_laws.proofs.Extrusion.{both_volumes}
use Rattle.print_laws.proofs.Points.{all_front, all_back}
use Rattle.verdict_laws.proofs.InRange.{LinesAreInRange, LeadsInRange, leads_nowhere, leads_on, leads_travel, leads_print, leads_height, leads_number, leads_supports, leads_heat, leads_setup, leads_home, leads_end, nothing_in_range}

-- ---- paths
short : (p : Pt) → IsWithin coordinate_limit p → IsShortPoint p
short p h = let x = h.x in let y = h.y in (omega (arith, x), omega (arith, y))

-- The greatest volume takes an amount in range.
module _ (rates : Rates) (area : 1 ≤ rates.filament_area) (print : IsShort rates.print_feed)
    (travel : IsShort rates.travel_feed) (most : ℕ) (enough : filament rates most ≤ amount_limit) where
  amount_most : (v : ℕ) → v ≤ most → filament rates v ≤ amount_limit
  amount_most v h = let rises = filament_rises rates v most area h in omega (arith, rises, enough)

  moves_lead : (v : ℕ) (from : Pt) (ps : List Pt) → AllByRecursion (IsWithin coordinate_limit) ps
      → v + moves_volume rates from ps ≤ most → LeadsInRange (moves_text rates v from ps)
  unfolding moves_text moves_volume
  moves_lead v from [] within few = leads_nowhere
  moves_lead v from (to ∷ ps) within few =
      let w : ℕ = v + move_volume rates from to in
      leads_on (print_line rates to (filament rates w)) (moves_text rates w to ps)
      (leads_print rates to (filament rates w) (short to within.0) print within.0
      (amount_most w (omega (arith, few))))
      (moves_lead w to ps within.1 (omega (arith, few)))

  path_leads : (v : ℕ) (path : List Pt) → AllByRecursion (IsWithin coordinate_limit) path
      → v + path_volume rates path ≤ most → LeadsInRange (path_text rates v path)
  unfolding path_text path_volume
  path_leads v [] within few = leads_nowhere
  path_leads v (p ∷ ps) within few =
      leads_on (travel_line rates p) (moves_text rates v p ps)
      (leads_travel rates p (short p within.0) travel within.0) (moves_lead v p ps within.1 few)

  paths_lead : (v : ℕ) (paths : List (List Pt))
      → AllByRecursion (λ path. AllByRecursion (IsWithin coordinate_limit) path) paths
      → v + paths_volume rates paths ≤ most → LeadsInRange (paths_text rates v paths)
  unfolding paths_text paths_volume
  paths_lead v [] within few = leads_nowhere
  paths_lead v (path ∷ paths) within few =
      leads_on (path_text rates v path) (paths_text rates (v + path_volume rates path) paths)
      (path_leads v path within.0 (omega (arith, few)))
      (paths_lead (v + path_volume rates path) paths within.1 (omega (arith, few)))

  -- ---- layers
  supports_lead : (v : ℕ) (paths : List (List Pt))
      → AllByRecursion (λ path. AllByRecursion (IsWithin coordinate_limit) path) paths
      → v + paths_volume rates paths ≤ most → LeadsInRange (supports_text rates v paths)
  supports_lead v [] within few = leads_nowhere
  supports_lead v (path ∷ paths) within few =
      leads_on supports_line (paths_text rates v (path ∷ paths)) leads_supports (paths_lead v (path ∷ paths) within few)

  printed_leads : (v layer : ℕ) (printed : Printed)
      → AllByRecursion (λ path. AllByRecursion (IsWithin coordinate_limit) path) (printed_paths printed)
      → IsShort layer → surface rates layer ≤ coordinate_limit
      → v + paths_volume rates (printed_paths printed) ≤ most → LeadsInRange (printed_text rates v layer printed)
  printed_leads v layer printed within count high few =
      let own : List (List Pt) = printed.paths in
      let more : List (List Pt) = printed.supports in
      let both = both_volumes rates own more in
      let number = number_line layer in
      let height = height_line rates (surface rates layer) in
      leads_on (layer_text rates v layer own) (supports_text rates (v + paths_volume rates own) more)
      (leads_on (number ++ height) (paths_text rates v own)
      (leads_on number height (leads_number layer count) (leads_height rates (surface rates layer) travel high))
      (paths_lead v own
      (all_front (λ path. AllByRecursion (IsWithin coordinate_limit) path) own more within) (omega (arith, few, both))))
      (supports_lead (v + paths_volume rates own) more
      (all_back (λ path. AllByRecursion (IsWithin coordinate_limit) path) own more within) (omega (arith, few, both)))

  layers_lead : (v layer : ℕ) (layers : List Printed)
      → AllByRecursion (λ paths. AllByRecursion (λ path. AllByRecursion (IsWithin coordinate_limit) path) paths)
      (map printed_paths layers)
      → layer + length layers < 10 ^ 64 → (layer + length layers) * rates.layer_height ≤ coordinate_limit
      → v + layers_volume rates (map printed_paths layers) ≤ most → LeadsInRange (layers_text rates v layer layers)
  unfolding layers_text layers_volume
  layers_lead v layer [] within count high few = leads_nowhere
  layers_lead v layer (printed ∷ layers) within count high few =
      let below = mul-le (layer + 1) rates.layer_height (layer + (1 + length layers)) rates.layer_height (omega arith)
      (omega arith) in
      let whole : layer + length (printed ∷ layers) ≡ layer + (1 + length layers) = omega arith in
      let next : layer + length (printed ∷ layers) ≡ (layer + 1) + length layers = omega arith in
      let all = subst (λ (n : ℕ). n * rates.layer_height ≤ coordinate_limit) whole high in
      let w : ℕ = v + paths_volume rates (printed_paths printed) in
      leads_on (printed_text rates v layer printed) (layers_text rates w (layer + 1) layers)
      (printed_leads v layer printed within.0 (omega (arith, count)) (omega (arith, below, all)) (omega (arith, few)))
      (layers_lead w (layer + 1) layers within.1 (omega (arith, count))
      (subst (λ (n : ℕ). n * rates.layer_height ≤ coordinate_limit) next high) (omega (arith, few)))

-- ---- a program
heads_lead : (hot_end bed : ℕ) → IsShort hot_end → IsShort bed → LeadsInRange (head hot_end bed)
unfolding command_of plain_commands
heads_lead hot_end bed hot cold =
    let first = heat_line (codes "M140") bed in
    let second = heat_line (codes "M104") hot_end in
    let third = heat_line (codes "M190") bed in
    let fourth = heat_line (codes "M109") hot_end in
    leads_on (setup ++ first ++ second ++ third ++ fourth) home
    (leads_on (setup ++ first ++ second ++ third) fourth
    (leads_on (setup ++ first ++ second) third
    (leads_on (setup ++ first) second
    (leads_on setup first leads_setup (leads_heat (codes "M140") bed refl refl refl cold))
    (leads_heat (codes "M104") hot_end refl refl refl hot))
    (leads_heat (codes "M190") bed refl refl refl cold))
    (leads_heat (codes "M109") hot_end refl refl refl hot))
    leads_home

-- what is known of a program whose numbers are in range
pub record HasRange (rates : Rates) (hot_end bed : ℕ) (layers : List Printed) : Type 0 where
  pub area : 1 ≤ rates.filament_area
  pub print : IsShort rates.print_feed
  pub travel : IsShort rates.travel_feed
  pub hot : IsShort hot_end
  pub cold : IsShort bed
  pub within : AllByRecursion
      (λ paths. AllByRecursion (λ path. AllByRecursion (IsWithin coordinate_limit) path) paths) (map printed_paths layers)
  pub count : length layers < 10 ^ 64
  pub high : length layers * rates.layer_height ≤ coordinate_limit
  pub amount : filament rates (layers_volume rates (map printed_paths layers)) ≤ amount_limit

pub program_in_range : (rates : Rates) (hot_end bed : ℕ) (layers : List Printed)
    → HasRange rates hot_end bed layers → LinesAreInRange (gcode rates hot_end bed layers)
program_in_range rates hot_end bed layers h =
    let none : length layers ≡ 0 + length layers = omega arith in
    let most : ℕ = layers_volume rates (map printed_paths layers) in
    let total : 0 + most ≤ most = omega arith in
    subst LinesAreInRange (append-nil (gcode rates hot_end bed layers))
    (leads_on (head hot_end bed ++ layers_text rates 0 0 layers) end
    (leads_on (head hot_end bed) (layers_text rates 0 0 layers) (heads_lead hot_end bed h.hot h.cold)
    (layers_lead rates h.area h.print h.travel most h.amount 0 0 layers h.within
    (subst (λ (n : ℕ). n < 10 ^ 64) none h.count)
    (subst (λ (n : ℕ). n * rates.layer_height ≤ coordinate_limit) none h.high) total))
    leads_end [] nothing_in_range)
