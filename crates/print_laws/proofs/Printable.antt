-- The numbers of the program of planned layers can be written.
use Rattle.std.proofs.Common.{◌≡◌, ◌≤◌, ◌<◌, ◌+◌, ◌*◌, ◌/◌, ◌^◌, ℕ, List, [], ◌∷◌, ◌++◌, length, subst, sym, ◌∙◌, arith}
use Rattle.std.specs.Prelude.{All, Ok}
use Rattle.std.specs.List.{AllByRecursion}
use Rattle.std.proofs.lemmas.List.{length-map}
use Rattle.std.proofs.lemmas.List.Elements.{All-from_recursion, recursion_from_All}
use Rattle.std.proofs.lemmas.Nat.{mul-le}
use Rattle.scad_base.proofs.Lists.{AllByRecursion-append}
use Rattle.scad_geom.specs.declared.point.Pt.{Pt}
use Rattle.scad_geom.specs.Limits.{point_limit}
use Rattle.scad_geom.specs.Within.{IsWithin, IsEdgeWithin}
use Rattle.scad_words.specs.declared.settings.Settings.{Settings}
use Rattle.scad_words.specs.Settings.{AreInRange}
use Rattle.plan_layer.specs.Clearance.{PlansKeepClear}
use Rattle.plan_layer.specs.Moves.{all_moves, move_limit}
use Rattle.gcode_text.specs.Amount.{paths_volume, layers_volume}
use Rattle.gcode_text.specs.Gcode.{printed_paths}
use Rattle.gcode_text.specs.Moves.{IsShortPoint, AreShortPaths}
use Rattle.print_laws.specs.LayerPlans.{IsPlanned}
use Rattle.print_laws.specs.Print.{all_printed, all_paths}
use Rattle.slice_work.specs.declared.want.Want.TheVariants.{Plan as WithPlan}
use Rattle.slice_work.specs.Part.{Layout, printed_of, layer_limit}
use Rattle.slice_work.specs.Rates.{rates_of}
use Rattle.print_laws.specs.Laws.{PlansArePrintable}
use Rattle.print_laws.proofs.LayerNumbers.{AreFrom, from_first}
use Rattle.print_laws.proofs.Points.{plan_within, edges_within}
use Rattle.print_laws.proofs.Volume.{move_volume_limit, paths_most}
use Rattle.print_laws.proofs.Wound.{moves_within}

-- ---- points
short : (p : Pt) → IsWithin point_limit p → IsShortPoint p
short p h = let x = h.x in let y = h.y in (omega (arith, x), omega (arith, y))

path_short : (ps : List Pt) → AllByRecursion (IsWithin point_limit) ps → AllByRecursion IsShortPoint ps
path_short [] h = tt
path_short (p ∷ ps) h = (short p h.0, path_short ps h.1)

paths_short : (paths : List (List Pt)) → AllByRecursion (λ path. AllByRecursion (IsWithin point_limit) path) paths
    → AreShortPaths paths
paths_short [] h = tt
paths_short (path ∷ paths) h = (path_short path h.0, paths_short paths h.1)

-- ---- layers
-- the volume of a layer is at most this
abbrev layer_volume : ℕ
layer_volume = move_limit * move_volume_limit

module _ (law : PlansKeepClear) (s : Settings) (range : AreInRange s) where
  pub ends_within : (i : ℕ) (l : Layout) → IsPlanned s i l
      → AllByRecursion (IsEdgeWithin point_limit) (all_moves l.paths)
  ends_within i l h =
      recursion_from_All (IsEdgeWithin point_limit) (all_moves l.paths)
      (moves_within l.outlines h.within (s.line_width / 2) l.paths (law l.outlines i s l.paths l.runs range h.plan))

  -- the points of its supports, and those of all that is printed of it
  supports_within : (paths : List (List Pt)) → AllByRecursion (λ path. All (IsWithin point_limit) path) paths
      → AllByRecursion (λ path. AllByRecursion (IsWithin point_limit) path) paths
  supports_within [] h = tt
  supports_within (path ∷ paths) h = (recursion_from_All (IsWithin point_limit) path h.0, supports_within paths h.1)

  pub points_within : (i : ℕ) (l : Layout) → IsPlanned s i l
      → AllByRecursion (λ path. AllByRecursion (IsWithin point_limit) path) (l.paths ++ l.supports)
  points_within i l h =
      AllByRecursion-append (λ path. AllByRecursion (IsWithin point_limit) path) l.paths l.supports
      (plan_within point_limit l.outlines i s l.paths l.runs h.plan
      (All-from_recursion (IsEdgeWithin point_limit) (all_moves l.paths) (ends_within i l h)))
      (supports_within l.supports
      (recursion_from_All (λ path. All (IsWithin point_limit) path) l.supports h.supports.within))

  pub all_ends_within : (i : ℕ) (l : Layout) → IsPlanned s i l
      → AllByRecursion (IsEdgeWithin point_limit) (all_moves (l.paths ++ l.supports))
  all_ends_within i l h = edges_within point_limit (l.paths ++ l.supports) (points_within i l h)

  layers_short : (i : ℕ) (layers : List Layout) → AreFrom (IsPlanned s) i layers
      → AllByRecursion AreShortPaths (all_paths layers)
  layers_short i [] h = tt
  layers_short i (l ∷ ls) h =
      (paths_short (l.paths ++ l.supports) (points_within i l h.0), layers_short (i + 1) ls h.1)

  layer_most : (i : ℕ) (l : Layout) → IsPlanned s i l
      → paths_volume (rates_of s) (l.paths ++ l.supports) ≤ layer_volume
  layer_most i l h =
      let v = paths_most (rates_of s) range.line_width.most range.layer_height.most (l.paths ++ l.supports)
      (all_ends_within i l h)
      in
      let n = h.moves in
      omega (arith, v, n)

  layers_most : (i : ℕ) (layers : List Layout) → AreFrom (IsPlanned s) i layers
      → layers_volume (rates_of s) (all_paths layers) ≤ length layers * layer_volume
  unfolding layers_volume
  layers_most i [] h = omega arith
  layers_most i (l ∷ ls) h = let a = layer_most i l h.0 in let b = layers_most (i + 1) ls h.1 in omega (arith, a, b)

pub plans_are_printable : PlansKeepClear → PlansArePrintable
plans_are_printable law s layers range p =
    let each = from_first (IsPlanned s) layers p.each in
    let number = p.number in
    let long : length (all_paths layers) ≡ length layers =
    length-map (all_printed layers) printed_paths
    ∙ length-map layers (λ (l : Layout). printed_of WithPlan (Ok l))
    in
    let area = range.filament_area.least in
    let print = range.print_feed.most in
    let travel = range.travel_feed.most in
    let hot_end = range.hot_end.most in
    let bed = range.bed.most in
    let h = mul-le (length layers) s.layer_height layer_limit 1000 number range.layer_height.most in
    let v = layers_most law s range 0 layers each in
    record {
      area = omega (arith, area);
      print_feed = omega (arith, print);
      travel_feed = omega (arith, travel);
      temperatures = (omega (arith, hot_end), omega (arith, bed));
      points = layers_short law s range 0 layers each;
      count = omega (arith, long, number);
      height = subst (λ (n : ℕ). n * s.layer_height < 10 ^ 64) (sym long) (omega (arith, h));
      volume = omega (arith, v, number);
    }
