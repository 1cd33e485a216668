-- The numbers of the program of planned layers are in range.
use Rattle.std.proofs.Common.{ℕ, ◌+◌, ◌*◌, ◌^◌, ◌<◌, ◌≤◌, List, [], ◌∷◌, ◌++◌, length, sym, subst, arith, Ok}
use Rattle.std.specs.List.{AllByRecursion}
use Rattle.std.proofs.lemmas.List.{length-map}
use Rattle.scad_geom.specs.declared.point.Pt.{Pt}
use Rattle.scad_geom.specs.Limits.{point_limit, coordinate_limit}
use Rattle.scad_geom.specs.Within.{IsWithin, IsEdgeWithin}
use Rattle.scad_words.specs.declared.settings.Settings.{Settings}
use Rattle.scad_words.specs.Settings.{AreInRange}
use Rattle.plan_layer.specs.Clearance.{PlansKeepClear}
use Rattle.plan_layer.specs.Moves.{all_moves}
use Rattle.gcode_text.specs.Gcode.{printed_paths}
use Rattle.slice_work.specs.declared.want.Want.TheVariants.{Plan as WithPlan}
use Rattle.slice_work.specs.Part.{Layout, printed_of}
use Rattle.slice_work.specs.Rates.{rates_of}
use Rattle.print_laws.specs.LayerPlans.{IsPlanned, ArePlanned}
use Rattle.print_laws.specs.Print.{all_printed, all_paths, program_of}
use Rattle.print_laws.specs.Laws.{PlansArePrintable}
use Rattle.print_laws.proofs.LayerNumbers.{AreFrom, from_first}
use Rattle.print_laws.proofs.Printable.{points_within, all_ends_within}
use Rattle.verdict_laws.specs.OwnOutlines.{file_limit}
use Rattle.verdict_laws.proofs.Amounts.{amount_in_range}
use Rattle.verdict_laws.proofs.Programs.{HasRange}

near : (p : Pt) → IsWithin point_limit p → IsWithin coordinate_limit p
near p h = let x = h.x in let y = h.y in record { x = omega (arith, x); y = omega (arith, y) }

path_near : (ps : List Pt) → AllByRecursion (IsWithin point_limit) ps → AllByRecursion (IsWithin coordinate_limit) ps
path_near [] h = tt
path_near (p ∷ ps) h = (near p h.0, path_near ps h.1)

paths_near : (paths : List (List Pt)) → AllByRecursion (λ path. AllByRecursion (IsWithin point_limit) path) paths
    → AllByRecursion (λ path. AllByRecursion (IsWithin coordinate_limit) path) paths
paths_near [] h = tt
paths_near (path ∷ paths) h = (path_near path h.0, paths_near paths h.1)

module _ (clear : PlansKeepClear) (s : Settings) (range : AreInRange s) where
  layers_near : (i : ℕ) (layers : List Layout) → AreFrom (IsPlanned s) i layers
      → AllByRecursion (λ paths. AllByRecursion (λ path. AllByRecursion (IsWithin coordinate_limit) path) paths)
      (all_paths layers)
  layers_near i [] h = tt
  layers_near i (l ∷ ls) h = (
    paths_near (l.paths ++ l.supports) (points_within clear s range i l h.0),
    layers_near (i + 1) ls h.1,
  )

  sides_near : (i : ℕ) (layers : List Layout) → AreFrom (IsPlanned s) i layers
      → AllByRecursion (λ paths. AllByRecursion (IsEdgeWithin point_limit) (all_moves paths)) (all_paths layers)
  sides_near i [] h = tt
  sides_near i (l ∷ ls) h = (all_ends_within clear s range i l h.0, sides_near (i + 1) ls h.1)

  pub has_range : (layers : List Layout) → PlansArePrintable → ArePlanned s layers
      → length layers * s.layer_height ≤ coordinate_limit → length (program_of s layers) ≤ file_limit
      → HasRange (rates_of s) s.hot_end s.bed (all_printed layers)
  has_range layers printable are high short =
      let writable = printable s layers range are in
      let each = from_first (IsPlanned s) layers are.each in
      let long = length-map layers (λ (l : Layout). printed_of WithPlan (Ok l)) in
      let paths = length-map (all_printed layers) printed_paths in
      record {
        area = writable.area;
        print = writable.print_feed;
        travel = writable.travel_feed;
        hot = writable.temperatures.0;
        cold = writable.temperatures.1;
        within = layers_near 0 layers each;
        count = subst (λ (n : ℕ). n < 10 ^ 64) paths writable.count;
        high = subst (λ (n : ℕ). n * s.layer_height ≤ coordinate_limit) (sym long) high;
        amount = amount_in_range (rates_of s) range.line_width.most range.layer_height.most s.hot_end s.bed
            (all_printed layers) range.filament_area.least (sides_near 0 layers each) short;
      }
