-- Each move of planned layers has a length, those of their supports among them.
use Rattle.std.proofs.Common.{◌+◌, ℕ, List, [], ◌∷◌, ◌++◌, sym, subst}
use Rattle.std.specs.Prelude.{All}
use Rattle.std.specs.List.{AllByRecursion}
use Rattle.std.proofs.lemmas.Grind.{flat_map-append}
use Rattle.std.proofs.lemmas.List.Elements.{All-append, All-from_recursion}
use Rattle.scad_geom.specs.declared.point.Pt.{Pt}
use Rattle.scad_geom.specs.declared.point.Edge.{Edge}
use Rattle.slice_loops.specs.Lengths.{HasLength}
use Rattle.scad_words.specs.declared.settings.Settings.{Settings}
use Rattle.scad_words.specs.Settings.{AreInRange}
use Rattle.plan_layer.specs.Moves.{moves, all_moves}
use Rattle.plan_layer.specs.Lengths.{PlansHaveLengths}
use Rattle.gcode_text.specs.Gcode.{printed_paths}
use Rattle.slice_work.specs.Part.{Layout}
use Rattle.print_laws.specs.LayerPlans.{IsPlanned, ArePlanned}
use Rattle.print_laws.specs.Print.{all_printed}
use Rattle.print_laws.proofs.LayerNumbers.{AreFrom, from_first}

-- along paths and along others behind them
both : (paths more : List (List Pt)) → All HasLength (all_moves paths) → All HasLength (all_moves more)
    → All HasLength (all_moves (paths ++ more))
both paths more first second =
    subst (λ (es : List Edge). All HasLength es) (sym (flat_map-append moves paths more))
    (All-append HasLength (all_moves paths) (all_moves more) first second)

lengths_from : PlansHaveLengths → (s : Settings) → AreInRange s → (i : ℕ) (layers : List Layout)
    → AreFrom (IsPlanned s) i layers
    → AllByRecursion (λ layer. All HasLength (all_moves (printed_paths layer))) (all_printed layers)
lengths_from law s range i [] h = tt
lengths_from law s range i (l ∷ ls) h = (
  both l.paths l.supports (law l.outlines i s l.paths l.runs range h.0.plan) h.0.supports.long,
  lengths_from law s range (i + 1) ls h.1,
)

pub have_lengths : PlansHaveLengths → (s : Settings) (layers : List Layout) → AreInRange s → ArePlanned s layers
    → All (λ layer. All HasLength (all_moves (printed_paths layer))) (all_printed layers)
have_lengths law s layers range p =
    All-from_recursion (λ layer. All HasLength (all_moves (printed_paths layer))) (all_printed layers)
    (lengths_from law s range 0 layers (from_first (IsPlanned s) layers p.each))
