-- The layers of a tree have a print, and one.
use Rattle.std.proofs.Common.{◌≡◌, ◌+◌, ◌*◌, ◌<◌, ◌≤◌, ◌^◌, ℕ, suc, List, [], ◌∷◌, length, refl, sym, ap, ap₂, ◌∙◌, arith}
use Rattle.std.proofs.Common.{Option, Some, None, Result, Ok, Err}
use Rattle.std.specs.Prelude.{IfSome}
use Rattle.std.specs.List.{AllByRecursion}
use Rattle.std.proofs.lemmas.Nat.{mul-le}
use Rattle.scad_fault.specs.declared.budget.Budget.{Budget}
use Rattle.scad_words.specs.declared.settings.Settings.{Settings}
use Rattle.scad_words.specs.Settings.{AreInRange}
use Rattle.scad_tree.specs.Solid.{Solid}
use Rattle.scad_tree.specs.Solids.{AreSolids}
use Rattle.scad_tree.proofs.Above.{layers_hold}
use Rattle.slice_layer.proofs.Surfaces.{solids_closed}
use Rattle.slice_layer.proofs.Membership.{outlines_hold_centres}
use Rattle.slice_layer.proofs.Border.{outlines_are_near_border}
use Rattle.cli_text.specs.Cli.{Layer, cli as text_of_layers}
use Rattle.cli_read.specs.Form.{AreAbove, IsShape, AreHatches}
use Rattle.cli_read.specs.Laws.{IsReadable, WrittenTextsSayTheirLayers}
use Rattle.slice_work.specs.declared.want.Want.TheVariants.{Plan as WithPlan}
use Rattle.slice_work.specs.Part.{Layout, layer_limit}
use Rattle.scad_slice.specs.Layer.{IsLayer}
use Rattle.scad_slice.specs.Membership.{IsLayerOf, HoldTree}
use Rattle.scad_slice.proofs.OneLayer.{layer_is_one}
use Rattle.plan_layer.specs.Clearance.{PlansKeepClear}
use Rattle.print_laws.specs.LayerPlans.{IsPlanned, ArePlanned}
use Rattle.print_laws.specs.Print.{program_of, AreLayersOf, written_from, written}
use Rattle.print_laws.specs.Laws.{PlansArePrinted, LayersArePrinted, PrintsAreOne}
use Rattle.print_laws.proofs.LayerNumbers.{AreFrom, from_first, first_each}
use Rattle.print_laws.proofs.HatchReading.{are_hatches}
use Rattle.print_laws.proofs.Layers.{IsLaid, laid, is_planned, are_shapes}
use Rattle.print_laws.proofs.Supports.{SupportLaws}

-- ---- layers by their numbers
abbrev IsLayerAt : Settings → Solid → ℕ → Layout → Type 0
IsLayerAt s tree i l = IsLayer WithPlan s tree i (Ok l)

laid_from : (s : Settings) (tree : Solid) (i : ℕ) (ls : List Layout) → AreFrom (IsLayerAt s tree) i ls
    → AreFrom (IsLaid s tree) i ls
laid_from s tree i [] h = tt
laid_from s tree i (l ∷ ls) h = (laid s tree i l h.0, laid_from s tree (i + 1) ls h.1)

all_laid : (s : Settings) (tree : Solid) (layers : List Layout) → AreLayersOf s tree layers
    → AreFrom (IsLaid s tree) 0 layers
all_laid s tree layers are = laid_from s tree 0 layers (from_first (IsLayerAt s tree) layers are.each)

-- ---- they are planned
planned_from : SupportLaws → (s : Settings) (tree : Solid) → AreSolids tree → AreInRange s → (i : ℕ) (ls : List Layout)
    → AreFrom (IsLaid s tree) i ls → AreFrom (IsPlanned s) i ls
planned_from laws s tree solids range i [] h = tt
planned_from laws s tree solids range i (l ∷ ls) h =
    (is_planned laws s tree i l solids range h.0, planned_from laws s tree solids range (i + 1) ls h.1)

pub are_planned : SupportLaws → (s : Settings) (tree : Solid) (layers : List Layout) → AreSolids tree → AreInRange s
    → AreLayersOf s tree layers → ArePlanned s layers
are_planned laws s tree layers solids range are = record {
  number = are.few;
  each = first_each (IsPlanned s) layers (planned_from laws s tree solids range 0 layers (all_laid s tree layers are));
}

-- ---- they can be read
next_height : (h i : ℕ) → h * ((i + 1) + 1) ≡ h * (i + 1) + h
next_height h i = grind arith

above_from : (h i : ℕ) (last : Option ℕ) (ls : List Layout) → 1 ≤ h → IfSome last (λ z. z < h * (i + 1))
    → AreAbove last (written_from h i ls)
above_from h i last [] some below = tt
above_from h i last (l ∷ ls) some below =
    let e = next_height h i in (below, above_from h (i + 1) (Some (h * (i + 1))) ls some (omega (arith, e, some)))

module _ (s : Settings) (tree : Solid) (solids : AreSolids tree) (range : AreInRange s) where
  abbrev height : ℕ
  height = s.layer_height

  some_height : 1 ≤ height
  some_height = let least = range.layer_height.least in omega (arith, least)

  heights_from : (i : ℕ) (ls : List Layout) → i + length ls ≤ layer_limit
      → AllByRecursion (λ (layer : Layer). layer.z < 2 ^ 32) (written_from height i ls)
  heights_from i [] few = tt
  heights_from i (l ∷ ls) few =
      let most = mul-le height (i + 1) 1000 layer_limit range.layer_height.most (omega (arith, few)) in
      (omega (arith, most), heights_from (i + 1) ls (omega (arith, few)))

  shapes_from : (i : ℕ) (ls : List Layout) → AreFrom (IsLaid s tree) i ls
      → AllByRecursion (λ (layer : Layer). AllByRecursion IsShape layer.loops) (written_from height i ls)
  shapes_from i [] h = tt
  shapes_from i (l ∷ ls) h = (are_shapes s tree i l solids range h.0, shapes_from (i + 1) ls h.1)

  hatches_from : SupportLaws → PlansKeepClear → (i : ℕ) (ls : List Layout) → AreFrom (IsLaid s tree) i ls
      → AllByRecursion (λ (layer : Layer). AreHatches layer.hatches) (written_from height i ls)
  hatches_from laws law i [] h = tt
  hatches_from laws law i (l ∷ ls) h = (
    are_hatches law s range i l (is_planned laws s tree i l solids range h.0),
    hatches_from laws law (i + 1) ls h.1,
  )

  number_from : (i : ℕ) (ls : List Layout) → length (written_from height i ls) ≡ length ls
  number_from i [] = refl
  number_from i (l ∷ ls) = ap suc (number_from (i + 1) ls)

  readable : SupportLaws → PlansKeepClear → (layers : List Layout) → AreLayersOf s tree layers
      → IsReadable (written height layers)
  readable laws law layers are =
      let few = are.few in
      let long = number_from 0 layers in
      record {
        above = above_from height 0 None layers some_height tt;
        heights = heights_from 0 layers (omega (arith, few));
        shapes = shapes_from 0 layers (all_laid s tree layers are);
        hatches = hatches_from laws law 0 layers (all_laid s tree layers are);
        count = omega (arith, few, long);
      }

  -- ---- they hold what the tree contains
  hold_from : (i : ℕ) (ls : List Layout) → AreFrom (IsLaid s tree) i ls → AreFrom (IsLayerOf height tree) i
      (written_from height i ls)
  hold_from i [] h = tt
  hold_from i (l ∷ ls) h = (
    record {
      z = refl;
      centres = outlines_hold_centres i height tree l.outlines (solids_closed tree solids) h.0.outlines;
      near = outlines_are_near_border i height tree l.outlines h.0.outlines;
    },
    hold_from (i + 1) ls h.1,
  )

  holds : (layers : List Layout) → AreLayersOf s tree layers → HoldTree height tree (written height layers)
  holds layers are =
      let long = number_from 0 layers in
      let number = are.number in
      record {
        number = long ∙ number;
        each = first_each (IsLayerOf height tree) (written height layers)
            (hold_from 0 layers (all_laid s tree layers are));
        above = λ i q past. layers_hold.above tree height i q some_height (omega (arith, past, long, number));
      }

-- ---- the laws
pub layers_are_printed : SupportLaws → PlansKeepClear → PlansArePrinted → WrittenTextsSayTheirLayers → LayersArePrinted
layers_are_printed laws law printed said s tree layers solids range are = record {
  layers = layers;
  planned = are;
  outlines = record {
    text = refl;
    read = said (written s.layer_height layers) (readable s tree solids range laws law layers are);
  };
  holds = holds s tree solids range layers are;
  program = printed s layers range (are_planned laws s tree layers solids range are);
}

-- layers of one tree are the same, one by one
abbrev made : Layout → Result Layout Budget
made l = Ok l

layout_or : Layout → Result Layout Budget → Layout
layout_or other (Ok l) = l
layout_or other (Err budget) = other

same_layout : (a b : Layout) → made a ≡ made b → a ≡ b
unfolding layout_or
same_layout a b same = ap (λ (r : Result Layout Budget). layout_or a r) same

same_from : (s : Settings) (tree : Solid) → AreSolids tree → AreInRange s → (i : ℕ) (xs ys : List Layout)
    → length xs ≡ length ys
    → AreFrom (IsLayerAt s tree) i xs → AreFrom (IsLayerAt s tree) i ys → xs ≡ ys
same_from s tree solids range i [] [] long of_x of_y = refl
same_from s tree solids range i [] (y ∷ ys) long of_x of_y = absurd (omega (arith, long))
same_from s tree solids range i (x ∷ xs) [] long of_x of_y = absurd (omega (arith, long))
same_from s tree solids range i (x ∷ xs) (y ∷ ys) long of_x of_y =
    ap₂ (λ (l : Layout) (ls : List Layout). l ∷ ls)
    (same_layout x y (layer_is_one WithPlan s tree i solids range (Ok x) (Ok y) of_x.0 of_y.0))
    (same_from s tree solids range (i + 1) xs ys (omega (arith, long)) of_x.1 of_y.1)

pub prints_are_one : PrintsAreOne
prints_are_one s tree cli gcode other_cli other_gcode solids range a b =
    let layers : b.layers ≡ a.layers =
    same_from s tree solids range 0 b.layers a.layers (b.planned.number ∙ sym a.planned.number)
    (from_first (IsLayerAt s tree) b.layers b.planned.each) (from_first (IsLayerAt s tree) a.layers a.planned.each)
    in (
      b.outlines.text ∙ ap (λ (ls : List Layout). text_of_layers (written s.layer_height ls)) layers ∙ sym
          a.outlines.text,
      b.program.text ∙ ap (program_of s) layers ∙ sym a.program.text,
    )
