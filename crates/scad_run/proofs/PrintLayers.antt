-- The layers of a part, as prints have them.
use Rattle.std.proofs.Common.{◌≡◌, ◌+◌, ◌*◌, ◌<◌, ◌≤◌, List, [], ◌∷◌, ℕ, zero, suc, Result, Ok, Err, refl, sym, ap, ap₂, subst, arith}
use Rattle.std.specs.Prelude.{map, length, slice_get, IsSomeAnd}
use Rattle.std.specs.List.{range_with_len}
use Rattle.std.proofs.lemmas.List.FromFn.{length-map-range_with_len}
use Rattle.scad_fault.specs.declared.budget.Budget.{Budget}
use Rattle.scad_geom.specs.declared.point.Pt.{Pt}
use Rattle.scad_geom.specs.declared.point.Edge.{Edge}
use Rattle.scad_words.specs.declared.settings.Settings.{Settings as SettingsOfRun}
use Rattle.scad_tree.specs.Solid.{Solid}
use Rattle.cli_text.specs.Cli.{Layer}
use Rattle.gcode_text.specs.Gcode.{Printed, gcode}
use Rattle.slice_work.specs.declared.want.Want.{Want}
use Rattle.slice_work.specs.declared.want.Want.TheVariants.{Plan as WithPlan}
use Rattle.slice_work.specs.Part.{Layout, Part, outlines_of, hatches_of, printed_of, layer_limit}
use Rattle.slice_work.specs.Rates.{rates_of}
use Rattle.scad_slice.specs.Budgets.{layer_count}
use Rattle.scad_slice.specs.Parts.{IsPart, AreMade, layer_at, layers_of, plans_of}
use Rattle.scad_slice.specs.Layer.{IsLayer}
use Rattle.print_laws.specs.Print.{all_printed, program_of, AreLayersOf, written_from, written}
use Rattle.print_laws.proofs.ByNumber.{each_by_number}

-- a layer that is laid out, none where it passes a budget
abbrev whole_of : Result Layout Budget → Layout
whole_of (Ok layout) = layout
whole_of (Err budget) = record { outlines = []; paths = []; runs = 0; supports = [] }

abbrev layout_at : Part → ℕ → Layout
layout_at part i = whole_of (part i)

-- the first n of them
abbrev pub layouts : Part → ℕ → List Layout
layouts part n = map (layout_at part) (range_with_len 0 n)

pub layouts_number : (part : Part) (n : ℕ) → length (layouts part n) ≡ n
layouts_number part n = length-map-range_with_len (layout_at part) 0 n

-- they are written as the layers of the part are
abbrev as_layer : ℕ → List (List Pt) → List Edge → Layer
as_layer z loops hatches = record { z = z; loops = loops; hatches = hatches }

layer_whole : (z : ℕ) (r : Result Layout Budget)
    → as_layer z (whole_of r).outlines (hatches_of (Ok (whole_of r))) ≡ as_layer z (outlines_of r) (hatches_of r)
layer_whole z (Ok layout) = refl
layer_whole z (Err budget) = refl

written_at : (h : ℕ) (part : Part) (i n : ℕ)
    → written_from h i (map (layout_at part) (range_with_len i n)) ≡ map (layer_at h part) (range_with_len i n)
written_at h part i zero = refl
written_at h part i (suc n) =
    ap₂ (λ (l : Layer) (ls : List Layer). l ∷ ls) (layer_whole (h * (i + 1)) (part i)) (written_at h part (i + 1) n)

pub written_is : (h : ℕ) (part : Part) (n : ℕ) → layers_of h part n ≡ written h (layouts part n)
written_is h part n = sym (written_at h part 0 n)

-- and printed as its plans are
printed_whole : (r : Result Layout Budget) → printed_of WithPlan r ≡ printed_of WithPlan (Ok (whole_of r))
printed_whole (Ok layout) = refl
printed_whole (Err budget) = refl

plans_at : (part : Part) (is : List ℕ)
    → map (λ i. printed_of WithPlan (part i)) is ≡ all_printed (map (layout_at part) is)
plans_at part [] = refl
plans_at part (i ∷ is) = ap₂ (λ (printed : Printed) (more : List Printed). printed ∷ more)
    (printed_whole (part i)) (plans_at part is)

pub plans_are : (part : Part) (n : ℕ) → plans_of part n ≡ all_printed (layouts part n)
plans_are part n = plans_at part (range_with_len 0 n)

pub program_is : (s : SettingsOfRun) (part : Part) (n : ℕ)
    → gcode (rates_of s) s.hot_end s.bed (plans_of part n) ≡ program_of s (layouts part n)
program_is s part n = ap (λ printed. gcode (rates_of s) s.hot_end s.bed printed) (plans_are part n)

-- each is the tree's
pub layers_each : (want : Want) (s : SettingsOfRun) (tree : Solid) (part : Part) (n : ℕ)
    → IsPart want s tree part → AreMade part n → (i : ℕ) → i < length (layouts part n)
    → IsSomeAnd (slice_get (layouts part n) i) (λ l. IsLayer want s tree i (Ok l))
layers_each want s tree part n is_part made =
    each_by_number (layout_at part) n (λ i l. IsLayer want s tree i (Ok l))
    (λ i within.
    let layout = made i within in
    subst (λ (r : Result Layout Budget). IsLayer want s tree i (Ok (whole_of r))) (sym layout.1)
    (subst (IsLayer want s tree i) layout.1 (is_part i)))

pub are_layers : (s : SettingsOfRun) (tree : Solid) (part : Part) → IsPart WithPlan s tree part
    → layer_count s.layer_height tree ≤ layer_limit → AreMade part (layer_count s.layer_height tree)
    → AreLayersOf s tree (layouts part (layer_count s.layer_height tree))
are_layers s tree part is_part few made =
    let n = layer_count s.layer_height tree in
    let number = layouts_number part n in
    record {
      number = number;
      few = omega (arith, number, few);
      each = layers_each WithPlan s tree part n is_part made;
    }
