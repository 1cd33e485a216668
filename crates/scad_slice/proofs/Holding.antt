-- The layers of a part hold what the tree contains.
use Rattle.std.proofs.Common.{◌≡◌, ◌+◌, ◌<◌, ◌≤◌, ℕ, zero, suc, Option, Some, None, Result, Ok, ap, sym, ◌∙◌, refl}
use Rattle.std.proofs.Common.{subst, length, arith}
use Rattle.std.specs.Prelude.{List, map, slice_get, IsSomeAnd}
use Rattle.std.specs.List.{range_with_len}
use Rattle.std.proofs.lemmas.List.FromFn.{length-map-range_with_len}
use Rattle.scad_fault.specs.declared.budget.Budget.{Budget}
use Rattle.scad_geom.specs.declared.point.Pt.{Pt}
use Rattle.scad_words.specs.declared.settings.Settings.{Settings}
use Rattle.scad_words.specs.Settings.{AreInRange}
use Rattle.slice_work.specs.declared.want.Want.{Want}
use Rattle.slice_work.specs.declared.want.Want.TheVariants.{Outlines, Plan}
use Rattle.slice_work.specs.Part.{Layout, Part, outlines_of}
use Rattle.slice_layer.specs.Outlines.{AreLayerOutlines}
use Rattle.scad_tree.specs.Solid.{Solid}
use Rattle.scad_tree.proofs.Above.{layers_hold}
use Rattle.scad_tree.specs.Solids.{AreSolids}
use Rattle.slice_layer.proofs.Surfaces.{solids_closed}
use Rattle.slice_layer.proofs.Membership.{outlines_hold_centres}
use Rattle.slice_layer.proofs.Border.{outlines_are_near_border}
use Rattle.scad_slice.specs.Budgets.{layer_count}
use Rattle.scad_slice.specs.Parts.{IsPart, layer_at, layers_of}
use Rattle.scad_slice.specs.Layer.{IsLaidOut, IsLayerUnless, IsLayer}
use Rattle.scad_slice.specs.Membership.{IsLayerOf}
use Rattle.scad_slice.specs.Laws.{PartsHold}

-- layers in range have a height
some_height : (s : Settings) → AreInRange s → 1 ≤ s.layer_height
some_height s range = let least = range.layer_height.least in omega (arith, least)

-- the element at a place in what a function makes of n numbers from a on
made_at : {X : Type 0} (f : ℕ → X) (a n i : ℕ) → i < n → slice_get (map f (range_with_len a n)) i ≡ Some (f (a + i))
made_at f a zero i below = absurd (omega (arith, below))
made_at f a (suc n) zero below = ap (λ k. Some (f k)) (omega arith)
made_at f a (suc n) (suc i) below =
    let less : i < n = omega (arith, below) in
    made_at f (a + 1) n i less ∙ ap (λ k. Some (f k)) (omega arith)

-- a layer that passes no budget is over the tree's outlines
has_outlines : (want : Want) (s : Settings) (tree : Solid) (i : ℕ) (outlines : List (List Pt)) (layout : Layout)
    → IsLaidOut want s tree i outlines (Ok layout) → layout.outlines ≡ outlines
has_outlines Outlines s tree i outlines layout same = ap outlines_of same
has_outlines Plan s tree i outlines layout laid = laid.outlines_are

outlines_by : (before : Option Budget) (want : Want) (s : Settings) (tree : Solid) (i : ℕ) (layout : Layout)
    → IsLayerUnless before want s tree i (Ok layout) → AreLayerOutlines i s.layer_height tree layout.outlines
outlines_by (Some budget) want s tree i layout same = let never : ⊥ = cc in absurd never
outlines_by None want s tree i layout (outlines, of_tree, laid) =
    subst (AreLayerOutlines i s.layer_height tree) (sym (has_outlines want s tree i outlines layout laid)) of_tree

pub laid_over : (want : Want) (s : Settings) (tree : Solid) (i : ℕ) (layout : Layout)
    → IsLayer want s tree i (Ok layout) → AreLayerOutlines i s.layer_height tree layout.outlines
laid_over want s tree i layout layer = outlines_by layer.before want s tree i layout layer.is

pub layer_outlines : (want : Want) (s : Settings) (tree : Solid) (part : Part) (i : ℕ) (layout : Layout)
    → IsPart want s tree part → part i ≡ Ok layout → AreLayerOutlines i s.layer_height tree (outlines_of (part i))
layer_outlines want s tree part i layout of_part is =
    subst (λ (l : Result Layout Budget). AreLayerOutlines i s.layer_height tree (outlines_of l)) (sym is)
    (laid_over want s tree i layout
    (subst (λ (l : Result Layout Budget). IsLayer want s tree i l) is (of_part i)))

layer_holds : (want : Want) (s : Settings) (tree : Solid) (part : Part) (i : ℕ) (layout : Layout) → AreSolids tree
    → IsPart want s tree part → part i ≡ Ok layout → IsLayerOf s.layer_height tree i (layer_at s.layer_height part i)
layer_holds want s tree part i layout solids of_part is =
    let h = s.layer_height in
    let loops = outlines_of (part i) in
    let are = layer_outlines want s tree part i layout of_part is in
    record {
      z = refl;
      centres = outlines_hold_centres i h tree loops (solids_closed tree solids) are;
      near = outlines_are_near_border i h tree loops are;
    }

pub parts_hold : PartsHold
parts_hold want s tree part solids range of_part made =
    let h = s.layer_height in
    let n = layer_count h tree in
    let some : 1 ≤ h = some_height s range in
    let number : length (layers_of h part n) ≡ n = length-map-range_with_len (layer_at h part) 0 n in
    record {
      number = number;
      each = λ i inside.
          let within : i < n = omega (arith, inside, number) in
          let found = made i within in
          let there : slice_get (layers_of h part n) i ≡ Some (layer_at h part i) =
          made_at (layer_at h part) 0 n i within ∙ ap (λ k. Some (layer_at h part k)) (omega arith) in
          subst (λ found. IsSomeAnd found (IsLayerOf h tree i)) (sym there)
          (layer_holds want s tree part i found.0 solids of_part found.1);
      above = λ i q more.
          let past : n ≤ i = omega (arith, more, number) in
          layers_hold.above tree h i q some past;
    }
