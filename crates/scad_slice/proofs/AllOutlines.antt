-- The outlines of all layers of a tree of solids are there, and they are one list.
use Rattle.std.proofs.Common.{◌≡◌, ◌<◌, ℕ, List, [], length, sym, ◌∙◌, subst, arith}
use Rattle.std.specs.Prelude.{map, slice_index_or}
use Rattle.std.specs.List.{range_with_len}
use Rattle.std.proofs.lemmas.List.{ext_get_or}
use Rattle.std.proofs.lemmas.List.FromFn.{length-map-range_with_len, get_or-map-range_with_len}
use Rattle.scad_geom.specs.declared.point.Pt.{Pt}
use Rattle.scad_tree.specs.Solid.{Solid}
use Rattle.scad_tree.specs.Solids.{AreSolids}
use Rattle.slice_layer.specs.Outlines.{AreLayerOutlines}
use Rattle.outline_laws.proofs.OneLayer.{layers_have_one_outlines}
use Rattle.outline_laws.proofs.SomeLayer.{layers_have_outlines}
use Rattle.scad_slice.specs.Budgets.{layer_count}
use Rattle.scad_slice.specs.Supports.{AreAllOutlines}

-- those that a function gives layer by layer
pub all_from : (h : ℕ) (tree : Solid) (f : ℕ → List (List Pt))
    → ((n : ℕ) → n < layer_count h tree → AreLayerOutlines n h tree (f n))
    → AreAllOutlines h tree (map f (range_with_len 0 (layer_count h tree)))
all_from h tree f each =
    let count = layer_count h tree in
    let number : length (map f (range_with_len 0 count)) ≡ count = length-map-range_with_len f 0 count in
    record {
      number = number;
      each = λ n inside.
          let within : n < count = omega (arith, inside, number) in
          subst (AreLayerOutlines n h tree)
          (sym (get_or-map-range_with_len f 0 count n n [] within (omega arith))) (each n within);
    }

pub all_are_there : (h : ℕ) (tree : Solid) → AreSolids tree
    → (all : List (List (List Pt))) × AreAllOutlines h tree all
all_are_there h tree solids = (
  _,
  all_from h tree (λ n. (layers_have_outlines n h tree solids).outlines)
      (λ n inside. (layers_have_outlines n h tree solids).are_outlines),
)

pub all_are_one : (h : ℕ) (tree : Solid) (a b : List (List (List Pt))) → AreSolids tree → AreAllOutlines h tree a
    → AreAllOutlines h tree b → a ≡ b
all_are_one h tree a b solids all_a all_b =
    let m = all_a.number in
    let n = all_b.number in
    ext_get_or [] a b (m ∙ sym n) (λ i inside.
    layers_have_one_outlines i h tree solids (slice_index_or a i []) (slice_index_or b i []) (all_a.each i inside)
    (all_b.each i (omega (arith, inside, m, n))))
