-- The support runs of a layer, over what stands below higher layers.
use Rattle.std.proofs.Common.{◌≡◌, inl, inr, ◌+◌, ◌<◌, ◌≤◌, ℕ, List, [], length, Option, Some, None, refl, sym, subst, arith}
use Rattle.std.specs.Prelude.{All, drop, slice_index_or}
use Rattle.std.proofs.lemmas.Int.{ints}
use Rattle.std.proofs.lemmas.List.{drop_all}
use Rattle.std.proofs.lemmas.List.Elements.{All-weaker}
use Rattle.scad_geom.specs.declared.point.Pt.{Pt}
use Rattle.scad_geom.specs.Limits.{point_limit, coordinate_limit}
use Rattle.scad_geom.specs.Within.{IsWithin}
use Rattle.scad_tree.specs.Solid.{Solid}
use Rattle.scad_tree.specs.Solids.{AreSolids}
use Rattle.scad_words.specs.declared.settings.Settings.{Settings}
use Rattle.plan_support.specs.Rows.{Row}
use Rattle.plan_support.specs.Supports.{AreSupports}
use Rattle.slice_layer.specs.Outlines.{AreLayerOutlines}
use Rattle.outline_laws.proofs.OneLayer.{layers_have_one_outlines}
use Rattle.support_laws.specs.Supports.{AreSupportsBelow}
use Rattle.support_laws.proofs.Shelter.{runs_are_supports}
use Rattle.slice_work.specs.declared.want.Want.{Want}
use Rattle.slice_work.specs.declared.want.Want.TheVariants.{Outlines, Plan}
use Rattle.scad_slice.specs.Budgets.{layer_count}
use Rattle.scad_slice.specs.Supports.{AreSupportsOf}
use Rattle.scad_slice.specs.Covers.{AreCoversOf, AreGiven, CoversFit}

wider : (p : Pt) → IsWithin point_limit p → IsWithin coordinate_limit p
wider p within =
    let x = within.x in
    let y = within.y in
    record { x = omega (arith, x); y = omega (arith, y) }

pub all_wider : (loops : List (List Pt)) → All (λ l. All (IsWithin point_limit) l) loops
    → All (λ l. All (IsWithin coordinate_limit) l) loops
all_wider loops within =
    All-weaker (λ l. All (IsWithin point_limit) l) (λ l. All (IsWithin coordinate_limit) l)
    (λ l. All-weaker (IsWithin point_limit) (IsWithin coordinate_limit) wider l) loops within

-- below nothing there are no runs
below_nothing : (outlines : List (List Pt)) (spacing gap least : ℕ)
    → AreSupportsBelow [] outlines spacing gap least []
below_nothing outlines spacing gap least = record {
  rows = [];
  are_rows = record {
    upwards = tt;
    some = λ k d inside. absurd (omega (arith, inside));
    each = λ y. record {
      upwards = tt;
      each = λ k d inside. absurd (omega (arith, inside));
      all = λ r stretch.
          let long = stretch.long in
          let there = (stretch.holds r.from (omega (arith, ints)) (omega (arith, ints, long))).overhung.below.there in
          let inside = there.1 in
          absurd (omega (arith, inside));
    };
  };
  paths_are = refl;
}

module _ (s : Settings) (tree : Solid) (i : ℕ) (outlines : List (List Pt)) where
  -- without covers
  pub none_below : CoversFit Plan s tree None → AreSupportsOf s tree i outlines []
  none_below spacing = inl (record { spacing = spacing; none = refl })

  -- above the tree's layers
  pub above_all : (covers : List (List Row)) → AreCoversOf s tree covers → length covers ≤ i
      → AreSupportsOf s tree i outlines []
  above_all covers are above =
      let same = are.overhung.as_many in
      inr (record {
        spacing = are.spacing;
        all = are.all;
        are_all = are.are_all;
        are =
            subst (λ (higher : List (List (List Pt))).
            AreSupportsBelow higher outlines s.support_spacing s.support_gap s.line_width [])
            (sym (drop_all (i + 1) are.all (omega (arith, above, same))))
            (below_nothing outlines s.support_spacing s.support_gap s.line_width);
      })

  -- over what is below higher ones
  pub over_cover : (covers : List (List Row)) (paths : List (List Pt)) → AreSolids tree → AreCoversOf s tree covers
      → i < length covers → AreLayerOutlines i s.layer_height tree outlines
      → AreSupports outlines (slice_index_or covers i []) s.support_gap s.line_width paths
      → AreSupportsOf s tree i outlines paths
  over_cover covers paths solids are inside of_tree supports =
      let many = are.overhung.as_many in
      let within : i < length are.all = omega (arith, inside, many) in
      let same : slice_index_or are.all i [] ≡ outlines =
      layers_have_one_outlines i s.layer_height tree solids (slice_index_or are.all i []) outlines
      (are.are_all.each i within) of_tree in
      inr (record {
        spacing = are.spacing;
        all = are.all;
        are_all = are.are_all;
        are =
            subst (λ (os : List (List Pt)).
            AreSupportsBelow (drop (i + 1) are.all) os s.support_spacing s.support_gap s.line_width paths) same
            (runs_are_supports are.all s.support_spacing s.support_gap s.line_width i covers paths are.spacing
            are.overhung within
            (subst (λ (os : List (List Pt)).
            AreSupports os (slice_index_or covers i []) s.support_gap s.line_width paths) (sym same) supports));
      })

-- covers that fit are there for each layer of the tree
pub given_by : (want : Want) (s : Settings) (tree : Solid) (count : ℕ) (covers : Option (List (List Row)))
    → count ≡ layer_count s.layer_height tree → CoversFit want s tree covers → (c : List (List Row))
    → covers ≡ Some c → AreGiven count c
given_by want s tree count None counted fits c is = let never : ⊥ = cc in absurd never
given_by Outlines s tree count (Some covers) counted none c is = let never : ⊥ = cc in absurd never
given_by Plan s tree count (Some covers) counted are c is =
    let many = are.overhung.as_many in
    let number = are.are_all.number in
    subst (AreGiven count) (held is)
    (record { as_many = omega (arith, many, number, counted); rows = are.rows })
  where
    held : Some covers ≡ Some c → covers ≡ c
    held same k = elim (same k) [ None ↦ covers | Some x ↦ x ]
