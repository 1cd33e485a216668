-- Supports of a tree's layer stand outside of its outlines.
use Rattle.std.proofs.Common.{◌+◌, ℕ, List, [], inl, inr, drop, sym, subst, arith}
use Rattle.std.specs.Prelude.{All, slice_index_or}
use Rattle.std.proofs.lemmas.List.Elements.{All-nil, All-drop, All-from_get_or}
use Rattle.scad_geom.specs.declared.point.Pt.{Pt}
use Rattle.scad_geom.specs.Limits.{point_limit}
use Rattle.scad_geom.specs.Within.{IsWithin}
use Rattle.scad_words.specs.declared.settings.Settings.{Settings}
use Rattle.scad_words.specs.Settings.{AreInRange}
use Rattle.scad_tree.specs.Solid.{Solid}
use Rattle.scad_tree.specs.Solids.{AreSolids}
use Rattle.slice_loops.specs.Lengths.{HasLength}
use Rattle.slice_layer.proofs.Within.{outlines_are_within}
use Rattle.plan_layer.specs.Moves.{all_moves}
use Rattle.support_laws.specs.Apart.{KeepsApart, SupportsStandApart, SupportsHaveLengths, SupportsLieWithin}
use Rattle.slice_work.specs.Part.{Layout}
use Rattle.scad_slice.specs.Supports.{AreAllOutlines, AreNone, StandBelow, AreSupportsOf}
use Rattle.print_laws.specs.LayerPlans.{StandOutside}

-- the laws of support runs
pub record SupportLaws : Type 0 where
  pub apart : SupportsStandApart
  pub lengths : SupportsHaveLengths
  pub within : SupportsLieWithin

-- the outlines of higher layers lie within a metre
higher_within : (h : ℕ) (tree : Solid) → AreSolids tree → (all : List (List (List Pt))) → AreAllOutlines h tree all
    → (i : ℕ) → All (λ o. All (λ l. All (IsWithin point_limit) l) o) (drop (i + 1) all)
higher_within h tree solids all are i =
    All-drop (λ o. All (λ l. All (IsWithin point_limit) l) o) (i + 1) all
    (All-from_get_or (λ o. All (λ l. All (IsWithin point_limit) l) o) all []
    (λ n there. outlines_are_within n h tree (slice_index_or all n []) solids (are.each n there)))

module _ (s : Settings) (tree : Solid) (i : ℕ) (layer : Layout) where
  none_stand : AreNone s layer.supports → StandOutside s layer
  none_stand n =
      let empty = sym n.none in
      record {
        none = λ spacing. n.none;
        within = subst (λ (ps : List (List Pt)). All (λ path. All (IsWithin point_limit) path) ps) empty
            (All-nil (λ path. All (IsWithin point_limit) path));
        long = subst (λ (ps : List (List Pt)). All HasLength (all_moves ps)) empty (All-nil HasLength);
        apart = subst (λ (ps : List (List Pt)). All (KeepsApart layer.outlines s.support_gap) (all_moves ps)) empty
            (All-nil (KeepsApart layer.outlines s.support_gap));
      }

  some_stand : SupportLaws → AreSolids tree → AreInRange s → StandBelow s tree i layer.outlines layer.supports
      → StandOutside s layer
  some_stand laws solids range b =
      let above = drop (i + 1) b.all in
      let some = b.spacing in
      let least = range.line_width.least in
      record {
        none = λ spacing. absurd (omega (arith, spacing, some));
        within = laws.within above layer.outlines s.support_spacing s.support_gap s.line_width point_limit layer.supports
            (higher_within s.layer_height tree solids b.all b.are_all i) b.are;
        long = laws.lengths above layer.outlines s.support_spacing s.support_gap s.line_width layer.supports
            (omega (arith, least)) b.are;
        apart = laws.apart above layer.outlines s.support_spacing s.support_gap s.line_width layer.supports b.are;
      }

  pub supports_stand : SupportLaws → AreSolids tree → AreInRange s
      → AreSupportsOf s tree i layer.outlines layer.supports → StandOutside s layer
  supports_stand laws solids range (inl n) = none_stand n
  supports_stand laws solids range (inr b) = some_stand laws solids range b
