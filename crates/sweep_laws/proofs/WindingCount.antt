-- Between two neighbouring heights, a leaf's winding number is the sum of the headings of its edges
-- in the bundles that lie to the right.
use Rattle.std.proofs.Common.{◌≡◌, ℕ, Bool, true, false, List, [], ◌∷◌, ◌++◌, refl, sym, ap₂, ◌∙◌}
use lib.IntN.{ℤ, pos, ◌+ℤ◌, +ℤ_idl}
use Rattle.std.specs.Prelude.{if◌then◌else◌}
use Rattle.std.specs.List.{AllByRecursion, concat}
use Rattle.scad_geom.specs.declared.level.Level.{Level}
use Rattle.scad_geom.specs.declared.level.LeafEdge.{LeafEdge}
use Rattle.scad_geom.specs.Point.{Point}
use Rattle.scad_geom.specs.EdgeOrder.{AreAligned}
use Rattle.scad_geom.proofs.Leaves.{wind_leaf}
use Rattle.scad_geom.proofs.Order.{front, back}
use Rattle.scad_geom.proofs.Sums.{sum_z, sum_z-append, sum_z-permutation}
use Rattle.slice_bundles.specs.Bundles.{edge_at, reaching, IsBundle, AreRanked, AreBundles}
use Rattle.slice_border.specs.Tally.{headings}
use Rattle.slice_border.proofs.Reaching.{heading_for, lies_left, wind_reaching}
use Rattle.slice_border.proofs.Passing.{IsLive, live_bundles, same_side, passing, HeadPasses, Around}
use Rattle.slice_border.proofs.BundleValues.{headings_are}
use Rattle.slice_border.proofs.Values.{heading_beyond, counts, all_pass}

module _ (es : List LeafEdge) (above right : Bool) (p : Point) (l u : Level) (a : Around es above right p l u) where
  with_first : (k : ℕ) (b : Bool) → IsLive es l u k → lies_left es right p k ≡ b → (ks : List ℕ)
      → AllByRecursion (IsLive es l u) ks → AllByRecursion (λ j. AreAligned l (edge_at es k) (edge_at es j)) ks
      → AllByRecursion (λ j. lies_left es right p j ≡ b) ks
  with_first k b lk e [] ls h = tt
  with_first k b lk e (j ∷ js) ls h = (
    same_side l a.neighbours.lower_divisor right p (edge_at es k) (edge_at es j) lk.reaches.rises ls.0.reaches.rises h.0
        ∙ e,
    with_first k b lk e js ls.1 h.1,
  )

  one_bundle : (leaf k : ℕ) (ks : List ℕ) (b : Bool) → IsBundle es l (k ∷ ks) → AllByRecursion (IsLive es l u) (k ∷ ks)
      → lies_left es right p k ≡ b
      → sum_z (heading_beyond es right p leaf) (k ∷ ks) ≡ (if b then sum_z (heading_for es leaf) (k ∷ ks) else pos 0)
  one_bundle leaf k ks b h ls e = counts es right p leaf b (k ∷ ks) (e, with_first k b ls.0 e ks ls.1 h.1)

  all_right : (leaf : ℕ) (bs : List (List ℕ)) → AreRanked es l bs → AllByRecursion (IsLive es l u) (concat bs)
      → AllByRecursion (HeadPasses es right p) bs
      → sum_z (heading_beyond es right p leaf) (concat bs) ≡ sum_z (heading_for es leaf) (concat bs)
  all_right leaf [] r ls h = refl
  all_right leaf ([] ∷ bs) r ls h = absurd r.0
  all_right leaf ((k ∷ ks) ∷ bs) r ls h =
      sum_z-append (heading_beyond es right p leaf) (k ∷ ks) (concat bs)
      ∙ ap₂ (λ (y z : ℤ). y +ℤ z) (one_bundle leaf k ks true r.0 (front (IsLive es l u) (k ∷ ks) (concat bs) ls) h.0)
      (all_right leaf bs r.2 (back (IsLive es l u) (k ∷ ks) (concat bs) ls) h.1)
      ∙ sym (sum_z-append (heading_for es leaf) (k ∷ ks) (concat bs))

  right_ones : (leaf : ℕ) (bs : List (List ℕ)) → AreRanked es l bs → AllByRecursion (IsLive es l u) (concat bs)
      → sum_z (heading_beyond es right p leaf) (concat bs) ≡ sum_z (heading_for es leaf)
      (concat (passing es right p bs))
  right_ones leaf [] r ls = refl
  right_ones leaf ([] ∷ bs) r ls = absurd r.0
  right_ones leaf ((k ∷ ks) ∷ bs) r ls = by_test (lies_left es right p k) refl
      (right_ones leaf bs r.2 (back (IsLive es l u) (k ∷ ks) (concat bs) ls))
    where
      by_test : (t : Bool) → lies_left es right p k ≡ t
          → sum_z (heading_beyond es right p leaf) (concat bs)
          ≡ sum_z (heading_for es leaf) (concat (passing es right p bs))
          → sum_z (heading_beyond es right p leaf) ((k ∷ ks) ++ concat bs)
          ≡ sum_z (heading_for es leaf) (concat (if t then (k ∷ ks) ∷ bs else passing es right p bs))
      by_test true e i = all_right leaf ((k ∷ ks) ∷ bs) r ls
          (e, all_pass es above right p l u a k ks bs ls.0 r.1 (back (IsLive es l u) (k ∷ ks) (concat bs) ls) e)
      by_test false e i =
          sum_z-append (heading_beyond es right p leaf) (k ∷ ks) (concat bs)
          ∙ ap₂ (λ (y z : ℤ). y +ℤ z) (one_bundle leaf k ks false r.0
          (front (IsLive es l u) (k ∷ ks) (concat bs) ls) e) i
          ∙ +ℤ_idl (sum_z (heading_for es leaf) (concat (passing es right p bs)))

  pub counted_right : (leaf : ℕ) (bs : List (List ℕ)) → AreBundles es l u bs
      → wind_leaf above right p leaf es ≡ headings es leaf (concat (passing es right p bs))
  counted_right leaf bs b =
      wind_reaching above right p leaf es l u a.neighbours a.divisor a.spans
      ∙ sym (sum_z-permutation (heading_beyond es right p leaf) (reaching 0 es l u) (concat bs) b.members)
      ∙ right_ones leaf bs b.ranked (live_bundles es l u bs b)
      ∙ sym (headings_are es leaf (concat (passing es right p bs)))
