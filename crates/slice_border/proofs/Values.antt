-- A shape's value beside the bundles between two neighbouring heights, by the headings of the edges to the right.
use Rattle.std.proofs.Common.{◌≡◌, ℕ, Bool, true, false, not, List, [], ◌∷◌, ◌++◌, refl, sym, ap₂, ◌∙◌}
use lib.IntN.{ℤ, pos, ◌+ℤ◌, +ℤ_idl}
use lib.Signed.{◌<ℤ◌}
use Rattle.std.specs.Prelude.{if◌then◌else◌}
use Rattle.std.specs.List.{AllByRecursion, concat}
use Rattle.scad_geom.proofs.Leaves.{held_by_numbers}
use Rattle.scad_geom.specs.declared.level.Level.{Level}
use Rattle.scad_geom.specs.declared.level.LeafEdge.{LeafEdge}
use Rattle.scad_geom.specs.declared.shape.Shape.{Shape}
use Rattle.scad_geom.specs.Point.{Point}
use Rattle.scad_geom.proofs.Leaves.{wind_leaf}
use Rattle.scad_geom.specs.Shape.{shape_holds, is_in_by}
use Rattle.scad_geom.specs.Sign.{is_zero}
use Rattle.scad_geom.specs.EdgeOrder.{AreAligned}
use Rattle.slice_bundles.specs.Bundles.{no_edge, edge_at, reaching, IsBundle, Precedes, AreRanked, AreBundles}
use Rattle.scad_geom.proofs.Order.{before_between}
use Rattle.scad_geom.proofs.Turns.{level_at}
use Rattle.scad_geom.proofs.Sums.{sum_z, sum_z-append, sum_z-permutation}
use Rattle.slice_border.proofs.Reaching.{heading_for, lies_left, wind_reaching}
use Rattle.scad_geom.proofs.Order.{front, back}
use Rattle.slice_border.proofs.Passing.{IsLive, live_bundles, same_side, later_side, passing, HeadPasses, Around, spans_from, spans_to}

-- what an edge adds where a point lies to its left
abbrev pub heading_beyond : List LeafEdge → Bool → Point → ℕ → ℕ → ℤ
heading_beyond es right p leaf j = if lies_left es right p j then heading_for es leaf j else pos 0

-- all edges of one bundle lie on the side of its first
bundle_side : (es : List LeafEdge) (l u : Level) → pos 0 <ℤ l.d
    → (right : Bool) (p : Point) (k : ℕ) (ks : List ℕ) → IsLive es l u k → AllByRecursion (IsLive es l u) ks
    → AllByRecursion (λ j. AreAligned l (edge_at es k) (edge_at es j)) ks
    → AllByRecursion (λ j. lies_left es right p j ≡ lies_left es right p k) ks
bundle_side es l u dl right p k [] lk ls a = tt
bundle_side es l u dl right p k (j ∷ js) lk ls a = (
  same_side l dl right p (edge_at es k) (edge_at es j) lk.reaches.rises ls.0.reaches.rises a.0,
  bundle_side es l u dl
      right p k js lk ls.1 a.1,
)

-- edges that lie on one side count there or not at all: a bundle's where its first does
pub counts : (es : List LeafEdge) (right : Bool) (p : Point) (leaf : ℕ) (b : Bool) (ks : List ℕ)
    → AllByRecursion (λ j. lies_left es right p j ≡ b) ks
    → sum_z (heading_beyond es right p leaf) ks ≡ (if b then sum_z (heading_for es leaf) ks else pos 0)
counts es right p leaf true [] h = refl
counts es right p leaf false [] h = refl
counts es right p leaf true (k ∷ ks) h = rw (h.0, counts es right p leaf true ks h.1)
counts es right p leaf false (k ∷ ks) h = rw (h.0, counts es right p leaf false ks h.1)

module _ (es : List LeafEdge) (above right : Bool) (p : Point) (l u : Level) (a : Around es above right p l u) where
  head_counts : (leaf k : ℕ) (ks : List ℕ) (b : Bool) → IsBundle es l (k ∷ ks)
      → AllByRecursion (IsLive es l u) (k ∷ ks) → lies_left es right p k ≡ b
      → sum_z (heading_beyond es right p leaf) (k ∷ ks)
      ≡ (if b then sum_z (heading_for es leaf) (k ∷ ks) else pos 0)
  head_counts leaf k ks b h ls e =
      counts es right p leaf b (k ∷ ks) (
        e,
        moved ks (bundle_side es l u a.neighbours.lower_divisor right p k ks ls.0
            ls.1 h.1),
      )
    where
      moved : (js : List ℕ) → AllByRecursion (λ j. lies_left es right p j ≡ lies_left es right p k) js
          → AllByRecursion (λ j. lies_left es right p j ≡ b) js
      moved [] h = tt
      moved (j ∷ js) h = (h.0 ∙ e, moved js h.1)

  -- where a bundle lies to the right of the point, so do those after it
  pub all_pass : (k : ℕ) (ks : List ℕ) (bs : List (List ℕ)) → IsLive es l u k
      → AllByRecursion (Precedes es l (k ∷ ks))
      bs → AllByRecursion (IsLive es l u) (concat bs)
      → lies_left es right p k ≡ true → AllByRecursion (HeadPasses es right p) bs
  all_pass k ks [] lk pr ls h = tt
  all_pass k ks ([] ∷ bs) lk pr ls h = absurd pr.0
  all_pass k ks ((j ∷ js) ∷ bs) lk pr ls h =
      let lj : IsLive es l u j = ls.0 in
      let g = before_between es l u a.neighbours k j no_edge lk.there lj.there lk.reaches lj.reaches pr.0 (level_at p)
      a.divisor (spans_from above (level_at p) l u a.spans) (spans_to above (level_at p) l u a.spans) in (
        later_side right p (edge_at es k) (edge_at es j) lk.reaches.rises lj.reaches.rises g h,
        all_pass k ks bs lk pr.1 (back (IsLive es l u) (j ∷ js) (concat bs) ls) h,
      )

  all_count : (leaf : ℕ) (bs : List (List ℕ)) → AreRanked es l bs → AllByRecursion (IsLive es l u) (concat bs)
      → AllByRecursion (HeadPasses es right p) bs
      → sum_z (heading_beyond es right p leaf) (concat bs) ≡ sum_z (heading_for es leaf) (concat bs)
  all_count leaf [] r ls h = refl
  all_count leaf ([] ∷ bs) r ls h = absurd r.0
  all_count leaf ((k ∷ ks) ∷ bs) r ls h =
      sum_z-append (heading_beyond es right p leaf) (k ∷ ks) (concat bs)
      ∙ ap₂ (λ (y z : ℤ). y +ℤ z) (head_counts leaf k ks true r.0
      (front (IsLive es l u) (k ∷ ks) (concat bs) ls) h.0)
      (all_count leaf bs r.2 (back (IsLive es l u) (k ∷ ks) (concat bs) ls) h.1)
      ∙ sym (sum_z-append (heading_for es leaf) (k ∷ ks) (concat bs))

  passing_count : (leaf : ℕ) (bs : List (List ℕ)) → AreRanked es l bs
      → AllByRecursion (IsLive es l u) (concat bs)
      → sum_z (heading_beyond es right p leaf) (concat bs) ≡ sum_z (heading_for es leaf)
      (concat (passing es right p bs))
  passing_count leaf [] r ls = refl
  passing_count leaf ([] ∷ bs) r ls = absurd r.0
  passing_count leaf ((k ∷ ks) ∷ bs) r ls = by_test (lies_left es right p k) refl
      (passing_count leaf bs r.2 (back (IsLive es l u) (k ∷ ks) (concat bs) ls))
    where
      by_test : (t : Bool) → lies_left es right p k ≡ t
          → sum_z (heading_beyond es right p leaf) (concat bs) ≡ sum_z (heading_for es leaf)
          (concat (passing es right p bs))
          → sum_z (heading_beyond es right p leaf) ((k ∷ ks) ++ concat bs) ≡ sum_z (heading_for es leaf)
          (concat (if t then (k ∷ ks) ∷ bs else passing es right p bs))
      by_test true e i = all_count leaf ((k ∷ ks) ∷ bs) r ls
          (e, all_pass k ks bs ls.0 r.1 (back (IsLive es l u) (k ∷ ks) (concat bs) ls) e)
      by_test false e i =
          sum_z-append (heading_beyond es right p leaf) (k ∷ ks) (concat bs)
          ∙ ap₂ (λ (y z : ℤ). y +ℤ z)
          (head_counts leaf k ks false r.0 (front (IsLive es l u) (k ∷ ks) (concat bs) ls)
          e) i
          ∙ +ℤ_idl (sum_z (heading_for es leaf) (concat (passing es right p bs)))

  wind_passing : (leaf : ℕ) (bs : List (List ℕ)) → AreBundles es l u bs → wind_leaf above right p leaf es
      ≡ sum_z (heading_for es leaf) (concat (passing es right p bs))
  wind_passing leaf bs b =
      wind_reaching above right p leaf es l u a.neighbours a.divisor a.spans
      ∙ sym (sum_z-permutation (heading_beyond es right p leaf) (reaching 0 es l u) (concat bs) b.members)
      ∙ passing_count leaf bs b.ranked (live_bundles es l u bs b)

-- the shape's value where the edges of these bundles, and no others, lie to the right
abbrev pub value_of : List LeafEdge → Shape → List (List ℕ) → Bool
value_of es shape bs = shape_holds (λ leaf. not (is_zero (sum_z (heading_for es leaf) (concat bs)))) shape

pub is_in_passing : (es : List LeafEdge) (shape : Shape) (above right : Bool) (p : Point) (l u : Level)
    → Around es above right p l u → (bs : List (List ℕ)) → AreBundles es l u bs
    → is_in_by above right es shape p ≡ value_of es shape (passing es right p bs)
is_in_passing es shape above right p l u a bs b =
    held_by_numbers above right p es shape (λ leaf. sum_z (heading_for es leaf) (concat (passing es right p bs)))
    (λ leaf. wind_passing es above right p l u a leaf bs b)
