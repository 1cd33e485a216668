-- The shape's values beside bundles, by the headings of the edges to the right.
use Rattle.std.proofs.Common.{◌≡◌, ℕ, zero, suc, ◌+◌, ◌<◌, ◌≤◌, Bool, true, false, not, List, [], ◌∷◌, length, get_or, refl, ap, arith}
use mathlib.Core.Path.{fun_ext}
use lib.IntN.{ℤ, pos, ◌+ℤ◌}
use Rattle.std.specs.Prelude.{◌==◌, if◌then◌else◌}
use Rattle.std.specs.List.{AllByRecursion, All, concat}
use Rattle.std.proofs.lemmas.List.Elements.{All-from_recursion}
use Rattle.std.proofs.lemmas.List.Sorted.{length_permutation}
use Rattle.scad_geom.specs.declared.level.Level.{Level}
use Rattle.scad_geom.specs.declared.level.LeafEdge.{LeafEdge}
use Rattle.scad_geom.specs.declared.shape.Shape.{Shape}
use Rattle.scad_geom.specs.Shape.{shape_holds}
use Rattle.scad_geom.specs.Sign.{is_zero}
use Rattle.scad_geom.proofs.Order.{front, back}
use Rattle.scad_geom.proofs.Shapes.{nothing_held}
use Rattle.scad_geom.specs.Line.{heading}
use Rattle.slice_bundles.specs.Bundles.{no_edge, reaches, reaching, AreBundles}
use Rattle.slice_border.specs.Tally.{headings}
use Rattle.slice_border.specs.Beside.{left_value, AreMembers, RisesFirst}
use Rattle.scad_geom.proofs.Sums.{sum_z}
use Rattle.slice_border.proofs.Reaching.{heading_for}
use Rattle.slice_border.proofs.Passing.{IsLive, live_bundles}
use Rattle.slice_border.proofs.Values.{value_of}

-- ---- sums of headings
pub headings_are : (es : List LeafEdge) (leaf : ℕ) (ks : List ℕ)
    → headings es leaf ks ≡ sum_z (heading_for es leaf) ks
headings_are es leaf [] = refl
headings_are es leaf (k ∷ ks) =
    ap (λ (z : ℤ). (if (get_or es k no_edge).leaf == leaf then heading (get_or es k no_edge).edge else pos 0) +ℤ
    z)
    (headings_are es leaf ks)

pub left_is : (es : List LeafEdge) (shape : Shape) (bs : List (List ℕ))
    → left_value es shape bs ≡ value_of es shape bs
left_is es shape bs = ap (λ (f : ℕ → Bool). shape_holds f shape)
    (fun_ext (λ leaf. ap (λ (z : ℤ). not (is_zero z)) (headings_are es leaf (concat bs))))

pub all_of_bundle : (P : ℕ → Type 0) (bs : List (List ℕ)) (j : ℕ) (d : List ℕ) → j < length bs
    → AllByRecursion P (concat bs) → AllByRecursion P (get_or bs j d)
all_of_bundle P [] j d h a = absurd (omega arith)
all_of_bundle P (b ∷ bs) zero d h a = front P b (concat bs) a
all_of_bundle P (b ∷ bs) (suc j) d h a = all_of_bundle P bs j d (omega arith) (back P b (concat bs) a)

pub there_at : (es : List LeafEdge) (bs : List (List ℕ)) (j : ℕ) (d : List ℕ) → j < length bs
    → AreMembers es bs → All (λ k. k < length es) (get_or bs j d)
there_at es bs j d h m = All-from_recursion (λ k. k < length es) (get_or bs j d)
    (all_of_bundle (λ k. k < length es) bs
    j d h m.there)

pub rises_first : (es : List LeafEdge) (l u : Level) (b : List ℕ) → AllByRecursion (IsLive es l u) b
    → RisesFirst es b
rises_first es l u [] h = tt
rises_first es l u (k ∷ ks) h = (h.0.there, h.0.reaches.rises)

reaching_length : (k : ℕ) (es : List LeafEdge) (l u : Level) → length (reaching k es l u) ≤ length es
reaching_length k [] l u = omega arith
reaching_length k (e ∷ es) l u = by_test (reaches e.edge l u) (reaching_length (k + 1) es l u)
  where
    by_test : (t : Bool) → length (reaching (k + 1) es l u) ≤ length es
        → length (if t then k ∷ reaching (k + 1) es l u else reaching (k + 1) es l u) ≤ suc (length es)
    by_test true h = omega arith
    by_test false h = omega arith

pub are_members : (es : List LeafEdge) (l u : Level) (bs : List (List ℕ)) → AreBundles es l u bs
    → AreMembers es bs
are_members es l u bs b = record {
  there = weaker (concat bs) (live_bundles es l u bs b);
  few = let p = length_permutation (reaching 0 es l u) (concat bs) b.members in let r = reaching_length 0 es l u in omega arith;
}
  where
    weaker : (ks : List ℕ) → AllByRecursion (IsLive es l u) ks → AllByRecursion (λ k. k < length es) ks
    weaker [] h = tt
    weaker (k ∷ ks) h = (h.0.there, weaker ks h.1)

pub outside_right : (es : List LeafEdge) (shape : Shape) → left_value es shape [] ≡ false
outside_right es shape = nothing_held shape
