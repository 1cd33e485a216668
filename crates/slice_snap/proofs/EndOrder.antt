-- The order of ends is total, and ends that tie lie at one spot.
use Rattle.std.proofs.Common.{◌≡◌, ℕ, ◌+◌, Bool, true, false, true≢false, cond, ◌&&◌, List, [], ◌∷◌, All, refl, sym, ap, ap₂, ◌∙◌}
use lib.IntN.{ℤ, pos, ◌*ℤ◌}
use lib.Signed.{◌<ℤ◌}
use Rattle.std.specs.Prelude.{map, count_by, int_lt}
use Rattle.std.specs.List.{AllByRecursion}
use Rattle.std.specs.List.Sorted.{IsPermutation, IsSorted}
use Rattle.std.specs.Ordering.{int_cmp, ordering_then, ordering_reverse, is_lt, is_eq}
use Rattle.std.specs.declared.cmp.Ordering.{Ordering}
use Rattle.std.specs.declared.cmp.Ordering.TheVariants.{Less, Equal, Greater}
use Rattle.std.specs.Cmp.{IsTotalOrder}
use Rattle.std.proofs.lemmas.Cmp.{int_cmp_total, then_total, on_total}
use Rattle.std.proofs.lemmas.List.Sums.{sum_by-cons}
use Rattle.std.proofs.lemmas.List.Elements.{recursion_from_All}
use Rattle.std.proofs.lemmas.List.Sorted.{sum_by-IsPermutation, All-permutation, IsPermutation-map, IsPermutation-trans}
use Rattle.scad_base.proofs.Tests.{is_lt-int_cmp, int_lt-true, int_lt-less, int_eq-true}
use Rattle.scad_geom.specs.declared.level.Level.{Level}
use Rattle.scad_geom.specs.Level.{IsLower, IsSameHeight}
use Rattle.scad_geom.specs.Balance.{starts_at, ends_at}
use Rattle.scad_geom.specs.Limits.{coordinate_limit}
use Rattle.scad_geom.proofs.Heights.{lower_chain, same_lower, lower_same, same_chain}
use Rattle.scad_geom.proofs.Balance.{once, starts-cons, ends-cons}
use Rattle.slice_pieces.specs.declared.piece.Spot.{Spot}
use Rattle.slice_pieces.specs.declared.piece.Piece.{Piece}
use Rattle.slice_snap.specs.declared.end.End.{End}
use Rattle.slice_pieces.specs.Spots.{point_of, is_same_spot, IsSpotWithin}
use Rattle.slice_pieces.specs.Pieces.{way_of, ways_of}
use Rattle.slice_snap.specs.Joints.{AreOfOneLevel, IsComparable}
use Rattle.slice_snap.specs.EndOrder.{spot_cmp, end_cmp, end_of, spots_in, IsEndOf, AreEndsOf, AreInOrder, ties, times_at}
use Rattle.slice_pieces.proofs.SameSpots.{run_above, to_eq}
use Rattle.slice_snap.proofs.SameSpots.{places_equal, same_by_parts}

-- ---- the order
abbrev across : End → Level
across e = record { n = e.spot.x; d = pos e.spot.run }

abbrev across_cmp : End → End → Ordering
across_cmp e f = int_cmp (e.spot.x *ℤ pos f.spot.run) (f.spot.x *ℤ pos e.spot.run)

runs : (e : End) → pos 0 <ℤ (across e).d
runs e = run_above e.spot.run e.within.positive

from_less : (a b : ℤ) → int_cmp a b ≡ Less → a <ℤ b
from_less a b h = int_lt-true a b (sym (is_lt-int_cmp a b) ∙ ap is_lt h)

to_less : (a b : ℤ) → a <ℤ b → int_cmp a b ≡ Less
to_less a b h = ap (λ (c : Bool). cond c Less (cond (int_lt b a) Greater Equal)) (int_lt-less a b h)

turned : (a b : ℤ) → int_cmp a b ≡ ordering_reverse (int_cmp b a)
turned a b = int_cmp_total.antisymm a b

from_equal : (a b : ℤ) → int_cmp a b ≡ Equal → a ≡ b
from_equal a b h = int_eq-true a b (ap is_eq h)

equal_by : (r : Ordering) → is_eq r ≡ true → r ≡ Equal
equal_by Less h = absurd (true≢false (sym h))
equal_by Equal h = refl
equal_by Greater h = absurd (true≢false (sym h))

to_equal : (a b : ℤ) → a ≡ b → int_cmp a b ≡ Equal
to_equal a b h = equal_by (int_cmp a b) (to_eq a b h)

across_total : IsTotalOrder across_cmp
across_total = record {
  antisymm = λ x y. turned (x.spot.x *ℤ pos y.spot.run) (y.spot.x *ℤ pos x.spot.run);
  trans = λ x y z p q.
      to_less _ _ (lower_chain (across x) (across y) (across z) (runs x) (runs y) (runs z) (from_less _ _ p)
      (from_less _ _ q));
  congr = λ x y z p. by_case x y z (from_equal _ _ p) (across_cmp y z) refl;
}
  where
    by_case : (x y z : End) → IsSameHeight (across x) (across y) → (r : Ordering) → across_cmp y z ≡ r
        → across_cmp x z ≡ r
    by_case x y z e Less h = to_less _ _ (same_lower (across x) (across y) (across z) (runs x) (runs y) (runs z) e
        (from_less _ _ h))
    by_case x y z e Equal h = to_equal _ _ (same_chain (across x) (across y) (across z) (runs x) (runs y) (runs z) e
        (from_equal _ _ h))
    by_case x y z e Greater h =
        let back : across_cmp z y ≡ Less = turned (z.spot.x *ℤ pos y.spot.run) (y.spot.x *ℤ pos z.spot.run) ∙ ap ordering_reverse h in
        let lower : IsLower (across z) (across x) = lower_same (across z) (across y) (across x) (runs z) (runs y) (runs x) (from_less _ _ back) (sym e) in
        turned (x.spot.x *ℤ pos z.spot.run) (z.spot.x *ℤ pos x.spot.run)
        ∙ ap ordering_reverse (to_less (z.spot.x *ℤ pos x.spot.run) (x.spot.x *ℤ pos z.spot.run) lower)

pub end_total : IsTotalOrder end_cmp
end_total = then_total (then_total (on_total (λ (e : End). e.spot.at.n) int_cmp_total)
    (on_total (λ (e : End). e.spot.at.d) int_cmp_total)) across_total

pub in_order : (start : Bool) (pieces : List Piece) (es fs : List End) → AreEndsOf start pieces es
    → IsPermutation es fs → IsSorted end_cmp fs → AreInOrder start pieces fs
in_order start pieces es fs of m up = record {
  of = record {
    all = IsPermutation-trans (map (end_of start) pieces) (spots_in es) (spots_in fs) of.all
        (IsPermutation-map (λ (e : End). e.spot) es fs m);
    each = All-permutation (IsEndOf start pieces) es fs m of.each;
  };
  sorted = up;
}

-- ---- ends that tie lie at one spot
both : (r s : Ordering) → is_eq (ordering_then r s) ≡ (is_eq r && is_eq s)
both Less s = refl
both Equal s = refl
both Greater s = refl

pub tied_is : (at : End) (t : Spot) → IsSpotWithin coordinate_limit t → AreOfOneLevel at.spot t
    → is_eq (spot_cmp at.spot t) ≡ is_same_spot at.spot t
tied_is at t w one =
    let s : Spot = at.spot in
    both (ordering_then (int_cmp s.at.n t.at.n) (int_cmp s.at.d t.at.d))
    (int_cmp (s.x *ℤ pos t.run) (t.x *ℤ pos s.run))
    ∙ ap (λ (b : Bool). b && places_equal s t) (both (int_cmp s.at.n t.at.n) (int_cmp s.at.d t.at.d))
    ∙ same_by_parts s t at.within.level.positive at.within.positive w.level.positive w.positive one

-- ---- as many ends tie with one as pieces start, or end, at its spot
module _ (at : End) where
  abbrev tied : Spot → Bool
  tied s = is_eq (spot_cmp at.spot s)

  over_spots : (es : List End) → times_at at es ≡ count_by tied (spots_in es)
  over_spots [] = refl
  over_spots (e ∷ es) =
      sum_by-cons (λ (f : End). once (ties at f)) e es ∙ ap (λ (n : ℕ). once (ties at e) + n) (over_spots es)
      ∙ sym (sum_by-cons (λ (s : Spot). once (tied s)) e.spot (spots_in es))

  over_starts : (qs : List Piece) → AllByRecursion (IsComparable at.spot) qs
      → count_by tied (map (end_of true) qs) ≡ starts_at (point_of at.spot) (ways_of qs)
  over_starts [] h = refl
  over_starts (q ∷ qs) h =
      sum_by-cons (λ (s : Spot). once (tied s)) q.from (map (end_of true) qs)
      ∙ ap₂ (λ (b : Bool) (n : ℕ). once b + n) (tied_is at q.from h.0.within.from h.0.from) (over_starts qs h.1)
      ∙ sym (starts-cons (point_of at.spot) (way_of q) (ways_of qs))

  over_ends : (qs : List Piece) → AllByRecursion (IsComparable at.spot) qs
      → count_by tied (map (end_of false) qs) ≡ ends_at (point_of at.spot) (ways_of qs)
  over_ends [] h = refl
  over_ends (q ∷ qs) h =
      sum_by-cons (λ (s : Spot). once (tied s)) q.to (map (end_of false) qs)
      ∙ ap₂ (λ (b : Bool) (n : ℕ). once b + n) (tied_is at q.to h.0.within.to h.0.to) (over_ends qs h.1)
      ∙ sym (ends-cons (point_of at.spot) (way_of q) (ways_of qs))

  module _ (pieces : List Piece) (fits : All (IsComparable at.spot) pieces) (es : List End) where
    each : AllByRecursion (IsComparable at.spot) pieces
    each = recursion_from_All (IsComparable at.spot) pieces fits

    pub starts_counted : AreEndsOf true pieces es → times_at at es ≡ starts_at (point_of at.spot) (ways_of pieces)
    starts_counted of =
        over_spots es ∙ sum_by-IsPermutation (λ (s : Spot). once (tied s)) (map (end_of true) pieces) (spots_in es)
        of.all ∙ over_starts pieces each

    pub ends_counted : AreEndsOf false pieces es → times_at at es ≡ ends_at (point_of at.spot) (ways_of pieces)
    ends_counted of =
        over_spots es ∙ sum_by-IsPermutation (λ (s : Spot). once (tied s)) (map (end_of false) pieces) (spots_in es)
        of.all ∙ over_ends pieces each
