-- Balance at the places of a height.
use Rattle.std.proofs.Common.{◌≡◌, ℕ, ◌<◌, inl, inr, Bool, true, false, not, List, [], ◌∷◌, ◌++◌, sym, ap, ap₂, ◌∙◌, subst, arith}
use mathlib.Core.Path.{fun_ext}
use lib.IntN.{ℤ, pos, ◌+ℤ◌}
use lib.Signed.{◌<ℤ◌}
use Rattle.std.specs.List.{AllByRecursion, concat}
use Rattle.std.proofs.lemmas.Int.{ints}
use Rattle.scad_geom.specs.declared.level.Level.{Level}
use Rattle.scad_geom.specs.declared.level.LeafEdge.{LeafEdge}
use Rattle.scad_geom.specs.Leaves.{AreLeavesBalanced}
use Rattle.scad_geom.specs.Level.{IsAtMost}
use Rattle.scad_geom.specs.Shape.{shape_holds}
use Rattle.scad_geom.specs.Sign.{is_zero}
use Rattle.scad_geom.proofs.Sums.{sum_z-append}
use Rattle.slice_bundles.proofs.Live.{live_bundles}
use Rattle.slice_pieces.specs.declared.piece.Spot.{Spot}
use Rattle.slice_pieces.specs.Spots.{point_of}
use Rattle.slice_border.specs.Pieces.{across, spots_at, GoRight, covers, AreStops}
use Rattle.slice_border.specs.Beside.{RisesFirst}
use Rattle.slice_border.specs.Tally.{headings}
use Rattle.slice_border.proofs.BalanceEdges.{IsAside}
use Rattle.slice_border.proofs.BalanceFlat.{none_covers, spot_is_at, spot_divisor, not_after, is_after, all_uncovered}
use Rattle.slice_border.proofs.BalanceSpots.{asides, all_one_sided}
use Rattle.slice_border.proofs.BalanceStops.{IsUpTo, first_up_to, next_up_to, beside}
use Rattle.slice_border.proofs.BalanceTurns.{is_right}
use Rattle.slice_border.proofs.Reaching.{heading_for}
use Rattle.slice_border.proofs.Winding.{IsSpotAt, stops_at, spots_are_at}
use Rattle.sweep_laws.specs.Fronts.{Strand, bundles_of}
use Rattle.sweep_laws.specs.Crossing.{Place, spots_of, all_below, all_above}
use Rattle.sweep_laws.specs.Staying.{IsUncovered}
use Rattle.sweep_laws.specs.Stops.{AreMet}
use Rattle.sweep_laws.specs.Balance.{AreBoundariesBalanced, BoundariesAreBalanced, StayingValues, HeadingsAdd}
use Rattle.sweep_laws.proofs.Balance.{CountsBeside, counts_below, counts_above, headings_beside}
use Rattle.slice_border.proofs.BundleValues.{headings_are}
use Rattle.sweep_laws.proofs.FlatPieces.{HasSide, next_side, passed_at, past_all}
use Rattle.sweep_laws.proofs.LevelPieces.{gathered_below, gathered_above}
use Rattle.sweep_laws.proofs.Lifting.{firsts}

not_past : (s : Spot) → IsAtMost (across s) (across s)
not_past s = omega (arith, ints)

runs_up : (n : ℕ) → pos 0 <ℤ pos n → 0 < n
runs_up n h = omega (arith, ints)

-- ---- flat edges beside a place from which none leads on
module _ (es : List LeafEdge) (m : Level) (dm : pos 0 <ℤ m.d) where
  none_right : (s : Spot) → IsSpotAt m s → (ws : List Spot) → AllByRecursion (IsSpotAt m) ws
      → AllByRecursion (IsUpTo s []) ws → AllByRecursion (λ w. is_right true (point_of s) (point_of w) ≡ false) ws
  none_right s hs [] hw h = tt
  none_right s hs (w ∷ ws) hw h = (by_case h.0, none_right s hs ws hw.1 h.1)
    where
      by_case : IsUpTo s [] w → is_right true (point_of s) (point_of w) ≡ false
      by_case (inl o) = not_after m s w dm hs hw.0 o
      by_case (inr o) = absurd o

  flats_aside : (p : Place) (ps : List Place) → AllByRecursion (IsSpotAt m) (spots_of (p ∷ ps))
      → GoRight (spots_of (p ∷ ps)) → AllByRecursion (IsUpTo p.at (spots_of ps)) (spots_at es m) → IsUncovered es p ps
      → AllByRecursion (IsAside true (point_of p.at)) es
  flats_aside p [] hp g up c =
      let dp = spot_divisor m p.at dm hp.0 in
      asides m dm true (point_of p.at) dp (spot_is_at m p.at hp.0) es
      (all_one_sided m true (point_of p.at) false es (none_right p.at hp.0 (spots_at es m) (spots_are_at es m) up))
  flats_aside p (q ∷ ps) hp g up c =
      let dp = spot_divisor m p.at dm hp.0 in
      asides m dm true (point_of p.at) dp (spot_is_at m p.at hp.0) es
      (all_uncovered m dm true (point_of p.at) dp p.at q.at hp.0 hp.1.0 g.0
      (not_after m p.at p.at dm hp.0 hp.0 (not_past p.at)) (is_after m p.at q.at dm hp.0 hp.1.0 g.0) es
      (beside m p.at q.at (spots_of ps) (spots_at es m) hp.1 (spots_are_at es m) g.1 up)
      (none_covers (covers p.at q.at) es c))

module _ (es : List LeafEdge) (balanced : AreLeavesBalanced es) (m : Level) (dm : pos 0 <ℤ m.d)
    (below above : List (List ℕ))
    (b : CountsBeside false es m below) (a : CountsBeside true es m above) where
  here : (p : Place) (ps : List Place) → AllByRecursion (IsSpotAt m) (spots_of (p ∷ ps)) → GoRight (spots_of (p ∷ ps))
      → HasSide es m (λ p. p.below) below (p ∷ ps) → HasSide es m (λ p. p.above) above (p ∷ ps)
      → AllByRecursion (IsUpTo p.at (spots_of ps)) (spots_at es m) → IsUncovered es p ps → (leaf : ℕ)
      → headings es leaf (concat (bundles_of (all_below ps))) ≡ headings es leaf (concat (bundles_of (all_above ps)))
  here p ps hp g x y up c leaf =
      ap (λ (ss : List Strand). headings es leaf (concat (bundles_of ss))) (sym (gathered_below ps))
      ∙ ap (λ (bs : List (List ℕ)). headings es leaf (concat bs))
      (sym (passed_at es m (λ p. p.below) below p ps hp g x.rise x.meet x.past))
      ∙ headings_beside es balanced m dm below above b a p.at hp.0.at (runs_up p.at.run hp.0.runs)
      (flats_aside es m dm p ps hp g up c) leaf
      ∙ ap (λ (bs : List (List ℕ)). headings es leaf (concat bs))
      (passed_at es m (λ p. p.above) above p ps hp g y.rise y.meet y.past)
      ∙ ap (λ (ss : List Strand). headings es leaf (concat (bundles_of ss))) (gathered_above ps)

  from_place : (p : Place) (ps : List Place) → AllByRecursion (IsSpotAt m) (spots_of (p ∷ ps))
      → GoRight (spots_of (p ∷ ps))
      → HasSide es m (λ p. p.below) below (p ∷ ps) → HasSide es m (λ p. p.above) above (p ∷ ps)
      → AllByRecursion (IsUpTo p.at (spots_of ps)) (spots_at es m) → AreBoundariesBalanced es (p ∷ ps)
  from_place p [] hp g x y up = (here p [] hp g x y up, tt)
  from_place p (q ∷ ps) hp g x y up = (
    here p (q ∷ ps) hp g x y up,
    from_place q ps hp.1 g.1 (next_side es m (λ p. p.below) below p (q ∷ ps) hp g x)
        (next_side es m (λ p. p.above) above p (q ∷ ps) hp g y)
        (next_up_to m p.at q.at (spots_of ps) (spots_at es m) hp.0 hp.1.0 (spots_are_at es m) g.0 up),
  )

-- by what is known of both sides
pub boundaries_by : (es : List LeafEdge) → AreLeavesBalanced es → (m : Level) → pos 0 <ℤ m.d → (places : List Place)
    → AllByRecursion (λ s. RisesFirst es s.bundle) (all_below places)
    → AllByRecursion (λ s. RisesFirst es s.bundle) (all_above places)
    → CountsBeside false es m (bundles_of (all_below places)) → CountsBeside true es m (bundles_of (all_above places))
    → AreMet es m places → AreStops es m (spots_of places) → AreBoundariesBalanced es places
boundaries_by es balanced m dm [] rb ra b a met stops = tt
boundaries_by es balanced m dm (p ∷ ps) rb ra b a met stops =
    let places : List Place = p ∷ ps in
    from_place es balanced m dm (bundles_of (all_below places)) (bundles_of (all_above places)) b a p ps
    (stops_at es m (spots_of places) stops) stops.rightwards
    (record {
      rise = subst (AllByRecursion (λ s. RisesFirst es s.bundle)) (sym (gathered_below places)) rb;
      meet = met.below;
      past = past_all es m (λ p. p.below) (bundles_of (all_below places)) places
          (ap bundles_of (sym (gathered_below places)));
    })
    (record {
      rise = subst (AllByRecursion (λ s. RisesFirst es s.bundle)) (sym (gathered_above places)) ra;
      meet = met.above;
      past = past_all es m (λ p. p.above) (bundles_of (all_above places)) places
          (ap bundles_of (sym (gathered_above places)));
    })
    (first_up_to p.at (spots_of ps) (spots_at es m) stops.complete)

pub boundaries_are_balanced : BoundariesAreBalanced
boundaries_are_balanced es balanced l m u lm mu places b a met stops =
    boundaries_by es balanced m mu.lower_divisor places
    (firsts es l m (all_below places) (live_bundles es l m (bundles_of (all_below places)) b))
    (firsts es m u (all_above places) (live_bundles es m u (bundles_of (all_above places)) a))
    (counts_below es l m lm (bundles_of (all_below places)) b)
    (counts_above es m u mu (bundles_of (all_above places)) a) met
    stops

-- ---- a bundle that stays
headings_both : (es : List LeafEdge) (leaf : ℕ) (xs ys : List ℕ)
    → headings es leaf (xs ++ ys) ≡ headings es leaf xs +ℤ headings es leaf ys
headings_both es leaf xs ys =
    headings_are es leaf (xs ++ ys) ∙ sum_z-append (heading_for es leaf) xs ys
    ∙ ap₂ (λ (y z : ℤ). y +ℤ z) (sym (headings_are es leaf xs)) (sym (headings_are es leaf ys))

pub staying_values : StayingValues
staying_values es shape b below above h =
    ap (λ (f : ℕ → Bool). shape_holds f shape)
    (fun_ext (λ leaf. ap (λ (z : ℤ). not (is_zero z))
    (headings_both es leaf b (concat below)
    ∙ ap (λ (z : ℤ). headings es leaf b +ℤ z) (h leaf)
    ∙ sym (headings_both es leaf b (concat above)))))

pub headings_add : HeadingsAdd
headings_add es leaf b bs = headings_both es leaf b (concat bs)
