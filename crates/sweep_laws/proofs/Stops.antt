-- Places that edges meet are the stops of a height.
use Rattle.std.proofs.Common.{◌≡◌, ℕ, zero, suc, ◌<◌, inl, inr, Bool, true, false, List, [], ◌∷◌, ◌++◌, length, refl, sym, ap, subst, arith}
use lib.IntN.{ℤ, pos, negsuc, ◌*ℤ◌}
use lib.Signed.{◌<ℤ◌}
use Rattle.std.specs.Prelude.{◌&&◌, if◌then◌else◌}
use Rattle.std.specs.List.{AllByRecursion}
use Rattle.std.specs.Ordering.{int_eq}
use Rattle.std.proofs.lemmas.Bool.{true≢false}
use Rattle.std.proofs.lemmas.Int.{ints}
use Rattle.std.proofs.lemmas.List.Elements.{recursion_from_All}
use Rattle.scad_base.proofs.Lists.{AllByRecursion-append}
use Rattle.scad_geom.specs.declared.point.Edge.{Edge}
use Rattle.scad_geom.specs.declared.level.Level.{Level}
use Rattle.scad_geom.specs.declared.level.LeafEdge.{LeafEdge}
use Rattle.scad_geom.specs.Line.{rise}
use Rattle.scad_geom.specs.Level.{IsAtMost}
use Rattle.scad_geom.specs.Heights.{heights}
use Rattle.scad_geom.specs.Sign.{is_zero}
use Rattle.slice_bundles.specs.Bundles.{edge_at, reaches, AreBundles}
use Rattle.slice_pieces.specs.declared.piece.Spot.{Spot}
use Rattle.slice_border.specs.Pieces.{spot_on, whole_spot, is_flat_at, passes_at, edge_spots, spots_at, HasSpot, IsOneOf, AreStops}
use Rattle.slice_border.proofs.Winding.{IsSpotAt, of_stops, spots_are_at}
use Rattle.sweep_laws.specs.Fronts.{Strand, bundles_of}
use Rattle.sweep_laws.specs.Crossing.{Place, spots_of, all_below, all_above, MeetsAt}
use Rattle.sweep_laws.specs.Stops.{AreMet, PlacesAreStops, SpotsAreThere}
use Rattle.sweep_laws.proofs.LevelPieces.{gathered, gathered_below, gathered_above}
use Rattle.sweep_laws.proofs.BelowOrAbove.{Passes, passes_is, either, only_above, only_below, never}
use Rattle.sweep_laws.proofs.StrandSpots.{met_by_side}

-- ---- all spots of the height
all_met : (stops : List Spot) (es : List LeafEdge) (m : Level)
    → ((k : ℕ) → k < length es → passes_at (edge_at es k) m ≡ true → HasSpot stops (spot_on (edge_at es k) m))
    → AllByRecursion (λ e. is_flat_at e.edge m ≡ true
    → HasSpot stops (whole_spot e.edge.a.x m) × HasSpot stops (whole_spot e.edge.b.x m)) es
    → AllByRecursion (HasSpot stops) (spots_at es m)
all_met stops [] m h f = tt
all_met stops (e ∷ es) m h f =
    AllByRecursion-append (HasSpot stops) (edge_spots e.edge m) (spots_at es m)
    (by_tests (is_flat_at e.edge m) (passes_at e.edge m) refl refl)
    (all_met stops es m (λ k o t. h (suc k) (omega arith) t) f.1)
  where
    by_tests : (s t : Bool) → is_flat_at e.edge m ≡ s → passes_at e.edge m ≡ t
        → AllByRecursion (HasSpot stops) (if s then whole_spot e.edge.a.x m ∷ (whole_spot e.edge.b.x m ∷ []) else
        if t then spot_on e.edge m ∷ [] else [])
    by_tests true t p q = let r = f.0 p in (r.0, (r.1, tt))
    by_tests false true p q = (h zero (omega arith) q, tt)
    by_tests false false p q = tt

module _ (es : List LeafEdge) (m : Level) (dm : pos 0 <ℤ m.d) (places : List Place) (met : AreMet es m places) where
  spots : AllByRecursion (IsSpotAt m) (spots_of places)
  spots = of_stops (IsSpotAt m) (spots_at es m) (spots_of places) (spots_are_at es m) met.sound

  stops_by : ((k : ℕ) → k < length es → Passes (edge_at es k) m → HasSpot (spots_of places) (spot_on (edge_at es k) m))
      → AreStops es m (spots_of places)
  stops_by h = record {
    rightwards = met.rightwards;
    sound = met.sound;
    complete = all_met (spots_of places) es m (λ k o t. h k o (passes_is (edge_at es k) m t)) met.flats;
  }

  from_side : (l u : Level) → pos 0 <ℤ l.d → (side : Place → List Strand) (ss : List Strand) → gathered side places ≡ ss
      → AreBundles es l u (bundles_of ss) → AllByRecursion (λ p. AllByRecursion (λ s. MeetsAt es m p.at s.bundle)
      (side p)) places
      → (k : ℕ) → k < length es → reaches (edge_at es k) l u ≡ true
      → HasSpot (spots_of places) (spot_on (edge_at es k) m)
  from_side l u dl side ss e b meet = met_by_side es l u m dl side places
      (subst (λ (ss : List Strand). AreBundles es l u (bundles_of ss)) (sym e) b) spots meet

pub places_are_stops : PlacesAreStops
places_are_stops = record {
  between = λ es l m u places lm mu b a met. stops_by es m lm.upper_divisor places met (λ k o t.
      elim (either es m lm.upper_divisor k o t l u lm mu) [
        | inl r ↦ from_side es m lm.upper_divisor places met l m lm.lower_divisor (λ p. p.below) (all_below places)
            (gathered_below places) b met.below k o r
        | inr r ↦ from_side es m lm.upper_divisor places met m u lm.upper_divisor (λ p. p.above) (all_above places)
            (gathered_above places) a met.above k o r
      ]);
  first = λ es m u places h mu a met. stops_by es m mu.lower_divisor places met (λ k o t.
      from_side es m mu.lower_divisor places met m u mu.lower_divisor (λ p. p.above) (all_above places)
      (gathered_above places) a met.above k o
      (only_above es m mu.lower_divisor k o t u mu (recursion_from_All (IsAtMost m) (heights es) h)));
  last = λ es l m places lm h b met. stops_by es m lm.upper_divisor places met (λ k o t.
      from_side es m lm.upper_divisor places met l m lm.lower_divisor (λ p. p.below) (all_below places)
      (gathered_below places) b met.below k o
      (only_below es m lm.upper_divisor k o t l lm (recursion_from_All (λ h. IsAtMost h m) (heights es) h)));
  only = λ es m places dm a b met. stops_by es m dm places met (λ k o t.
      absurd (never es m dm k o t (recursion_from_All (IsAtMost m) (heights es) a)
      (recursion_from_All (λ h. IsAtMost h m) (heights es) b)));
}

-- ---- where an edge meets the height is a spot
pub in_front : (xs ys : List Spot) (s : Spot) → IsOneOf xs s → IsOneOf (xs ++ ys) s
in_front [] ys s h = absurd h
in_front (x ∷ xs) ys s (inl e) = inl e
in_front (x ∷ xs) ys s (inr h) = inr (in_front xs ys s h)

pub in_back : (xs ys : List Spot) (s : Spot) → IsOneOf ys s → IsOneOf (xs ++ ys) s
in_back [] ys s h = h
in_back (x ∷ xs) ys s h = inr (in_back xs ys s h)

own_spot : (e : Edge) (m : Level) → passes_at e m ≡ true → is_flat_at e m ≡ false
    → IsOneOf (edge_spots e m) (spot_on e m)
own_spot e m h f = by_tests (is_flat_at e m) (passes_at e m) f h
  where
    by_tests : (s t : Bool) → s ≡ false → t ≡ true
        → IsOneOf (if s then whole_spot e.a.x m ∷ (whole_spot e.b.x m ∷ []) else if t then spot_on e m ∷ [] else [])
        (spot_on e m)
    by_tests true t p q = absurd (true≢false p)
    by_tests false true p q = inl refl
    by_tests false false p q = absurd (true≢false (sym q))

above_zero : (z : ℤ) → pos 0 <ℤ z → is_zero z ≡ false
above_zero (pos zero) h = absurd (omega (arith, ints))
above_zero (pos (suc n)) h = refl
above_zero (negsuc n) h = refl

not_flat : (e : Edge) (m : Level) → passes_at e m ≡ true → is_flat_at e m ≡ false
not_flat e m h = ap (λ (t : Bool). t && int_eq (e.a.y *ℤ m.d) m.n) (above_zero (rise e) (passes_is e m h).rises)

pub spots_are_there : SpotsAreThere
spots_are_there [] m k o h = absurd (omega arith)
spots_are_there (e ∷ es) m zero o h =
    in_front (edge_spots e.edge m) (spots_at es m) (spot_on e.edge m) (own_spot e.edge m h (not_flat e.edge m h))
spots_are_there (e ∷ es) m (suc k) o h =
    in_back (edge_spots e.edge m) (spots_at es m) (spot_on (edge_at es k) m) (spots_are_there es m k (omega arith) h)
