-- One height: its places are in the order of the sweep.
use Rattle.std.proofs.Common.{ℕ, inl, inr, false, List, [], ◌∷◌, ◌++◌}
use lib.IntN.{pos}
use lib.Signed.{◌<ℤ◌}
use Rattle.std.specs.List.{AllByRecursion}
use Rattle.scad_base.proofs.Lists.{AllByRecursion-append}
use Rattle.scad_geom.specs.declared.level.Level.{Level}
use Rattle.scad_geom.specs.declared.level.LeafEdge.{LeafEdge}
use Rattle.scad_geom.specs.Level.{IsLower}
use Rattle.scad_geom.proofs.Order.{front, back}
use Rattle.winding_laws.proofs.Sameness.{same_itself}
use Rattle.slice_bundles.specs.Bundles.{edge_at}
use Rattle.slice_pieces.specs.declared.piece.Spot.{Spot}
use Rattle.slice_pieces.specs.Spots.{point_of}
use Rattle.slice_border.specs.Pieces.{spot_on}
use Rattle.slice_border.specs.Beside.{RisesFirst}
use Rattle.slice_border.proofs.Winding.{IsSpotAt}
use Rattle.slice_border.proofs.BalanceFlat.{spot_divisor}
use Rattle.sweep_laws.specs.Ways.{IsAway}
use Rattle.sweep_laws.specs.Visits.{Visit, IsAtOne, Leads, AreInSweepOrder}
use Rattle.sweep_laws.specs.Fronts.{Strand, value_before, ways_from}
use Rattle.sweep_laws.specs.Crossing.{Place, all_above, flat_way, visits_at}
use Rattle.sweep_laws.proofs.Spots.{spot_at, lower_away}
use Rattle.sweep_laws.proofs.Strands.{FromHas, of_ways_from, AlongHas, of_flat_way, differ_front, names_from, IsRisingWay, with_flat, flat_names}
use Rattle.sweep_laws.proofs.Between.{all_weaker}
use Rattle.sweep_laws.proofs.Levels.{IsHigher, LiesAt, IsLevel, next_level, rising_from, flat_ways}

module _ (es : List LeafEdge) (l u : Level) where
  higher_spots : (s : Spot) (vs : List Visit) → IsSpotAt l s → AllByRecursion (λ v. IsHigher l v.at) vs
      → AllByRecursion (λ v. IsAway (point_of s) v.at) vs
  higher_spots s vs h o = all_weaker (λ v. IsHigher l v.at) (λ v. IsAway (point_of s) v.at) vs
      (λ v k. lower_away l k.level s v.at h k.at k.over) o

  places_away : (s : Spot) (ps : List Place) → AllByRecursion (λ q. IsAway (point_of s) q.at) ps
      → AllByRecursion (λ v. IsAway (point_of s) v.at) (visits_at es l u ps)
  places_away s [] h = tt
  places_away s (p ∷ ps) h = (h.0, places_away s ps h.1)

  at_later : (ps : List Place) (vs : List Visit) (s : Spot) → IsAtOne vs s → IsAtOne (visits_at es l u ps ++ vs) s
  at_later [] vs s h = h
  at_later (p ∷ ps) vs s h = inr (at_later ps vs s h)

  -- where a bundle's way to the next height ends
  abbrev pub EndsAtOne : List Visit → List ℕ → Type 0
  EndsAtOne vs [] = Unit {0}
  EndsAtOne vs (k ∷ ks) = IsAtOne vs (spot_on (edge_at es k) u)

  strand_leads : (p : Spot) (ps : List Place) (vs : List Visit) (b : List ℕ) → pos 0 <ℤ l.d → pos 0 <ℤ u.d
      → RisesFirst es b
      → LiesAt es l p b → EndsAtOne vs b → FromHas (Leads p (visits_at es l u ps ++ vs)) es l u b
  strand_leads p ps vs [] dl du r h o = tt
  strand_leads p ps vs (k ∷ ks) dl du r h o = λ b. record {
    near_point = spot_divisor l (spot_on (edge_at es k) l) dl (spot_at (edge_at es k) l r.1);
    far_point = spot_divisor u (spot_on (edge_at es k) u) du (spot_at (edge_at es k) u r.1);
    near = h;
    far = at_later ps vs (spot_on (edge_at es k) u) o;
  }

  flat_leads : (p : Place) (ps : List Place) (vs : List Visit) → IsLevel es l u (p ∷ ps)
      → AlongHas (Leads p.at (visits_at es l u ps ++ vs)) es p.at p ps
  flat_leads p [] vs h = tt
  flat_leads p (q ∷ ps) vs h = λ k e b. record {
    near_point = spot_divisor l p.at h.divisor h.spots.0;
    far_point = spot_divisor l q.at h.divisor h.spots.1.0;
    near = same_itself (point_of p.at);
    far = inl (same_itself (point_of q.at));
  }

  pub level_order : (places : List Place) (vs : List Visit) → IsLevel es l u places → AreInSweepOrder vs
      → AllByRecursion (λ v. IsHigher l v.at) vs → AllByRecursion (λ s. EndsAtOne vs s.bundle) (all_above places)
      → AreInSweepOrder (visits_at es l u places ++ vs)
  level_order [] vs h order o ends = order
  level_order (p ∷ ps) vs h order o ends = (
    spot_divisor l p.at h.divisor h.spots.0,
    AllByRecursion-append (λ v. IsAway (point_of p.at) v.at) (visits_at es l u ps) vs (places_away p.at ps h.apart.0)
        (higher_spots p.at vs h.spots.0 o),
    AllByRecursion-append (Leads p.at (visits_at es l u ps ++ vs))
        (ways_from es l u (value_before (all_above ps) false) p.above)
        (flat_way es p.at p ps)
        (of_ways_from (Leads p.at (visits_at es l u ps ++ vs)) es l u (value_before (all_above ps) false) p.above leads)
        (of_flat_way (Leads p.at (visits_at es l u ps ++ vs)) es p.at p ps (flat_leads p ps vs h)),
    with_flat es (ways_from es l u (value_before (all_above ps) false) p.above) (flat_way es p.at p ps)
        (names_from es l u (value_before (all_above ps) false) p.above
        (differ_front p.above (all_above ps) h.heads_above))
        (flat_names es p.at p ps)
        (of_ways_from (IsRisingWay es) es l u (value_before (all_above ps) false) p.above
        (all_weaker (λ s. RisesFirst es s.bundle) (λ s. FromHas (IsRisingWay es) es l u s.bundle) p.above
        (λ s r. rising_from es l u s.bundle r) rise)) (flat_ways es l u p.at p ps),
    level_order ps vs (next_level es l u p ps h) order o (back (λ s. EndsAtOne vs s.bundle) p.above (all_above ps) ends),
  )
    where
      rise : AllByRecursion (λ s. RisesFirst es s.bundle) p.above
      rise = front (λ s. RisesFirst es s.bundle) p.above (all_above ps) h.rise_above

      lead : (ss : List Strand) → AllByRecursion (λ s. IsLower l u × (pos 0 <ℤ u.d)) ss
          → AllByRecursion (λ s. RisesFirst es s.bundle) ss → AllByRecursion (λ s. LiesAt es l p.at s.bundle) ss
          → AllByRecursion (λ s. EndsAtOne vs s.bundle) ss
          → AllByRecursion (λ s. FromHas (Leads p.at (visits_at es l u ps ++ vs)) es l u s.bundle) ss
      lead [] c r k e = tt
      lead (s ∷ ss) c r k e =
          (strand_leads p.at ps vs s.bundle h.divisor c.0.1 r.0 k.0 e.0, lead ss c.1 r.1 k.1 e.1)

      leads : AllByRecursion (λ s. FromHas (Leads p.at (visits_at es l u ps ++ vs)) es l u s.bundle) p.above
      leads = lead p.above (front (λ s. IsLower l u × (pos 0 <ℤ u.d)) p.above (all_above ps) h.climb) rise h.above.0
          (front (λ s. EndsAtOne vs s.bundle) p.above (all_above ps) ends)
