-- A front lifted over a height: what is known below it, above it, and of its places.
use Rattle.std.proofs.Common.{◌≡◌, ℕ, zero, suc, ◌<◌, inl, inr, Bool, true, false, List, [], ◌∷◌, ◌++◌, length, sym, ap, ap₂, ◌∙◌, subst, arith}
use lib.IntN.{pos, ◌*ℤ◌}
use lib.Signed.{◌<ℤ◌}
use Rattle.std.specs.Prelude.{int_lt, int_le}
use Rattle.std.specs.List.{AllByRecursion, concat}
use Rattle.std.specs.List.Sorted.{IsPermutation}
use Rattle.std.proofs.lemmas.Int.{ints}
use Rattle.std.proofs.lemmas.List.{map-append}
use Rattle.std.proofs.lemmas.List.Sorted.{IsPermutation-map}
use Rattle.scad_geom.specs.declared.point.Edge.{Edge}
use Rattle.scad_geom.specs.declared.level.Level.{Level}
use Rattle.scad_geom.specs.declared.level.LeafEdge.{LeafEdge}
use Rattle.scad_geom.specs.declared.shape.Shape.{Shape}
use Rattle.scad_geom.specs.Line.{low, high, rise}
use Rattle.scad_geom.specs.Level.{level_of, IsLower, IsAtMost}
use Rattle.scad_geom.specs.Heights.{heights, AreNeighbours}
use Rattle.scad_geom.specs.Point.{Point}
use Rattle.scad_geom.proofs.Heights.{Reaches, heights_positive, at_most_then_lower, lower_weak}
use Rattle.scad_geom.proofs.Order.{front, back}
use Rattle.slice_bundles.specs.Bundles.{edge_at}
use Rattle.slice_bundles.proofs.Live.{IsLive, live_bundles}
use Rattle.slice_pieces.specs.declared.piece.Spot.{Spot}
use Rattle.slice_pieces.specs.declared.piece.Piece.{Piece}
use Rattle.slice_pieces.specs.Spots.{point_of}
use Rattle.slice_border.specs.Pieces.{spot_on, passes_at, spots_at, IsLeft, GoRight, HasSpot, flat_pieces}
use Rattle.slice_border.specs.Beside.{left_value, RisesFirst}
use Rattle.slice_border.specs.Beside.{TellBeside}
use Rattle.slice_border.proofs.BundleValues.{outside_right, rises_first}
use Rattle.slice_border.proofs.BalanceSpots.{passing_spot}
use Rattle.slice_border.proofs.Middle.{scaled, at_most_scaled}
use Rattle.slice_border.proofs.Telling.{tell_above, tell_below}
use Rattle.slice_border.proofs.Walk.{UpTo, ended}
use Rattle.slice_border.proofs.Winding.{IsSpotAt, stops_at, outside_above}
use Rattle.scad_base.proofs.Products.{positive_product}
use Rattle.sweep_laws.specs.Ways.{Way, pieces_of, piece_of, IsAway}
use Rattle.sweep_laws.specs.Visits.{Visit, outs_of, IsAtOne}
use Rattle.sweep_laws.specs.Fronts.{Strand, bundles_of, ways_from, AreValued, IsFront}
use Rattle.sweep_laws.specs.Crossing.{Place, spots_of, all_below, all_above, visits_at, MeetsAt, IsCrossing}
use Rattle.sweep_laws.proofs.Spots.{spot_at, same_place, left_away}
use Rattle.sweep_laws.proofs.Strands.{HeadsDiffer, heads_differ}
use Rattle.sweep_laws.proofs.Levels.{LiesAt, lies_at, ArePlacesApart, IsLevel}
use Rattle.sweep_laws.proofs.LevelOrder.{EndsAtOne}
use Rattle.sweep_laws.proofs.LevelPieces.{first_is, later_valued, gathered, gathered_below, gathered_above, flats_from, outs_are}
use Rattle.sweep_laws.proofs.FlatPieces.{all_left, past_all, AreBothValued, flats_are}

-- ---- what is known of the strands on one side of a height
pub record IsSide (above : Bool) (es : List LeafEdge) (shape : Shape) (l : Level) (ss : List Strand) : Type 0 where
  pub heads : HeadsDiffer ss
  pub rise : AllByRecursion (λ s. RisesFirst es s.bundle) ss
  pub tell : TellBeside above es shape l (bundles_of ss)
  pub values : AreValued es shape ss

pub firsts : (es : List LeafEdge) (l u : Level) (ss : List Strand)
    → AllByRecursion (IsLive es l u) (concat (bundles_of ss))
    → AllByRecursion (λ s. RisesFirst es s.bundle) ss
firsts es l u [] h = tt
firsts es l u (s ∷ ss) h = (
  rises_first es l u s.bundle (front (IsLive es l u) s.bundle (concat (bundles_of ss)) h),
  firsts es l u ss (back (IsLive es l u) s.bundle (concat (bundles_of ss)) h),
)

module _ (es : List LeafEdge) (shape : Shape) (l u : Level) (n : AreNeighbours es l u) (ss : List Strand)
    (f : IsFront es shape l u ss) where
  pub above_side : IsSide true es shape l ss
  above_side = record {
    heads = heads_differ es l ss f.bundles.ranked;
    rise = firsts es l u ss (live_bundles es l u (bundles_of ss) f.bundles);
    tell = tell_above es shape l u (bundles_of ss) n f.bundles;
    values = f.values;
  }

  pub below_side : IsSide false es shape u ss
  below_side = record {
    heads = heads_differ es l ss f.bundles.ranked;
    rise = firsts es l u ss (live_bundles es l u (bundles_of ss) f.bundles);
    tell = tell_below es shape l u (bundles_of ss) n f.bundles;
    values = f.values;
  }

-- nothing lies below the first height, and above the last
pub no_side : (above : Bool) (es : List LeafEdge) (shape : Shape) (l : Level) → TellBeside above es shape l []
    → IsSide above es shape l []
no_side above es shape l t = record { heads = tt; rise = tt; tell = t; values = tt }

itself : (l : Level) → IsAtMost l l
itself l = omega (arith, ints)

runs_up : (n : ℕ) → 0 < n → pos 0 <ℤ pos n
runs_up n h = omega (arith, ints)

pub tell_top : (es : List LeafEdge) (shape : Shape) (l : Level) → pos 0 <ℤ l.d → AllByRecursion (UpTo l []) (heights es)
    → TellBeside true es shape l []
tell_top es shape l dl m s e r =
    let p : Point = point_of s in
    let dp : pos 0 <ℤ p.d = positive_product s.at.d (pos s.run) (subst (λ (at : Level). pos 0 <ℤ at.d) (sym e) dl)
    (runs_up s.run r) in
    let o : IsAtMost l (scaled s.at (pos s.run)) = subst (λ (t : Level). IsAtMost l (scaled t (pos s.run))) (sym e)
    (at_most_scaled l l (pos s.run) (runs_up s.run r) (itself l)) in
    outside_above es shape true true p (ended es shape true true p dp l (heights es) dl (heights_positive es) o m)
    ∙ sym (outside_right es shape)

-- ---- the places of a crossing
pub lie : (es : List LeafEdge) (l : Level) (side : Place → List Strand) (ps : List Place)
    → AllByRecursion (IsSpotAt l) (spots_of ps) → AllByRecursion (λ s. RisesFirst es s.bundle) (gathered side ps)
    → AllByRecursion (λ p. AllByRecursion (λ s. MeetsAt es l p.at s.bundle) (side p)) ps
    → AllByRecursion (λ p. AllByRecursion (λ s. LiesAt es l p.at s.bundle) (side p)) ps
lie es l side [] hp r m = tt
lie es l side (p ∷ ps) hp r m = (
  each (side p) (front (λ s. RisesFirst es s.bundle) (side p) (gathered side ps) r) m.0,
  lie es l side ps hp.1 (back (λ s. RisesFirst es s.bundle) (side p) (gathered side ps) r) m.1,
)
  where
    each : (ss : List Strand) → AllByRecursion (λ s. RisesFirst es s.bundle) ss
        → AllByRecursion (λ s. MeetsAt es l p.at s.bundle) ss → AllByRecursion (λ s. LiesAt es l p.at s.bundle) ss
    each [] r m = tt
    each (s ∷ ss) r m = (lies_at es l p.at s.bundle hp.0 r.0 m.0, each ss r.1 m.1)

places_apart : (l : Level) (ps : List Place) → pos 0 <ℤ l.d → AllByRecursion (IsSpotAt l) (spots_of ps)
    → GoRight (spots_of ps) → ArePlacesApart ps
places_apart l [] dl hp g = tt
places_apart l (p ∷ ps) dl hp g = (
  apart ps hp.1 (all_left l p.at ps hp.0 hp.1 g),
  places_apart l ps dl hp.1
      (tail ps g),
)
  where
    apart : (qs : List Place) → AllByRecursion (IsSpotAt l) (spots_of qs)
        → AllByRecursion (λ q. IsLeft p.at q.at) qs
        → AllByRecursion (λ q. IsAway (point_of p.at) q.at) qs
    apart [] h o = tt
    apart (q ∷ qs) h o = (left_away l p.at q.at dl hp.0 h.0 o.0, apart qs h.1 o.1)

    tail : (qs : List Place) → GoRight (p.at ∷ spots_of qs) → GoRight (spots_of qs)
    tail [] g = tt
    tail (q ∷ qs) g = g.1

-- each edge that meets the height does so at a place
pick : (P : Spot → Type 0) (es : List LeafEdge) (l : Level) (k : ℕ) → k < length es → AllByRecursion P (spots_at es l)
    → passes_at (edge_at es k) l ≡ true → P (spot_on (edge_at es k) l)
pick P [] l k o h t = absurd (omega arith)
pick P (e ∷ es) l zero o h t = passing_spot P e l (front P _ (spots_at es l) h) t
pick P (e ∷ es) l (suc k) o h t = pick P es l k (omega arith) (back P _ (spots_at es l) h) t

at_place : (es : List LeafEdge) (l u : Level) (ps : List Place) (vs : List Visit) (w : Spot) → IsSpotAt l w
    → AllByRecursion (IsSpotAt l) (spots_of ps) → HasSpot (spots_of ps) w → IsAtOne (visits_at es l u ps ++ vs) w
at_place es l u [] vs w hw hp h = absurd h
at_place es l u (p ∷ ps) vs w hw hp (inl h) = inl (same_place l p.at w hp.0 hw (sym h))
at_place es l u (p ∷ ps) vs w hw hp (inr h) = inr (at_place es l u ps vs w hw hp.1 h)

both_valued : (es : List LeafEdge) (shape : Shape) (l : Level) (under over : List (List ℕ))
    (tell_under : TellBeside false es shape l under) (tell_over : TellBeside true es shape l over) (ps : List Place)
    → AreValued es shape (all_below ps) → AreValued es shape (all_above ps)
    → AreBothValued es shape l under over tell_under tell_over ps
both_valued es shape l under over tu to [] a b = tt
both_valued es shape l under over tu to (p ∷ ps) a b =
    let a' = later_valued es shape p.below (all_below ps) a in
    let b' = later_valued es shape p.above (all_above ps) b in (
      first_is es shape (all_below ps) a'
          ∙ ap (λ (ss : List Strand). left_value es shape (bundles_of ss)) (sym (gathered_below ps)),
      first_is es shape (all_above ps) b'
          ∙ ap (λ (ss : List Strand). left_value es shape (bundles_of ss)) (sym (gathered_above ps)),
      both_valued es shape l under over tu to ps a' b',
    )

module _ (es : List LeafEdge) (shape : Shape) (l u : Level) (dl : pos 0 <ℤ l.d) (below above : List Strand)
    (places : List Place) (c : IsCrossing es l u below above places)
    (under : IsSide false es shape l below) (over : IsSide true es shape l above)
    (climb : AllByRecursion (λ s. IsLower l u × (pos 0 <ℤ u.d)) above) where
  spots : AllByRecursion (IsSpotAt l) (spots_of places)
  spots = stops_at es l (spots_of places) c.stops

  rise_below : AllByRecursion (λ s. RisesFirst es s.bundle) (all_below places)
  rise_below = subst (AllByRecursion (λ s. RisesFirst es s.bundle)) c.below_is under.rise

  rise_above : AllByRecursion (λ s. RisesFirst es s.bundle) (all_above places)
  rise_above = subst (AllByRecursion (λ s. RisesFirst es s.bundle)) c.above_is over.rise

  gathered_rise_below : AllByRecursion (λ s. RisesFirst es s.bundle) (gathered (λ p. p.below) places)
  gathered_rise_below = subst (AllByRecursion (λ s. RisesFirst es s.bundle)) (sym (gathered_below places)) rise_below

  gathered_rise_above : AllByRecursion (λ s. RisesFirst es s.bundle) (gathered (λ p. p.above) places)
  gathered_rise_above = subst (AllByRecursion (λ s. RisesFirst es s.bundle)) (sym (gathered_above places)) rise_above

  pub is_level : IsLevel es l u places
  is_level = record {
    divisor = dl;
    spots = spots;
    apart = places_apart l places dl spots c.stops.rightwards;
    below = lie es l (λ p. p.below) places spots gathered_rise_below c.meet_below;
    above = lie es l (λ p. p.above) places spots gathered_rise_above c.meet_above;
    heads_below = subst HeadsDiffer c.below_is under.heads;
    heads_above = subst HeadsDiffer c.above_is over.heads;
    rise_below = rise_below;
    rise_above = rise_above;
    climb = subst (AllByRecursion (λ s. IsLower l u × (pos 0 <ℤ u.d))) c.above_is climb;
  }

  pub meets_place : (vs : List Visit) (k : ℕ) → k < length es → passes_at (edge_at es k) l ≡ true
      → pos 0 <ℤ rise (edge_at es k) → IsAtOne (visits_at es l u places ++ vs) (spot_on (edge_at es k) l)
  meets_place vs k o t r = at_place es l u places vs (spot_on (edge_at es k) l) (spot_at (edge_at es k) l r) spots
      (pick (HasSpot (spots_of places)) es l k o c.stops.complete t)

  flats : pieces_of (flats_from es places) ≡ flat_pieces es shape (spots_of places)
  flats = flats_are es shape l (bundles_of below) (bundles_of above) under.tell over.tell places spots
      c.stops.rightwards
      (record {
        rise = gathered_rise_below;
        meet = c.meet_below;
        past = past_all es l (λ p. p.below) (bundles_of below) places
            (ap bundles_of (c.below_is ∙ sym (gathered_below places)));
      })
      (record {
        rise = gathered_rise_above;
        meet = c.meet_above;
        past = past_all es l (λ p. p.above) (bundles_of above) places
            (ap bundles_of (c.above_is ∙ sym (gathered_above places)));
      })
      (both_valued es shape l (bundles_of below) (bundles_of above) under.tell over.tell places
      (subst (AreValued es shape) c.below_is under.values) (subst (AreValued es shape) c.above_is over.values))

  pub level_pieces : (slab : List Piece) → pieces_of (ways_from es l u false above) ≡ slab
      → IsPermutation (pieces_of (outs_of (visits_at es l u places))) (flat_pieces es shape (spots_of places) ++ slab)
  level_pieces slab e =
      let froms : List Way = ways_from es l u false (all_above places) in
      subst (IsPermutation (pieces_of (outs_of (visits_at es l u places))))
      (map-append piece_of (flats_from es places) froms
      ∙ ap₂ (λ (xs ys : List Piece). xs ++ ys) flats
      (ap (λ (ss : List Strand). pieces_of (ways_from es l u false ss)) (sym c.above_is) ∙ e))
      (IsPermutation-map piece_of (outs_of (visits_at es l u places)) (flats_from es places ++ froms)
      (outs_are es l u places))

-- ---- where the edges of a front meet the next height
passes : (e : Edge) (l u : Level) → pos 0 <ℤ l.d → pos 0 <ℤ u.d → IsLower l u → Reaches e l u → passes_at e u ≡ true
passes e l u dl du o r =
    let one : pos 0 <ℤ pos 1 = omega (arith, ints) in
    let a = lower_weak (level_of (low e).y) u (at_most_then_lower (level_of (low e).y) l u one dl du r.from o) in
    let b = r.to in
    let c = r.rises in
    let x : int_lt (pos 0) (rise e) ≡ true = sym (omega (arith, ints)) in
    let y : int_le ((low e).y *ℤ u.d) u.n ≡ true = sym (omega (arith, ints)) in
    let z : int_le u.n ((high e).y *ℤ u.d) ≡ true = sym (omega (arith, ints)) in
    rw (x, y, z)

pub all_end : (es : List LeafEdge) (l u : Level) → AreNeighbours es l u → (vs : List Visit)
    → ((k : ℕ) → k < length es → passes_at (edge_at es k) u ≡ true → pos 0 <ℤ rise (edge_at es k)
    → IsAtOne vs (spot_on (edge_at es k) u))
    → (ss : List Strand) → AllByRecursion (IsLive es l u) (concat (bundles_of ss))
    → AllByRecursion (λ s. EndsAtOne es l u vs s.bundle) ss
all_end es l u n vs h [] a = tt
all_end es l u n vs h (s ∷ ss) a = (
  one s.bundle (front (IsLive es l u) s.bundle (concat (bundles_of ss)) a),
  all_end es l u n vs h ss (back (IsLive es l u) s.bundle (concat (bundles_of ss)) a),
)
  where
    one : (b : List ℕ) → AllByRecursion (IsLive es l u) b → EndsAtOne es l u vs b
    one [] a = tt
    one (k ∷ ks) a = h k a.0.there
        (passes (edge_at es k) l u n.lower_divisor n.upper_divisor n.in_order a.0.reaches) a.0.reaches.rises
