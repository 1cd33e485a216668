-- A sweep over all heights gives the merged pieces of the border.
use Rattle.std.proofs.Common.{◌≡◌, ℕ, ◌<◌, true, false, List, [], ◌∷◌, ◌++◌, length, refl, sym, ap, ◌∙◌, subst, arith, append_assoc}
use lib.IntN.{pos}
use lib.Signed.{◌<ℤ◌}
use Rattle.std.specs.List.{AllByRecursion}
use Rattle.std.specs.List.Sorted.{IsPermutation}
use Rattle.std.proofs.lemmas.Int.{ints}
use Rattle.std.proofs.lemmas.List.{append-nil, map-append}
use Rattle.std.proofs.lemmas.List.Sorted.{IsPermutation-trans, IsPermutation-append}
use Rattle.scad_base.proofs.Lists.{AllByRecursion-append}
use Rattle.scad_geom.specs.declared.level.Level.{Level}
use Rattle.scad_geom.specs.declared.level.LeafEdge.{LeafEdge}
use Rattle.scad_geom.specs.declared.shape.Shape.{Shape}
use Rattle.scad_geom.specs.Line.{rise}
use Rattle.scad_geom.specs.Level.{IsLower, IsAtMost}
use Rattle.scad_geom.specs.Heights.{heights, AreNeighbours}
use Rattle.scad_geom.proofs.Heights.{heights_positive, lower_then_at_most, lower_weak, at_most_chain}
use Rattle.slice_events.specs.Levels.{IsRising}
use Rattle.slice_bundles.specs.Bundles.{edge_at}
use Rattle.slice_bundles.proofs.Live.{live_bundles}
use Rattle.slice_pieces.specs.declared.piece.Spot.{Spot}
use Rattle.slice_pieces.specs.declared.piece.Piece.{Piece}
use Rattle.slice_pieces.specs.Rounding.{rounded_edges}
use Rattle.slice_pieces.proofs.Pairs.{permuted_merged}
use Rattle.slice_border.specs.Pieces.{spot_on, passes_at, flat_pieces, slab_pieces, AreLevelPieces}
use Rattle.slice_border.proofs.Telling.{tell_first}
use Rattle.slice_border.proofs.Walk.{UpTo, at_first, at_next, neighbours_next}
use Rattle.slice_border.proofs.Winding.{IsSpotAt, stops_at}
use Rattle.sweep_laws.specs.Ways.{Way, pieces_of, piece_of}
use Rattle.sweep_laws.specs.Visits.{Visit, outs_of, IsAtOne, AreInSweepOrder, Walk, over}
use Rattle.sweep_laws.specs.Fronts.{Strand, bundles_of, ways_up, IsFront}
use Rattle.sweep_laws.specs.Crossing.{Place, spots_of, all_below, all_above, all_closed, visits_at, IsCrossing}
use Rattle.sweep_laws.specs.Sweeps.{Sweeps, closed_in, SweepsMerge, MergedEdgesMakeOutlines}
use Rattle.sweep_laws.proofs.Walking.{walks_merge}
use Rattle.sweep_laws.proofs.Levels.{IsHigher, IsLevel, IsAlong, level_walk}
use Rattle.sweep_laws.proofs.LevelOrder.{EndsAtOne, level_order}
use Rattle.sweep_laws.proofs.LevelPieces.{slab_is}
use Rattle.sweep_laws.proofs.Lifting.{IsSide, above_side, below_side, no_side, tell_top, is_level, meets_place, level_pieces, all_end}

-- a spot at a height or above it
record IsFrom (l : Level) (s : Spot) : Type 0 where
  level : Level
  at : IsSpotAt level s
  divisor : pos 0 <ℤ level.d
  over : IsAtMost l level

higher_from : (m l : Level) (s : Spot) → pos 0 <ℤ m.d → pos 0 <ℤ l.d → IsLower m l → IsFrom l s → IsHigher m s
higher_from m l s dm dl o h = record {
  level = h.level;
  at = h.at;
  over = lower_then_at_most m l h.level dm dl h.divisor o h.over;
}

all_higher : (m l : Level) (vs : List Visit) → pos 0 <ℤ m.d → pos 0 <ℤ l.d → IsLower m l
    → AllByRecursion (λ v. IsFrom l v.at) vs → AllByRecursion (λ v. IsHigher m v.at) vs
all_higher m l [] dm dl o h = tt
all_higher m l (v ∷ vs) dm dl o h = (higher_from m l v.at dm dl o h.0, all_higher m l vs dm dl o h.1)

all_from : (m l : Level) (vs : List Visit) → pos 0 <ℤ m.d → pos 0 <ℤ l.d → IsLower m l
    → AllByRecursion (λ v. IsFrom l v.at) vs → AllByRecursion (λ v. IsFrom m v.at) vs
all_from m l [] dm dl o h = tt
all_from m l (v ∷ vs) dm dl o h = (
  record {
    level = h.0.level;
    at = h.0.at;
    divisor = h.0.divisor;
    over = at_most_chain m l h.0.level dm dl h.0.divisor (lower_weak m l o) h.0.over;
  },
  all_from m l vs dm dl o h.1,
)

itself : (l : Level) → IsAtMost l l
itself l = omega (arith, ints)

places_from : (es : List LeafEdge) (l u : Level) (ps : List Place) → pos 0 <ℤ l.d
    → AllByRecursion (IsSpotAt l) (spots_of ps)
    → AllByRecursion (λ v. IsFrom l v.at) (visits_at es l u ps)
places_from es l u [] dl h = tt
places_from es l u (p ∷ ps) dl h =
    (record { level = l; at = h.0; divisor = dl; over = itself l }, places_from es l u ps dl h.1)

-- what is known of the places from a height on
record IsDone (es : List LeafEdge) (shape : Shape) (l : Level) (ls : List Level) (below : List Strand)
    (closed : List Way) : Type 0 where
  visits : List Visit
  pieces : List Piece
  order : AreInSweepOrder visits
  walk : Walk (ways_up es l false below) visits closed
  from : AllByRecursion (λ v. IsFrom l v.at) visits
  ends : (k : ℕ) → k < length es → passes_at (edge_at es k) l ≡ true → pos 0 <ℤ rise (edge_at es k)
      → IsAtOne visits (spot_on (edge_at es k) l)
  are_pieces : AreLevelPieces es shape (l ∷ ls) pieces
  outs : IsPermutation (pieces_of (outs_of visits)) pieces

outs-append : (us vs : List Visit) → outs_of (us ++ vs) ≡ outs_of us ++ outs_of vs
outs-append [] vs = refl
outs-append (u ∷ us) vs = ap (λ (ws : List Way). u.outs ++ ws) (outs-append us vs)
    ∙ sym (append_assoc u.outs (outs_of us) (outs_of vs))

module _ (es : List LeafEdge) (shape : Shape) where
  -- ---- the last height
  last_height : (l : Level) (c : List Place) (below : List Strand) → pos 0 <ℤ l.d
      → AllByRecursion (UpTo l []) (heights es)
      → IsSide false es shape l below → IsCrossing es l l below [] c → IsDone es shape l [] below (all_closed c ++ [])
  last_height l c below dl m under x =
      let over' : IsSide true es shape l [] = no_side true es shape l (tell_top es shape l dl m) in
      let level : IsLevel es l l c = is_level es shape l l dl below [] c x under over' tt in
      let top : Walk (ways_up es l false (all_above c) ++ []) [] [] =
      subst (λ (ss : List Strand). Walk (ways_up es l false ss ++ []) [] []) x.above_is over in
      record {
        visits = visits_at es l l c ++ [];
        pieces = flat_pieces es shape (spots_of c);
        order = level_order es l l c [] level tt tt (subst (AllByRecursion
            (λ s. EndsAtOne es l l [] s.bundle)) x.above_is tt);
        walk = subst (λ (ws : List Way). Walk ws (visits_at es l l c ++ []) (all_closed c ++ []))
            (append-nil (ways_up es l false (all_below c)) ∙ ap (ways_up es l false) (sym x.below_is))
            (level_walk es l l c [] [] [] [] level (along c) tt x.passed top);
        from = AllByRecursion-append (λ v. IsFrom l v.at) (visits_at es l l c) []
            (places_from es l l c dl (stops_at es l (spots_of c) x.stops)) tt;
        ends = λ k o t r. meets_place es shape l l dl below [] c x under over' tt [] k o t r;
        are_pieces = (spots_of c, x.stops, refl);
        outs = subst (λ (ws : List Way). IsPermutation (pieces_of ws) (flat_pieces es shape (spots_of c)))
            (sym (outs-append (visits_at es l l c) [] ∙ append-nil (outs_of (visits_at es l l c))))
            (subst (IsPermutation (pieces_of (outs_of (visits_at es l l c))))
            (append-nil (flat_pieces es shape (spots_of c)))
            (level_pieces es shape l l dl below [] c x under over' tt [] refl));
      }
    where
      along : (ps : List Place) → IsAlong es l l [] ps
      along [] = record { comes = tt; flats = tt; names = tt }
      along (p ∷ ps) = record { comes = tt; flats = tt; names = tt }

  -- ---- a height with others above it
  next_height : (l u : Level) (ls : List Level) (c : List Place) (below : List Strand) (closed : List Way)
      → AreNeighbours es l u → IsSide false es shape l below → IsCrossing es l u below (all_above c) c
      → IsFront es shape l u (all_above c) → IsDone es shape u ls (all_above c) closed
      → IsDone es shape l (u ∷ ls) below (all_closed c ++ closed)
  next_height l u ls c below closed n under x f done =
      let over' : IsSide true es shape l (all_above c) = above_side es shape l u n (all_above c) f in
      let dl = n.lower_divisor in
      let du = n.upper_divisor in
      let level : IsLevel es l u c = is_level es shape l u dl below (all_above c) c x under over'
      (climb (all_above c)) in
      let vs : List Visit = done.visits in
      record {
        visits = visits_at es l u c ++ vs;
        pieces = (flat_pieces es shape (spots_of c) ++ slab_pieces es shape l u
            (bundles_of (all_above c))) ++ done.pieces;
        order = level_order es l u c vs level done.order (all_higher l u vs dl du n.in_order done.from)
            (all_end es l u n vs done.ends (all_above c) (live_bundles es l u (bundles_of (all_above c)) f.bundles));
        walk = subst (λ (ws : List Way). Walk ws (visits_at es l u c ++ vs) (all_closed c ++ closed))
            (append-nil (ways_up es l false (all_below c)) ∙ ap (ways_up es l false) (sym x.below_is))
            (level_walk es l u c [] [] vs closed level (along c) tt x.passed
            (subst (λ (ws : List Way). Walk ws vs closed) (sym
            (append-nil (ways_up es u false (all_above c)))) done.walk));
        from = AllByRecursion-append (λ v. IsFrom l v.at) (visits_at es l u c) vs
            (places_from es l u c dl (stops_at es l (spots_of c) x.stops)) (all_from l u vs dl du n.in_order done.from);
        ends = λ k o t r. meets_place es shape l u dl below (all_above c) c x under over'
            (climb (all_above c)) vs k o t r;
        are_pieces = (spots_of c, bundles_of (all_above c), done.pieces, x.stops, f.bundles, done.are_pieces, refl);
        outs = subst (λ (qs : List Piece). IsPermutation qs ((flat_pieces es shape (spots_of c)
            ++ slab_pieces es shape l u (bundles_of (all_above c))) ++ done.pieces))
            (sym (ap pieces_of (outs-append (visits_at es l u c) vs)
            ∙ map-append piece_of (outs_of (visits_at es l u c)) (outs_of vs)))
            (IsPermutation-append (pieces_of (outs_of (visits_at es l u c)))
            (flat_pieces es shape (spots_of c) ++ slab_pieces es shape l u (bundles_of (all_above c)))
            (pieces_of (outs_of vs)) done.pieces
            (level_pieces es shape l u dl below (all_above c) c x under over' (climb (all_above c))
            (slab_pieces es shape l u (bundles_of (all_above c)))
            (slab_is es shape l u n (all_above c) f.bundles f.values)) done.outs);
      }
    where
      climb : (ss : List Strand) → AllByRecursion (λ s. IsLower l u × (pos 0 <ℤ u.d)) ss
      climb [] = tt
      climb (s ∷ ss) = ((n.in_order, n.upper_divisor), climb ss)

      along : (ps : List Place) → IsAlong es l u [] ps
      along [] = record { comes = tt; flats = tt; names = tt }
      along (p ∷ ps) = record { comes = tt; flats = tt; names = tt }

  -- ---- all heights
  from_height : (l : Level) (ls : List Level) (cs : List (List Place)) (below : List Strand)
      → AllByRecursion (λ (l : Level). pos 0 <ℤ l.d) (l ∷ ls) → IsRising (l ∷ ls)
      → AllByRecursion (UpTo l ls) (heights es)
      → IsSide false es shape l below → Sweeps es shape below (l ∷ ls) cs → IsDone es shape l ls below (closed_in cs)
  from_height l [] [] below d r h under s = absurd s
  from_height l [] (c ∷ cs) below d r h under s =
      subst (λ (rest : List (List Place)). IsDone es shape l [] below (all_closed c ++ closed_in rest)) (sym s.1)
      (last_height l c below d.0 h under s.0)
  from_height l (u ∷ ls) [] below d r h under s = absurd s
  from_height l (u ∷ ls) (c ∷ cs) below d r h under s =
      let n : AreNeighbours es l u = neighbours_next es l u ls d r h in
      next_height l u ls c below (closed_in cs) n under s.0 s.1
      (from_height u ls cs (all_above c) d.1 r.1 (at_next l u ls (heights es) d.0 d.1.0 (heights_positive es) r.0 h)
      (below_side es shape l u n (all_above c) s.1) s.2)

pub sweeps_merge : SweepsMerge
sweeps_merge es shape [] [] given v s p = record {
  pieces = [];
  merged = [];
  are_pieces = record { levels = []; are_levels = v; are_pieces = refl };
  are_merged = walks_merge [] [] tt over;
  are_given = p;
}
sweeps_merge es shape [] (c ∷ cs) given v s p = absurd s
sweeps_merge es shape (l ∷ ls) cs given v s p =
    let done = from_height es shape l ls cs [] v.divisors v.rising (at_first l ls (heights es) v.complete)
    (no_side false es shape l (tell_first es shape (l ∷ ls) l v (omega arith))) s in
    record {
      pieces = done.pieces;
      merged = pieces_of (closed_in cs);
      are_pieces = record { levels = l ∷ ls; are_levels = v; are_pieces = done.are_pieces };
      are_merged = permuted_merged (pieces_of (outs_of done.visits)) done.pieces (pieces_of (closed_in cs)) done.outs
          (walks_merge done.visits (closed_in cs) done.order done.walk);
      are_given = p;
    }

pub merged_edges_make_outlines : MergedEdgesMakeOutlines
merged_edges_make_outlines es shape given left outlines m c o = record {
  pieces = m.pieces;
  are_pieces = m.are_pieces;
  are_made = record {
    merged = m.merged;
    left = left;
    are_merged = m.are_merged;
    are_left = record {
      pairs = c.pairs;
      taken = IsPermutation-trans (rounded_edges m.merged) given _ m.are_given c.taken;
      none = c.none;
    };
    are_outlines = o;
  };
}
