-- The stops of a stretch are at its height, and their strands are at them.
use Rattle.std.proofs.Common.{◌≡◌, true, ℕ, ◌-◌, ◌≤◌, List, [], ◌∷◌, ◌++◌, length, take, drop, Option, refl, sym, ap, ap₂, subst, arith}
use Rattle.std.specs.Prelude.{ℤ, unsigned_abs}
use Rattle.std.specs.List.{AllByRecursion, All}
use Rattle.std.specs.List.Sorted.{IsPermutation}
use Rattle.std.proofs.lemmas.List.Elements.{All-from_recursion, recursion_from_All, All-take, All-drop}
use Rattle.scad_geom.specs.declared.point.Edge.{Edge}
use Rattle.scad_geom.specs.declared.level.Level.{Level}
use Rattle.scad_geom.specs.declared.level.LeafEdge.{LeafEdge}
use Rattle.scad_geom.specs.Limits.{coordinate_limit}
use Rattle.scad_geom.specs.Within.{IsEdgeWithin}
use Rattle.scad_geom.specs.Level.{IsLevelWithin}
use Rattle.scad_geom.proofs.Order.{front, back}
use Rattle.slice_bundles.specs.Bundles.{no_edge, edge_at}
use Rattle.slice_pieces.specs.declared.piece.Spot.{Spot}
use Rattle.slice_pieces.specs.Spots.{IsSpotWithin}
use Rattle.slice_pieces.specs.Rounding.{rounded_edges}
use Rattle.slice_sweep.specs.Front.{bundles_in}
use Rattle.sweep_laws.specs.Ways.{pieces_of}
use Rattle.sweep_laws.specs.Crossing.{all_closed}
use Rattle.slice_border.specs.Pieces.{spot_on, whole_spot, passes_at, HasSpot}
use Rattle.slice_border.proofs.Winding.{of_stops}
use Rattle.slice_border.proofs.Within.{weighed}
use Rattle.slice_outlines.specs.declared.course.Course.{Course}
use Rattle.slice_outlines.specs.declared.cursors.Cursors.{Cursors}
use Rattle.slice_outlines.specs.declared.mark.Mark.{Mark}
use Rattle.slice_outlines.specs.declared.run.Run.{Run}
use Rattle.slice_border.specs.declared.stop.Stop.{Stop}
use Rattle.slice_outlines.specs.declared.flat.Flat.{Flat}
use Rattle.slice_outlines.specs.declared.height.Height.{Height}
use Rattle.slice_outlines.specs.Marks.{spot_at, names_in}
use Rattle.slice_border.specs.Stops.{spots_in, AreStopsOf}
use Rattle.slice_outlines.specs.Stops.{mark_spots, flat_spots, AllPass}
use Rattle.slice_outlines.specs.Cursors.{StandOn}
use Rattle.slice_outlines.specs.Along.{HasComeOver}
use Rattle.slice_outlines.specs.Heights.{Onwards, IsRunOf, marks_of}
use Rattle.slice_outlines.specs.Stretch.{AreStopsAt, stretch_spots}
use Rattle.slice_outlines.proofs.EndPoints.{passes_there, passing_within}
use Rattle.slice_outlines.proofs.Placing.{all_append}
use Rattle.slice_outlines.proofs.Waiting.{part_names}

-- a spot of a height within the limit
record IsAt (l : Level) (s : Spot) : Type 0 where
  at : s.at ≡ l
  within : IsSpotWithin coordinate_limit s

whole_at : (x : ℤ) (l : Level) → unsigned_abs x ≤ coordinate_limit → IsLevelWithin coordinate_limit l
    → IsAt l (whole_spot x l)
whole_at x l h v =
    let b = weighed coordinate_limit x l.d h in
    record {
      at = refl;
      within = record { level = v; positive = omega arith; run = omega arith; size = omega (arith, b) };
    }

marks_at : (es : List LeafEdge) (l : Level) → All (λ e. IsEdgeWithin coordinate_limit e.edge) es
    → IsLevelWithin coordinate_limit l → (ms : List Mark)
    → AllByRecursion (λ m. passes_at (edge_at es m.name) l ≡ true) ms → AllByRecursion (IsAt l) (mark_spots es l ms)
marks_at es l w v [] p = tt
marks_at es l w v (m ∷ ms) p = (
  record {
    at = refl;
    within = passing_within coordinate_limit (edge_at es m.name) l
        (w m.name no_edge (passes_there es m.name l p.0)) v p.0;
  },
  marks_at es l w v ms p.1,
)

flats_at : (l : Level) → IsLevelWithin coordinate_limit l → (fs : List Flat) → AllByRecursion (IsAt l) (flat_spots l fs)
flats_at l v [] = tt
flats_at l v (f ∷ fs) = (whole_at f.left l f.left_size v, (whole_at f.right l f.right_size v, flats_at l v fs))

of_spots : (P : Spot → Type 0) (ss : List Stop) → AllByRecursion P (spots_in ss) → AllByRecursion (λ s. P s.spot) ss
of_spots P [] h = tt
of_spots P (s ∷ ss) h = (h.0, of_spots P ss h.1)

part_passes : (es : List LeafEdge) (l : Level) (ms : List Mark) (i n : ℕ) → AllPass es l ms
    → AllByRecursion (λ m. passes_at (edge_at es m.name) l ≡ true) (take n (drop i ms))
part_passes es l ms i n a =
    let P : Mark → Type 0 = λ m. passes_at (edge_at es m.name) l ≡ true in
    recursion_from_All P (take n (drop i ms)) (All-take P n (drop i ms) (All-drop P i ms a))

pub stops_at : (h : Height) (ms : List Mark) (run : Run) (fs : List Flat) (ss : List Stop)
    → AllPass h.edges.now h.at.now h.below.now → AllPass h.edges.now h.at.now ms
    → AreStopsOf (stretch_spots h ms run fs) (spots_in ss) → AreStopsAt h ss
stops_at h ms run fs ss pb pa a =
    let es : List LeafEdge = h.edges.now in
    let l : Level = h.at.now in
    let lows : List Mark = take (run.below_to - run.below) (drop run.below h.below.now) in
    let ups : List Mark = take (run.above_to - run.above) (drop run.above ms) in
    let all : AllByRecursion (IsAt l) (stretch_spots h ms run fs) =
    all_append (IsAt l) (mark_spots es l lows) (mark_spots es l ups ++ flat_spots l fs)
    (marks_at es l h.within h.at_within lows (part_passes es l h.below.now run.below (run.below_to - run.below) pb))
    (all_append (IsAt l) (mark_spots es l ups) (flat_spots l fs)
    (marks_at es l h.within h.at_within ups (part_passes es l ms run.above (run.above_to - run.above) pa))
    (flats_at l h.at_within fs)) in
    let each = of_spots (IsAt l) ss (of_stops (IsAt l) (stretch_spots h ms run fs) (spots_in ss) all a.sound) in
    record {
      at = All-from_recursion (λ s. s.spot.at ≡ l) ss (ats ss each);
      within = All-from_recursion (λ s. IsSpotWithin coordinate_limit s.spot) ss (withins ss each);
      rightwards = a.rightwards;
    }
  where
    ats : (ss : List Stop) → AllByRecursion (λ s. IsAt h.at.now s.spot) ss
        → AllByRecursion (λ s. s.spot.at ≡ h.at.now) ss
    ats [] a = tt
    ats (s ∷ ss) a = (a.0.at, ats ss a.1)

    withins : (ss : List Stop) → AllByRecursion (λ s. IsAt h.at.now s.spot) ss
        → AllByRecursion (λ s. IsSpotWithin coordinate_limit s.spot) ss
    withins [] a = tt
    withins (s ∷ ss) a = (a.0.within, withins ss a.1)

-- ---- strands at stops
of_marks : (es : List LeafEdge) (l : Level) (P : Spot → Type 0) (ms : List Mark) → AllByRecursion P (mark_spots es l ms)
    → AllByRecursion (λ m. P (spot_at es l m)) ms
of_marks es l P [] h = tt
of_marks es l P (m ∷ ms) h = (h.0, of_marks es l P ms h.1)

pub strands_at : (h : Height) (ms : List Mark) (run : Run) (fs : List Flat) (ss : List Spot)
    → AreStopsOf (stretch_spots h ms run fs) ss
    → AllByRecursion (λ m. HasSpot ss (spot_at h.edges.now h.at.now m)) (marks_of h ms run)
strands_at h ms run fs ss a =
    let es : List LeafEdge = h.edges.now in
    let l : Level = h.at.now in
    let lows : List Mark = take (run.below_to - run.below) (drop run.below h.below.now) in
    let ups : List Mark = take (run.above_to - run.above) (drop run.above ms) in
    all_append (λ m. HasSpot ss (spot_at es l m)) lows ups
    (of_marks es l (HasSpot ss) lows (front (HasSpot ss) (mark_spots es l lows) (mark_spots es l ups
    ++ flat_spots l fs)
    a.complete))
    (of_marks es l (HasSpot ss) ups (front (HasSpot ss) (mark_spots es l ups) (flat_spots l fs)
    (back (HasSpot ss) (mark_spots es l lows) (mark_spots es l ups ++ flat_spots l fs) a.complete)))

-- spots are told by names
spots_by : (es : List LeafEdge) (l : Level) (ms ns : List Mark) → names_in ms ≡ names_in ns
    → mark_spots es l ms ≡ mark_spots es l ns
spots_by es l [] [] e = refl
spots_by es l [] (n ∷ ns) e = absurd cc
spots_by es l (m ∷ ms) [] e = absurd cc
spots_by es l (m ∷ ms) (n ∷ ns) e =
    let first : m.name ≡ n.name = cc in
    let rest : names_in ms ≡ names_in ns = cc in
    ap₂ (λ (k : ℕ) (ss : List Spot). spot_on (edge_at es k) l ∷ ss) first (spots_by es l ms ns rest)

pub same_stretch : (h : Height) (ms ns : List Mark) (run : Run) (fs : List Flat) → names_in ms ≡ names_in ns
    → stretch_spots h ms run fs ≡ stretch_spots h ns run fs
same_stretch h ms ns run fs e =
    let es : List LeafEdge = h.edges.now in
    let l : Level = h.at.now in
    let lows : List Mark = take (run.below_to - run.below) (drop run.below h.below.now) in
    ap (λ (ss : List Spot). mark_spots es l lows ++ (ss ++ flat_spots l fs))
    (spots_by es l (take (run.above_to - run.above) (drop run.above ms)) (take (run.above_to - run.above)
    (drop run.above ns))
    (part_names ms ns run.above (run.above_to - run.above) e))

-- with other cursors that stand there, and the same edges
pub with_cursors : (on : Onwards) (passed spots : List Spot) (run : Run) (n m : ℕ) (course : Option Course)
    (ms : List Mark)
    (given given' : List Edge) (c d : Cursors) → given' ≡ given
    → StandOn on.height.edges.now on.shape (bundles_in on.height.front.now) d
    → HasComeOver on passed spots run n m course ms given c → HasComeOver on passed spots run n m course ms given' d
with_cursors on passed spots run n m course ms given given' c d e s h = record {
  places = h.places;
  flat = h.flat;
  at = h.at;
  along = h.along;
  leads = h.leads;
  lower = h.lower;
  upper = h.upper;
  goes_on = h.goes_on;
  kept = h.kept;
  met = h.met;
  named = h.named;
  valued = h.valued;
  edges = subst (λ (es : List Edge). IsPermutation (on.given ++ rounded_edges (pieces_of (all_closed h.places))) es)
      (sym e)
      h.edges;
  stands = s;
}

-- the strands of a part are there still
pub run_there : (h : Height) (old new : List Mark) (run : Run) → length new ≡ length old → IsRunOf h.below.now old run
    → IsRunOf h.below.now new run
run_there h old new run e r = record {
  below = r.below;
  below_to = r.below_to;
  above = r.above;
  above_to = subst (λ (n : ℕ). run.above_to ≤ n) (sym e) r.above_to;
}
