-- Strands that lie neither to the left nor to the right of a stop are at it, and round as it does.
use Rattle.std.proofs.Common.{◌≡◌, ℕ, ◌-◌, ◌<◌, ◌≤◌, true, List, get_or, take, drop, sym, subst, arith}
use lib.IntN.{ℤ, pos, ◌*ℤ◌}
use lib.Signed.{◌<ℤ◌}
use Rattle.std.specs.List.{All}
use Rattle.std.proofs.lemmas.Int.{ints}
use Rattle.std.proofs.lemmas.List.{take-take}
use Rattle.std.proofs.lemmas.List.Elements.{All-from_recursion, All-append, All-take, All-drop}
use Rattle.scad_base.proofs.Products.{positive_product}
use Rattle.scad_geom.specs.declared.level.Level.{Level}
use Rattle.scad_geom.specs.declared.level.LeafEdge.{LeafEdge}
use Rattle.winding_laws.specs.Edges.{rounded}
use Rattle.winding_laws.specs.Nearness.{IsPoint}
use Rattle.slice_bundles.specs.Bundles.{edge_at}
use Rattle.slice_pieces.specs.declared.piece.Spot.{Spot}
use Rattle.slice_pieces.specs.Spots.{point_of}
use Rattle.slice_border.specs.Pieces.{passes_at, IsLeft, IsSameAcross}
use Rattle.slice_border.proofs.Winding.{IsSpotAt}
use Rattle.sweep_laws.proofs.Spots.{spot_at as edge_spot, same_place}
use Rattle.sweep_laws.proofs.Edges.{same_spots_round_alike}
use Rattle.slice_outlines.specs.declared.mark.Mark.{Mark}
use Rattle.slice_outlines.specs.declared.run.Run.{Run}
use Rattle.slice_border.specs.declared.stop.Stop.{Stop}
use Rattle.slice_outlines.specs.declared.height.Height.{Height}
use Rattle.slice_outlines.specs.declared.stretch.Along.{Along}
use Rattle.slice_outlines.specs.Marks.{spot_at}
use Rattle.slice_outlines.specs.Stops.{AllPass}
use Rattle.slice_outlines.specs.Heights.{MeetAcross, marks_of}
use Rattle.slice_outlines.specs.Along.{LiesLeftOf, LiesRightOf, IsNextStop, RoundAlike}
use Rattle.slice_outlines.proofs.EndPoints.{passes_then_rises}
use Rattle.slice_outlines.proofs.StrandSearch.{by_places}

neither : (a b : ℤ) → (a <ℤ b → ⊥) → (b <ℤ a → ⊥) → a ≡ b
neither a b h k = grind (arith, ints)

runs_up : (n : ℕ) → 0 < n → pos 0 <ℤ pos n
runs_up n h = omega (arith, ints)

one_across : (es : List LeafEdge) (l : Level) (x : Mark) (s : Spot) → (IsLeft (spot_at es l x) s → ⊥)
    → (IsLeft s (spot_at es l x) → ⊥) → IsSameAcross (spot_at es l x) s
one_across es l x s left right =
    neither ((spot_at es l x).x *ℤ pos s.run) (s.x *ℤ pos (spot_at es l x).run) left right

one_round : (es : List LeafEdge) (l : Level) (x : Mark) (s : Spot) → pos 0 <ℤ l.d → s.at ≡ l → 0 < s.run
    → passes_at (edge_at es x.name) l ≡ true → IsSameAcross (spot_at es l x) s
    → rounded (point_of (spot_at es l x)) ≡ rounded (point_of s)
one_round es l x s d at r p same =
    let t : Spot = spot_at es l x in
    let ts : IsSpotAt l t = edge_spot (edge_at es x.name) l (passes_then_rises (edge_at es x.name) l p) in
    let ss : IsSpotAt l s = record { at = at; runs = runs_up s.run r } in
    let tp : IsPoint (point_of t) = positive_product l.d (pos t.run) d ts.runs in
    let sp : IsPoint (point_of s) = positive_product s.at.d (pos s.run) (subst (λ (k : Level). pos 0 <ℤ k.d) (sym at) d)
    ss.runs in
    sym (same_spots_round_alike s t sp tp (same_place l s t ss ts same))

all_front : (P : Mark → Type 0) (ms : List Mark) (n m : ℕ) → n ≤ m → All P (take m ms) → All P (take n ms)
all_front P ms n m h a = subst (All P) (take-take n m ms h) (All-take P n (take m ms) a)

module _ (h : Height) (ms : List Mark) (a : Along) (run : Run) (s : Stop) (at : s.spot.at ≡ h.at.now)
    (eb : run.below ≡ a.below) (ea : run.above ≡ a.above) (bt : run.below_to ≤ a.run.below_to)
    (ab : run.above_to ≤ a.run.above_to) (pb : AllPass h.edges.now h.at.now h.below.now)
    (pa : AllPass h.edges.now h.at.now ms) (next : IsNextStop h ms a s)
    (by : All (λ m. LiesRightOf h s m → ⊥) (marks_of h ms run)) where
  abbrev es : List LeafEdge
  es = h.edges.now

  abbrev l : Level
  l = h.at.now

  abbrev lows : List Mark
  lows = take (run.below_to - run.below) (drop run.below h.below.now)

  abbrev ups : List Mark
  ups = take (run.above_to - run.above) (drop run.above ms)

  not_left : All (λ m. LiesLeftOf h s m → ⊥) (marks_of h ms run)
  not_left =
      let L : Mark → Type 0 = λ m. LiesLeftOf h s m → ⊥ in
      let low : All L (take (a.run.below_to - run.below) (drop run.below h.below.now)) =
      subst (λ (i : ℕ). All L (take (a.run.below_to - i) (drop i h.below.now))) (sym eb)
      (All-from_recursion L (take (a.run.below_to - a.below) (drop a.below h.below.now)) next.below) in
      let up : All L (take (a.run.above_to - run.above) (drop run.above ms)) =
      subst (λ (i : ℕ). All L (take (a.run.above_to - i) (drop i ms))) (sym ea)
      (All-from_recursion L (take (a.run.above_to - a.above) (drop a.above ms)) next.above) in
      All-append L lows ups
      (all_front L (drop run.below h.below.now) (run.below_to - run.below) (a.run.below_to - run.below) (omega
      (arith, bt)) low)
      (all_front L (drop run.above ms) (run.above_to - run.above) (a.run.above_to - run.above) (omega (arith, ab)) up)

  pub meet_across : MeetAcross h ms run s.spot
  meet_across = by_places (λ m. IsSameAcross (spot_at es l m) s.spot) (marks_of h ms run)
      (λ k d q. one_across es l (get_or (marks_of h ms run) k d) s.spot (not_left k d q) (by k d q))

  pub round_alike : RoundAlike h ms run s.spot
  round_alike =
      let P : Mark → Type 0 = λ m. passes_at (edge_at es m.name) l ≡ true in
      let pass : All P (marks_of h ms run) = All-append P lows ups
      (All-take P (run.below_to - run.below) (drop run.below h.below.now) (All-drop P run.below h.below.now pb))
      (All-take P (run.above_to - run.above) (drop run.above ms) (All-drop P run.above ms pa)) in
      by_places (λ m. rounded (point_of (spot_at es l m)) ≡ rounded (point_of s.spot)) (marks_of h ms run)
      (λ k d q. one_round es l (get_or (marks_of h ms run) k d) s.spot h.at_within.positive at s.runs (pass k d q)
      (one_across es l (get_or (marks_of h ms run) k d) s.spot (not_left k d q) (by k d q)))
