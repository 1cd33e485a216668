-- The stops of a stretch, as they are passed one after another.
use Rattle.std.specs.Prelude.{◌≡◌, ◌≤◌, ◌-◌, ⊤, ℕ, List, [], ◌∷◌, ◌++◌, None, length, take, drop, filter, All}
use Rattle.std.specs.List.{AllByRecursion, position}
use Rattle.scad_geom.specs.declared.level.LeafEdge.{LeafEdge}
use Rattle.scad_geom.specs.Limits.{coordinate_limit}
use Rattle.slice_pieces.specs.declared.piece.Spot.{Spot}
use Rattle.slice_pieces.specs.Spots.{IsSpotWithin}
use Rattle.slice_border.specs.Pieces.{GoRight, HasSpot, covers}
use Rattle.slice_outlines.specs.declared.mark.Mark.{Mark}
use Rattle.slice_outlines.specs.declared.run.Run.{Run}
use Rattle.slice_border.specs.declared.stop.Stop.{Stop}
use Rattle.slice_outlines.specs.declared.flat.Flat.{Flat}
use Rattle.slice_outlines.specs.declared.height.Height.{Height}
use Rattle.slice_outlines.specs.declared.height.Open.{Open}
use Rattle.slice_outlines.specs.declared.stretch.Along.{Along}
use Rattle.slice_outlines.specs.Marks.{spot_at}
use Rattle.slice_border.specs.Stops.{spots_in}
use Rattle.slice_outlines.specs.Stops.{mark_spots, flat_spots, AllPass}
use Rattle.slice_outlines.specs.Heights.{Onwards, AreInOrder, KeepsMarks, AreValuedIn}
use Rattle.slice_outlines.specs.Along.{HasComeOver, BeginsBy, StartsAfter, goes_on, least, IsWithinRun}

-- stops of a height from left to right
pub record AreStopsAt (h : Height) (ss : List Stop) : Type 0 where
  pub at : All (λ s. s.spot.at ≡ h.at.now) ss
  pub within : All (λ s. IsSpotWithin coordinate_limit s.spot) ss
  pub rightwards : GoRight (spots_in ss)

-- the least of the flat edges that begin by a stop and go on from it is the first edge that covers the way to the next
abbrev pub TellWay : List LeafEdge → List Flat → Stop → Stop → Type 0
TellWay es fs s t = (n : ℕ) → All (BeginsBy s) (take n fs) → StartsAfter s (drop n fs)
    → least (filter (goes_on s) (take n fs)) ≡ position (covers s.spot t.spot) es

abbrev pub TellWays : List LeafEdge → List Flat → List Stop → Type 0
TellWays es fs [] = ⊤
TellWays es fs (s ∷ []) = ⊤
TellWays es fs (s ∷ (t ∷ ss)) = TellWay es fs s t × TellWays es fs (t ∷ ss)

-- the strands of a stretch that are still to come are at the stops to come, and of the flat edges that have begun those
-- that may go on from the next stop are there
pub record Waits (h : Height) (ms : List Mark) (run : Run) (fs : List Flat) (later : List Stop)
    (a : Along) : Type 0 where
  pub run_is : a.run ≡ run
  pub within : IsWithinRun h ms a
  pub begun : a.begun ≤ length fs
  pub order : AreInOrder h ms
  pub passing : AllPass h.edges.now h.at.now ms
  pub below : AllByRecursion (λ m. HasSpot (spots_in later) (spot_at h.edges.now h.at.now m))
      (take (a.run.below_to - a.below) (drop a.below h.below.now))
  pub above : AllByRecursion (λ m. HasSpot (spots_in later) (spot_at h.edges.now h.at.now m))
      (take (a.run.above_to - a.above) (drop a.above ms))
  pub live : (s : Stop) (rest : List Stop) → later ≡ s ∷ rest
      → (filter (goes_on s) a.live.items ≡ filter (goes_on s) (take a.begun fs)) × All (BeginsBy s) (take a.begun fs)

-- where the strands of a part of a height and the ends of flat edges are
abbrev pub stretch_spots : Height → List Mark → Run → List Flat → List Spot
stretch_spots h ms run fs = mark_spots h.edges.now h.at.now (take (run.below_to - run.below)
    (drop run.below h.below.now))
    ++ (mark_spots h.edges.now h.at.now (take (run.above_to - run.above) (drop run.above ms)) ++ flat_spots h.at.now fs)

-- the code has come to a stretch, once the values of its strands are found
abbrev pub HasReachedStops : Onwards → List Spot → List Spot → Run → Open → Type 0
HasReachedStops on passed spots run o = (ms : List Mark) → KeepsMarks run o.marks.items ms
    → AreValuedIn on.height on.shape run ms
    → HasComeOver on passed spots run run.below run.above None ms o.given.items o.cursors
