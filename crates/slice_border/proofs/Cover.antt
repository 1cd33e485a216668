-- Where the edges of each leaf are balanced, the values above and below a stretch that no flat edge covers are the
-- same.
use Rattle.std.proofs.Common.{◌≡◌, true, false, List, [], ◌∷◌, arith}
use lib.IntN.{pos}
use lib.Signed.{◌<ℤ◌}
use Rattle.std.specs.Prelude.{None}
use Rattle.std.specs.List.{AllByRecursion, position}
use Rattle.std.proofs.lemmas.Int.{ints}
use Rattle.scad_geom.specs.declared.level.Level.{Level}
use Rattle.scad_geom.specs.declared.level.LeafEdge.{LeafEdge}
use Rattle.scad_geom.specs.declared.shape.Shape.{Shape}
use Rattle.scad_geom.specs.Shape.{is_in_by}
use Rattle.scad_geom.specs.Level.{IsAtMost}
use Rattle.slice_pieces.specs.declared.piece.Spot.{Spot}
use Rattle.slice_pieces.specs.Spots.{point_of}
use Rattle.slice_border.specs.Pieces.{spots_at, IsLeft, GoRight, covers}
use Rattle.scad_geom.specs.Leaves.{AreLeavesBalanced}
use Rattle.slice_border.specs.Cover.{AreChangesCovered, StretchesAreCovered}
use Rattle.slice_border.proofs.Winding.{IsSpotAt, stops_at, spots_are_at}
use Rattle.slice_border.proofs.BalanceEdges.{level_values}
use Rattle.slice_border.proofs.BalanceSpots.{asides}
use Rattle.slice_border.specs.Pieces.{across}
use Rattle.slice_border.proofs.BalanceStops.{IsUpTo, first_up_to, next_up_to, IsBeside, beside}
use Rattle.slice_border.proofs.BalanceFlat.{none_covers, spot_is_at, spot_divisor, not_after, is_after, all_uncovered}

not_past : (s : Spot) → IsAtMost (across s) (across s)
not_past s = omega (arith, ints)

module _ (es : List LeafEdge) (shape : Shape) (balanced : AreLeavesBalanced es) (l : Level) (dl : pos 0 <ℤ l.d) where
  one_stretch : (s t : Spot) → IsSpotAt l s → IsSpotAt l t → IsLeft s t
      → AllByRecursion (IsBeside s t) (spots_at es l) → position (covers s t) es ≡ None
      → is_in_by true true es shape (point_of s) ≡ is_in_by false true es shape (point_of s)
  one_stretch s t hs ht o h c =
      let dp = spot_divisor l s dl hs in
      level_values true (point_of s) dp es shape balanced
      (asides l dl true (point_of s) dp (spot_is_at l s hs) es
      (all_uncovered l dl true (point_of s) dp s t hs ht o (not_after l s s dl hs hs (not_past s))
      (is_after l s t dl hs ht o) es h (none_covers (covers s t) es c)))

  stretches : (s : Spot) (ss : List Spot) → AllByRecursion (IsSpotAt l) (s ∷ ss) → GoRight (s ∷ ss)
      → AllByRecursion (IsUpTo s ss) (spots_at es l) → AreChangesCovered es shape (s ∷ ss)
  stretches s [] hs r h = tt
  stretches s (t ∷ ss) hs r h = (
    one_stretch s t hs.0 hs.1.0 r.0 (beside l s t ss (spots_at es l) hs.1 (spots_are_at es l) r.1 h),
    stretches t ss hs.1 r.1 (next_up_to l s t ss (spots_at es l) hs.0 hs.1.0 (spots_are_at es l) r.0 h),
  )

pub stretches_are_covered : StretchesAreCovered
stretches_are_covered es shape balanced l dl [] a = tt
stretches_are_covered es shape balanced l dl (s ∷ ss) a = stretches es shape balanced l dl s ss
    (stops_at es l (s ∷ ss) a) a.rightwards (first_up_to s ss (spots_at es l) a.complete)
