-- The ends of pieces in order: those at one spot stand side by side.
use Rattle.std.specs.Prelude.{◌≡◌, Bool, true, false, cond, List, [], ◌∷◌, map, ℕ, zero, suc, ◌<◌, pos, ◌*ℤ◌, length, slice_index_or, count_by, All}
use Rattle.std.specs.List.Sorted.{IsPermutation, IsSorted}
use Rattle.std.specs.Ordering.{int_cmp, ordering_then, is_eq}
use Rattle.std.specs.declared.cmp.Ordering.{Ordering}
use Rattle.slice_pieces.specs.declared.piece.Spot.{Spot}
use Rattle.slice_pieces.specs.declared.piece.Piece.{Piece}
use Rattle.slice_snap.specs.declared.end.End.{End}
use Rattle.slice_snap.specs.Chains.{piece_at}

-- ---- the order
-- spots by their levels' numbers, then from left to right
abbrev pub spot_cmp : Spot → Spot → Ordering
spot_cmp s t = ordering_then (ordering_then (int_cmp s.at.n t.at.n) (int_cmp s.at.d t.at.d))
    (int_cmp (s.x *ℤ pos t.run) (t.x *ℤ pos s.run))

abbrev pub end_cmp : End → End → Ordering
end_cmp e f = spot_cmp e.spot f.spot

-- ---- ends and the pieces that have them
-- where a piece starts, or where it ends
abbrev pub end_of : Bool → Piece → Spot
end_of start q = cond start q.from q.to

abbrev pub spots_in : List End → List Spot
spots_in ends = map (λ e. e.spot) ends

-- the end of the piece at its place
pub record IsEndOf (start : Bool) (pieces : List Piece) (e : End) : Type 0 where
  pub there : e.place < length pieces
  pub is : e.spot ≡ end_of start (piece_at pieces e.place)

-- the starts of pieces, or their ends, in whatever order
pub record AreEndsOf (start : Bool) (pieces : List Piece) (ends : List End) : Type 0 where
  pub all : IsPermutation (map (end_of start) pieces) (spots_in ends)
  pub each : All (IsEndOf start pieces) ends

pub record AreInOrder (start : Bool) (pieces : List Piece) (ends : List End) : Type 0 where
  pub of : AreEndsOf start pieces ends
  pub sorted : IsSorted end_cmp ends

-- ---- the ends at a spot
abbrev pub ties : End → End → Bool
ties at e = is_eq (end_cmp at e)

-- whether a test holds of what stands at a place of a list
abbrev pub holds_at : {X : Type 0} → (X → Bool) → List X → ℕ → Bool
holds_at t [] k = false
holds_at t (x ∷ xs) zero = t x
holds_at t (x ∷ xs) (suc k) = holds_at t xs k

-- how many tie with it
abbrev pub times_at : End → List End → ℕ
times_at at ends = count_by (ties at) ends

-- one alone ties with it, that of the piece at a place
pub record IsAlone (at : End) (ends : List End) (piece : ℕ) : Type 0 where
  pub one : times_at at ends ≡ 1
  pub k : ℕ
  pub there : k < length ends
  pub is : (d : End) → (slice_index_or ends k d).place ≡ piece
  pub tied : (d : End) → ties at (slice_index_or ends k d) ≡ true
