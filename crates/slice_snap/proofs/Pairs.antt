-- Pieces whose ends can be compared, and a pair of pieces that is joined.
use Rattle.std.proofs.Common.{◌≡◌, ℕ, ◌<◌, List, ◌∷◌, All, length, get_or, sym, subst}
use Rattle.std.specs.Prelude.{IsPermutation}
use Rattle.std.proofs.lemmas.List.Elements.{All-cons, All-head, All-tail, All-weaker, All-get_or}
use Rattle.std.proofs.lemmas.List.Sorted.{All-permutation, IsPermutation-sym}
use Rattle.scad_geom.specs.Limits.{coordinate_limit}
use Rattle.slice_pieces.specs.declared.piece.Spot.{Spot}
use Rattle.slice_pieces.specs.declared.piece.Piece.{Piece}
use Rattle.slice_pieces.specs.Pieces.{ends_of, HaveOneLevel, IsPieceWithin}
use Rattle.slice_pieces.specs.Merging.{joined, MeetAlone}
use Rattle.slice_pieces.proofs.Pairs.{of_pieces, of_ends}
use Rattle.slice_snap.specs.Joints.{AreOfOneLevel, IsComparable}

-- ---- pieces and ends that can be compared
pub comparable : (pieces : List Piece) (i : ℕ) (d : Piece) → i < length pieces
    → All (IsPieceWithin coordinate_limit) pieces → HaveOneLevel pieces
    → All (IsComparable (get_or pieces i d).to) pieces
comparable pieces i d l within levels =
    let q : Piece = get_or pieces i d in
    let own = All-get_or (λ p. All (AreOfOneLevel p.from) (ends_of pieces) × All (AreOfOneLevel p.to) (ends_of pieces)) pieces i d l
    (of_pieces (λ s. All (AreOfOneLevel s) (ends_of pieces)) pieces levels.each) in
    let one = of_pieces (AreOfOneLevel q.to) pieces own.1 in
    λ k e m. record { within = within k e m; from = (one k e m).0; to = (one k e m).1 }

-- ---- a pair is joined
module _ (old new : List Piece) (f s : Piece) (others : List Piece) (m : MeetAlone old f s others) (r : IsPermutation new (joined f s ∷ others)) where
  kept : (P : Piece → Type 0) → All P old → P f × P s × All P others
  kept P h =
      let all : All P (f ∷ (s ∷ others)) = All-permutation P old (f ∷ (s ∷ others)) m.two h in (
        All-head P f (s ∷ others) all,
        All-head P s others (All-tail P f (s ∷ others) all),
        All-tail P s others (All-tail P f (s ∷ others) all),
      )

  renewed : (P : Piece → Type 0) → P (joined f s) → All P others → All P new
  renewed P one rest = All-permutation P (joined f s ∷ others) new (IsPermutation-sym new (joined f s ∷ others) r)
      (All-cons P (joined f s) others one rest)

  kept_ends : (P : Spot → Type 0) → All P (ends_of old) → All P (ends_of new)
  kept_ends P h =
      let k = kept (λ q. P q.from × P q.to) (of_pieces P old h) in
      of_ends P new (renewed (λ q. P q.from × P q.to) (k.0.0, k.1.1) k.2)

  pub kept_within : All (IsPieceWithin coordinate_limit) old → All (IsPieceWithin coordinate_limit) new
  kept_within h =
      let k = kept (IsPieceWithin coordinate_limit) h in
      renewed (IsPieceWithin coordinate_limit) (record { from = k.0.from; to = k.1.to }) k.2

  kept_levels : HaveOneLevel old → HaveOneLevel new
  kept_levels h = record {
    each = All-weaker (λ s. All (AreOfOneLevel s) (ends_of old)) (λ s. All (AreOfOneLevel s) (ends_of new))
        (λ s k. kept_ends (AreOfOneLevel s) k) (ends_of new)
        (kept_ends (λ s. All (AreOfOneLevel s) (ends_of old)) h.each);
  }

-- ---- by what the calls give
pub comparable_seen : (pieces : List Piece) (i : ℕ) (q : Piece) → All (IsPieceWithin coordinate_limit) pieces
    → HaveOneLevel pieces → q ≡ get_or pieces i q → i < length pieces → All (IsComparable q.to) pieces
comparable_seen pieces i q within levels at l
    = subst (λ (p : Piece). All (IsComparable p.to) pieces) (sym at) (comparable pieces i q l within levels)
