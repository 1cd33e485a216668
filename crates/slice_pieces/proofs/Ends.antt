-- What holds of both ends of each piece.
use Rattle.std.proofs.Common.{◌≡◌, ℕ, List, [], ◌∷◌, ◌++◌, refl, sym, ap, subst}
use Rattle.std.specs.List.{AllByRecursion}
use Rattle.scad_base.proofs.Lists.{AllByRecursion-append}
use Rattle.slice_pieces.specs.declared.piece.Spot.{Spot}
use Rattle.slice_pieces.specs.declared.piece.Piece.{Piece}
use Rattle.slice_pieces.specs.Spots.{IsSpotWithin}
use Rattle.slice_pieces.specs.Pieces.{ends_of, IsPieceWithin}

ends-append : (qs rs : List Piece) → ends_of (qs ++ rs) ≡ ends_of qs ++ ends_of rs
ends-append [] rs = refl
ends-append (q ∷ qs) rs = ap (λ (ss : List Spot). q.from ∷ (q.to ∷ ss)) (ends-append qs rs)

pub joined : (P : Spot → Type 0) (qs rs : List Piece) → AllByRecursion P (ends_of qs)
    → AllByRecursion P (ends_of rs) → AllByRecursion P (ends_of (qs ++ rs))
joined P qs rs h k = subst (AllByRecursion P) (sym (ends-append qs rs))
    (AllByRecursion-append P (ends_of qs) (ends_of rs) h k)

pub from_ends : (limit : ℕ) (qs : List Piece) → AllByRecursion (IsSpotWithin limit) (ends_of qs)
    → AllByRecursion (IsPieceWithin limit) qs
from_ends limit [] h = tt
from_ends limit (q ∷ qs) h = (record { from = h.0; to = h.1.0 }, from_ends limit qs h.1.1)
