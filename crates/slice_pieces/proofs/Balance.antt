-- Merging, rounding and cancelling keep as many starts as ends at each point.
use Rattle.std.proofs.Common.{◌≡◌, ℕ, List, ◌∷◌, All, sym, subst}
use Rattle.std.specs.Prelude.{map}
use Rattle.std.proofs.lemmas.List.Elements.{All-cons, All-head, All-tail, All-map, All-weaker}
use Rattle.std.proofs.lemmas.List.Sorted.{All-permutation, IsPermutation-map}
use Rattle.scad_geom.specs.declared.point.Edge.{Edge}
use Rattle.scad_geom.specs.Segment.{segments}
use Rattle.scad_geom.specs.Balance.{IsBalanced}
use Rattle.winding_laws.specs.Nearness.{IsProper}
use Rattle.winding_laws.specs.Edges.{rounded_edge}
use Rattle.winding_laws.proofs.Order.{order_keeps_balance}
use Rattle.winding_laws.proofs.Joining.{joining_keeps_balance}
use Rattle.winding_laws.proofs.Rounding.{rounding_keeps_balance}
use Rattle.winding_laws.proofs.Lengths.{lengths_keep_balance}
use Rattle.winding_laws.proofs.Cancelling.{cancelling_keeps_balance}
use Rattle.slice_pieces.specs.declared.piece.Piece.{Piece}
use Rattle.slice_pieces.specs.Pieces.{way_of, ways_of, IsPieceWithin, ArePiecesBalanced}
use Rattle.slice_pieces.specs.Merging.{joined, AreMerged, all_joined, two_join}
use Rattle.slice_pieces.specs.Rounding.{rounded_edges}
use Rattle.slice_pieces.specs.Cancelling.{AreCancelled}
use Rattle.slice_pieces.proofs.SameSpots.{divisor_above}

pub proper_within : (limit : ℕ) (q : Piece) → IsPieceWithin limit q → IsProper (way_of q)
proper_within limit q w = record { from = divisor_above limit q.from w.from; to = divisor_above limit q.to w.to }

-- ---- merging
pub merged_balanced : (qs rs : List Piece) → AreMerged qs rs → All (λ q. IsProper (way_of q)) qs
    → ArePiecesBalanced qs → ArePiecesBalanced rs
merged_balanced qs rs (all_joined none m) proper b
    = order_keeps_balance (ways_of qs) (ways_of rs) (IsPermutation-map way_of qs rs m) b
merged_balanced qs rs (two_join f s others m a) proper b =
    let P : Piece → Type 0 = λ q. IsProper (way_of q) in
    let all : All P (f ∷ (s ∷ others)) = All-permutation P qs (f ∷ (s ∷ others)) m.two proper in
    let one : P f = All-head P f (s ∷ others) all in
    let two : P s = All-head P s others (All-tail P f (s ∷ others) all) in
    let rest : All P others = All-tail P s others (All-tail P f (s ∷ others) all) in
    let apart : ArePiecesBalanced (f ∷ (s ∷ others)) = order_keeps_balance (ways_of qs) (ways_of (f ∷ (s ∷ others))) (IsPermutation-map way_of qs (f ∷ (s ∷ others)) m.two) b in
    merged_balanced (joined f s ∷ others) rs a
    (All-cons P (joined f s) others (record { from = one.from; to = two.to }) rest)
    (joining_keeps_balance (way_of f) (way_of s) (ways_of others) one two m.meet apart)

pub merging_keeps_balance : (limit : ℕ) (qs rs : List Piece) → All (IsPieceWithin limit) qs → AreMerged qs rs
    → ArePiecesBalanced qs → ArePiecesBalanced rs
merging_keeps_balance limit qs rs within a b
    = merged_balanced qs rs a (All-weaker (IsPieceWithin limit) (λ q. IsProper (way_of q)) (proper_within limit) qs
    within) b

-- ---- rounding
pub edges_balanced : (limit : ℕ) (qs : List Piece) (es : List Edge) → All (IsPieceWithin limit) qs
    → es ≡ rounded_edges qs → ArePiecesBalanced qs → IsBalanced (segments es)
edges_balanced limit qs es within e b =
    let proper : All IsProper (ways_of qs) = All-map IsProper way_of qs (All-weaker (IsPieceWithin limit) (λ q. IsProper (way_of q)) (proper_within limit) qs within) in
    subst (λ (fs : List Edge). IsBalanced (segments fs)) (sym e)
    (lengths_keep_balance (map rounded_edge (ways_of qs)) (rounding_keeps_balance (ways_of qs) proper b))

-- ---- cancelling
pub left_balanced : (es left : List Edge) → AreCancelled es left → IsBalanced (segments es)
    → IsBalanced (segments left)
left_balanced es left c b = cancelling_keeps_balance es left c.pairs c.taken b
