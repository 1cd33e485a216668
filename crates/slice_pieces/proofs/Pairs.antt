-- Lists of pieces: what holds of their ends, and merged pieces in another order.
use Rattle.std.proofs.Common.{◌≡◌, ℕ, List, [], ◌∷◌, All, ◌∙◌}
use Rattle.std.specs.Prelude.{IsPermutation}
use Rattle.std.specs.List.{AllByRecursion}
use Rattle.std.proofs.lemmas.List.Elements.{All-from_recursion, recursion_from_All}
use Rattle.std.proofs.lemmas.List.Sorted.{IsPermutation-sym, IsPermutation-trans}
use Rattle.scad_geom.specs.Point.{Point}
use Rattle.scad_geom.specs.Balance.{starts_at, ends_at}
use Rattle.slice_pieces.specs.declared.piece.Spot.{Spot}
use Rattle.slice_pieces.specs.declared.piece.Piece.{Piece}
use Rattle.slice_pieces.specs.Spots.{point_of}
use Rattle.slice_pieces.specs.Pieces.{ends_of, ways_of}
use Rattle.slice_pieces.specs.Merging.{MeetAlone, AreMerged, all_joined, two_join}
use Rattle.slice_pieces.proofs.ChainEnds.{starts_permuted, ends_permuted}

-- ---- what holds of all ends holds of both ends of each piece
both_ends : (P : Spot → Type 0) (qs : List Piece) → AllByRecursion P (ends_of qs)
    → AllByRecursion (λ q. P q.from × P q.to) qs
both_ends P [] h = tt
both_ends P (q ∷ qs) h = ((h.0, h.1.0), both_ends P qs h.1.1)

each_end : (P : Spot → Type 0) (qs : List Piece) → AllByRecursion (λ q. P q.from × P q.to) qs
    → AllByRecursion P (ends_of qs)
each_end P [] h = tt
each_end P (q ∷ qs) h = (h.0.0, (h.0.1, each_end P qs h.1))

pub of_pieces : (P : Spot → Type 0) (qs : List Piece) → All P (ends_of qs) → All (λ q. P q.from × P q.to) qs
of_pieces P qs h = All-from_recursion (λ q. P q.from × P q.to) qs
    (both_ends P qs (recursion_from_All P (ends_of qs) h))

pub of_ends : (P : Spot → Type 0) (qs : List Piece) → All (λ q. P q.from × P q.to) qs → All P (ends_of qs)
of_ends P qs h = All-from_recursion P (ends_of qs) (each_end P qs (recursion_from_All (λ q. P q.from × P q.to) qs h))

-- ---- merged pieces of the same pieces in another order
starts_one : (p : Point) (qs rs : List Piece) (n : ℕ) → IsPermutation qs rs → starts_at p (ways_of rs) ≡ n
    → starts_at p (ways_of qs) ≡ n
starts_one p qs rs n m h = starts_permuted p qs rs m ∙ h

ends_one : (p : Point) (qs rs : List Piece) (n : ℕ) → IsPermutation qs rs → ends_at p (ways_of rs) ≡ n
    → ends_at p (ways_of qs) ≡ n
ends_one p qs rs n m h = ends_permuted p qs rs m ∙ h

meet_permuted : (qs rs : List Piece) (f s : Piece) (others : List Piece) → IsPermutation qs rs
    → MeetAlone rs f s others → MeetAlone qs f s others
meet_permuted qs rs f s others p m = record {
  two = IsPermutation-trans qs rs (f ∷ (s ∷ others)) p m.two;
  name = m.name;
  meet = m.meet;
  one_ends = ends_one (point_of f.to) qs rs 1 p m.one_ends;
  one_starts = starts_one (point_of f.to) qs rs 1 p m.one_starts;
}

pub permuted_merged : (qs rs merged : List Piece) → IsPermutation qs rs → AreMerged qs merged
    → AreMerged rs merged
permuted_merged qs rs merged p (all_joined none m) =
    all_joined (λ f s others t. none f s others (meet_permuted qs rs f s others p t))
    (IsPermutation-trans rs qs merged (IsPermutation-sym qs rs p) m)
permuted_merged qs rs merged p (two_join f s others m a)
    = two_join f s others (meet_permuted rs qs f s others (IsPermutation-sym qs rs p) m) a
