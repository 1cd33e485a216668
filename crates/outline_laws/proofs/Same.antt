-- Spots and pieces that are the same: both relations are equivalences, and the same ends round to one.
use Rattle.std.proofs.Common.{◌≡◌, List, [], ◌∷◌, map, refl, sym, ap, ap₂, ◌∙◌}
use Rattle.std.specs.Prelude.{filter}
use Rattle.scad_geom.specs.declared.point.Edge.{Edge}
use Rattle.scad_geom.proofs.Balance.{same_place-is, same_whole}
use Rattle.winding_laws.specs.Edges.{rounded, rounded_edge, has_length}
use Rattle.winding_laws.proofs.Rounding.{rounded_same}
use Rattle.winding_laws.proofs.Sameness.{are_same, same_by, are_same_turned, are_same_on}
use Rattle.slice_pieces.specs.declared.piece.Spot.{Spot}
use Rattle.slice_pieces.specs.declared.piece.Piece.{Piece}
use Rattle.slice_pieces.specs.Spots.{point_of}
use Rattle.slice_pieces.specs.Pieces.{way_of, ways_of}
use Rattle.slice_pieces.specs.Rounding.{rounded_edges}
use Rattle.outline_laws.specs.Sameness.{AreSameSpot, AreSamePiece, ArePiecesSame}
use Rattle.outline_laws.proofs.Zips.{zip_turned, zip_chain}

pub spot_turned : (s t : Spot) → AreSameSpot s t → AreSameSpot t s
spot_turned s t h = record {
  first = h.second;
  second = h.first;
  same = same_by (point_of t) (point_of s)
      (are_same_turned (point_of s) (point_of t) (are_same (point_of s) (point_of t) h.same));
}

pub spot_chain : (s t u : Spot) → AreSameSpot s t → AreSameSpot t u → AreSameSpot s u
spot_chain s t u h k = record {
  first = h.first;
  second = k.second;
  same = same_by (point_of s) (point_of u)
      (are_same_on (point_of s) (point_of t) (point_of u) h.second (are_same (point_of s) (point_of t) h.same)
      (are_same (point_of t) (point_of u) k.same));
}

pub piece_turned : (q r : Piece) → AreSamePiece q r → AreSamePiece r q
piece_turned q r h = record {
  name = sym h.name;
  from = spot_turned q.from r.from h.from;
  to = spot_turned q.to r.to
      h.to;
}

pub piece_chain : (q r p : Piece) → AreSamePiece q r → AreSamePiece r p → AreSamePiece q p
piece_chain q r p h k = record {
  name = h.name ∙ k.name;
  from = spot_chain q.from r.from p.from h.from k.from;
  to =
      spot_chain q.to r.to p.to h.to k.to;
}

pub pieces_turned : (qs rs : List Piece) → ArePiecesSame qs rs → ArePiecesSame rs qs
pieces_turned qs rs h = zip_turned AreSamePiece AreSamePiece piece_turned qs rs h

pub pieces_chain : (qs rs ps : List Piece) → ArePiecesSame qs rs → ArePiecesSame rs ps → ArePiecesSame qs ps
pieces_chain qs rs ps h k = zip_chain AreSamePiece piece_chain qs rs ps h k

-- ---- rounding
rounded_spot : (s t : Spot) → AreSameSpot s t → rounded (point_of s) ≡ rounded (point_of t)
rounded_spot s t h =
    same_place-is (rounded (point_of s)) (rounded (point_of t))
    (sym (same_whole (rounded (point_of s)) (rounded (point_of t))) ∙ rounded_same (point_of s) (point_of t) h.first
    h.second h.same)

rounded_piece : (q r : Piece) → AreSamePiece q r → rounded_edge (way_of q) ≡ rounded_edge (way_of r)
rounded_piece q r h =
    let a = rounded_spot q.from r.from h.from in
    let b = rounded_spot q.to r.to h.to in
    λ i. record { a = a i; b = b i }

all_rounded : (qs rs : List Piece) → ArePiecesSame qs rs → map rounded_edge (ways_of qs) ≡ map rounded_edge (ways_of rs)
all_rounded [] [] h = refl
all_rounded [] (r ∷ rs) h = absurd h
all_rounded (q ∷ qs) [] h = absurd h
all_rounded (q ∷ qs) (r ∷ rs) h = ap₂ (λ (e : Edge) (es : List Edge). e ∷ es) (rounded_piece q r h.0)
    (all_rounded qs rs h.1)

pub edges_same : (qs rs : List Piece) → ArePiecesSame qs rs → rounded_edges qs ≡ rounded_edges rs
edges_same qs rs h = ap (filter has_length) (all_rounded qs rs h)
