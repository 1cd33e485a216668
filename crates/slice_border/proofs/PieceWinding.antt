-- Merged pieces stay on the edges that they are named by, and wind as the pieces that they are made of.
use Rattle.std.proofs.Common.{◌≡◌, ℕ, ◌<◌, Bool, List, [], ◌∷◌, length, refl, sym, ap, ◌∙◌, subst, arith}
use lib.IntN.{ℤ, pos, ◌+ℤ◌, ◌*ℤ◌}
use lib.Signed.{◌<ℤ◌}
use Rattle.std.specs.Prelude.{All}
use Rattle.std.proofs.lemmas.Int.{ints}
use Rattle.std.proofs.lemmas.List.Elements.{All-cons, All-head, All-tail}
use Rattle.std.proofs.lemmas.List.Sorted.{All-permutation, IsPermutation-map}
use Rattle.scad_geom.specs.declared.point.Edge.{Edge}
use Rattle.scad_geom.specs.declared.level.LeafEdge.{LeafEdge}
use Rattle.scad_geom.specs.Point.{Point, whole}
use Rattle.scad_geom.proofs.Ring.{ring, ◌⊗◌, v0, v1}
use Rattle.scad_geom.proofs.Signs.{pos_left}
use Rattle.winding_laws.specs.Nearness.{IsProper}
use Rattle.winding_laws.specs.Points.{IsOn}
use Rattle.winding_laws.proofs.Amid.{three_on_line}
use Rattle.winding_laws.proofs.Order.{order_keeps_winding}
use Rattle.winding_laws.proofs.Joining.{joining_keeps_winding}
use Rattle.slice_bundles.specs.Bundles.{edge_at}
use Rattle.slice_pieces.specs.declared.piece.Piece.{Piece}
use Rattle.slice_pieces.specs.Spots.{point_of}
use Rattle.slice_pieces.specs.Pieces.{way_of, ways_of, wind_pieces}
use Rattle.slice_pieces.specs.Merging.{joined, MeetAlone, AreMerged, all_joined, two_join}
use Rattle.slice_border.specs.OnEdges.{EndsLieOn}

-- a piece's name is there, and both its ends are points of the edge of the name
pub record IsPlaced (es : List LeafEdge) (q : Piece) : Type 0 where
  pub there : q.edge < length es
  pub on : EndsLieOn (edge_at es q.edge) q

on_positive : (a b : Point) → a.d ≡ pos 1 → b.d ≡ pos 1 → (p : Point) → IsOn a b p → pos 0 <ℤ p.d
on_positive a b ha hb p h = pos_left p.d h.k h.positive (positive h.k h.s h.t p.d h.some
    (h.d ∙ ap (λ (z : ℤ). h.s *ℤ z +ℤ h.t *ℤ b.d) ha
    ∙ ap (λ (z : ℤ). h.s *ℤ pos 1 +ℤ h.t *ℤ z) hb))
  where
    positive : (k s t d : ℤ) → pos 0 <ℤ (s +ℤ t) → k *ℤ d ≡ s *ℤ pos 1 +ℤ t *ℤ pos 1
        → pos 0 <ℤ (d *ℤ k)
    positive k s t d o e =
        let same : d *ℤ k ≡ k *ℤ d = ring (d ∷ k ∷ []) (v0 ⊗ v1) (v1 ⊗ v0) refl in
        omega (arith, ints)

pub placed_proper : (es : List LeafEdge) (q : Piece) → IsPlaced es q → IsProper (way_of q)
placed_proper es q h =
    let e : Edge = edge_at es q.edge in
    record {
      from = on_positive (whole e.a) (whole e.b) refl refl (point_of q.from) h.on.from;
      to =
          on_positive (whole e.a) (whole e.b) refl refl (point_of q.to) h.on.to;
    }

module _ (es : List LeafEdge) where
  abbrev ArePlaced : List Piece → Type 0
  ArePlaced qs = All (IsPlaced es) qs

  -- of two pieces on one edge
  module _ (pieces : List Piece) (first second : Piece) (others : List Piece) (m : MeetAlone pieces first second others) (h : ArePlaced pieces) where
    front : ArePlaced (first ∷ (second ∷ others))
    front = All-permutation (IsPlaced es) pieces (first ∷ (second ∷ others)) m.two h

    pub one : IsPlaced es first
    one = All-head (IsPlaced es) first (second ∷ others) front

    behind : ArePlaced (second ∷ others)
    behind = All-tail (IsPlaced es) first (second ∷ others) front

    pub two : IsPlaced es second
    two = All-head (IsPlaced es) second others behind

    pub second_on : EndsLieOn (edge_at es first.edge) second
    second_on = subst (λ (k : ℕ). EndsLieOn (edge_at es k) second) (sym m.name) two.on

    pub joined_placed : ArePlaced (joined first second ∷ others)
    joined_placed = All-cons (IsPlaced es) (joined first second) others
        (record { there = one.there; on = record { from = one.on.from; to = second_on.to } })
        (All-tail (IsPlaced es) second others behind)

    pub joined_winds : (above right : Bool) (q : Point) → pos 0 <ℤ q.d
        → wind_pieces above right q (joined first second ∷ others) ≡ wind_pieces above right q pieces
    joined_winds above right q d =
        let e : Edge = edge_at es first.edge in
        joining_keeps_winding (way_of first) (way_of second) (ways_of others) (placed_proper es first one)
        (placed_proper es second two) m.meet
        (three_on_line (whole e.a) (whole e.b) (point_of first.from) (point_of first.to) (point_of second.to)
        one.on.from one.on.to second_on.to) above right q d
        ∙ order_keeps_winding (ways_of pieces) (ways_of (first ∷ (second ∷ others)))
        (IsPermutation-map way_of pieces
        (first ∷ (second ∷ others)) m.two) above right q

  pub merged_placed : (pieces merged : List Piece) → AreMerged pieces merged → ArePlaced pieces → ArePlaced merged
  merged_placed pieces merged (all_joined none m) h = All-permutation (IsPlaced es) pieces merged m h
  merged_placed pieces merged (two_join first second others m rest) h = merged_placed (joined first second ∷ others)
      merged rest (joined_placed pieces first second others m h)

  pub merged_wind : (above right : Bool) (q : Point) → pos 0 <ℤ q.d → (pieces merged : List Piece)
      → AreMerged pieces merged → ArePlaced pieces
      → wind_pieces above right q merged ≡ wind_pieces above right q pieces
  merged_wind above right q d pieces merged (all_joined none m) h = order_keeps_winding (ways_of pieces)
      (ways_of merged) (IsPermutation-map way_of pieces merged m) above right q
  merged_wind above right q d pieces merged (two_join first second others m rest) h =
      merged_wind above right q d (joined first second ∷ others) merged rest
      (joined_placed pieces first second others m
      h)
      ∙ joined_winds pieces first second others m h above right q d
